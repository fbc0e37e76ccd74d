-- The listing of an image.
pub mod Listing
