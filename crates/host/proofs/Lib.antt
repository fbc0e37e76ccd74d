-- A step in a place that the image has.
pub mod PlacesLaws
