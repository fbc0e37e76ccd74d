-- The calls that can write.
pub mod Calls
pub mod FirstAnchor
