-- "Tries": the applet helpers.
pub mod Tries
