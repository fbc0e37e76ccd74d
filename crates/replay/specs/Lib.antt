-- What the parts of the program ask of a session, so that no index is out of range.
pub mod Limits
