-- Laws of the calls.
pub mod CallsAnchor
pub mod CallsFormat
