-- What every call tests first, and the calls that only read the log.
pub mod Entering
pub mod Reads
