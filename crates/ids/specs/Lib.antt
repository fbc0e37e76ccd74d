-- What the numbers in a record stand for, and the counter of tries.
pub mod Ids
pub mod Counters
