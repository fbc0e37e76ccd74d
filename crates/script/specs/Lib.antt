-- What stands in a line of a replay script.
pub mod Words
pub mod Decimals
pub mod Hex
-- What is promised of the numbers of a line.
pub mod Limits
