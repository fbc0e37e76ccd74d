-- Laws of reading a script: each part, and that what is written reads back.
pub mod WordsEnds
pub mod DecimalsAmounts
pub mod WordsBehind
pub mod HexPairs
pub mod RoundTrip
pub mod LimitsLaws
