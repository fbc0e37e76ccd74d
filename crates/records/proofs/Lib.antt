-- Laws of the table: finding, joining and absorbing a record, and keys that stay apart.
pub mod TableFinding
pub mod TableJoining
pub mod TableKeys
pub mod TableStoring
-- How places and a count stand for a list of records, and what owning a log tells.
pub mod LogsPlaces
pub mod LogsOwned
-- What it is for a log to fit, and the looks that decide it.
pub mod FittingLaws
pub mod FittingZeros
pub mod SurveysLaws
pub mod FittingLooking
