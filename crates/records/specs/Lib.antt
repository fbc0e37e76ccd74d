-- The record table, and the log that holds it.
pub mod Table
pub mod Logs
-- The BadLog test, and what a look over a log finds.
pub mod Fitting
pub mod Surveys
