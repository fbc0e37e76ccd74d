-- Laws of the tests that every call begins with, and of what the calls that read say in numbers.
pub mod EnteringLaws
pub mod ReadsSays
pub mod ReadsHeld
pub mod ReadsMigration
