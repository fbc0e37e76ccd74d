-- A step alone, in a place that the image has.
pub mod Places
-- What can be asked, and what comes of it.
pub mod Requests
-- The same on a lent plan.
pub mod Lent
-- Two requests in turn, and a PIN attempt.
pub mod Turns
