-- Sticks and sessions to compute with, and what is computed of them.
pub mod Sticks
pub mod Computed
