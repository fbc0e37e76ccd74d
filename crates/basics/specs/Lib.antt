-- The vocabulary of all specs, in five short files.
pub mod Choice
pub mod Lists
pub mod Little
pub mod Answers
pub mod Says
