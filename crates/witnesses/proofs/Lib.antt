-- The premises are met; and the one of the chance match is needed.
pub mod Computed
pub mod Witness
pub mod Matched
