-- The laws of the shared words, one file each.
pub mod ChoiceLaws
pub mod ListsLaws
pub mod ListsSplice
pub mod LittleLaws
pub mod AnswersLaws
pub mod SaysLaws
