-- "Opening", in the paper's order: the header that wins, the slots of its sector, and the log that they give.
pub mod Choosing
pub mod Reading
pub mod Opening
