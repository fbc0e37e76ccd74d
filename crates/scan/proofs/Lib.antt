-- Laws of opening: which header wins, what the slots come to, and what opening says of an image.
pub mod ChoosingLaws
pub mod ChoosingWinner
pub mod ReadingLaws
pub mod OpeningView
