-- Laws of the listing: its lines place by place, how long it can be, and its cases.
pub mod ListingLines
pub mod ListingBounds
pub mod ListingCases
