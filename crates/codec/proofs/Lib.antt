-- Laws of the codec: what owning a record tells, what the functions' proofs cite, and the round trips.
pub mod SlotsOwned
pub mod SlotsLaws
pub mod SlotsRoundTrip
