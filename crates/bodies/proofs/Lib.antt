-- Laws of bodies: fields read one by one, and the round trips of counters, values and anchors.
pub mod BodiesFields
pub mod BodiesRoundTrip
