-- "Slot layouts": the sixteen bytes of a slot.
pub mod Slots
