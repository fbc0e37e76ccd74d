-- "Slot layouts": what the ten bytes of a body say.
pub mod Bodies
