-- What the calls promise together: the words first, then the demands, one file each.
pub mod Chance
pub mod Seen
pub mod Healthy
pub mod Typed
pub mod Calls
pub mod Sessions
pub mod Demand1
pub mod Demand2
pub mod Demand3
pub mod PulledStick
pub mod Wear
pub mod Figures
pub mod Leaves
-- All of them.
pub mod Demands
