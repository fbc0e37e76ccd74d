-- The checksum as document 01 has it, which computes; and the standard that document 01 names.
pub mod Register
pub mod Ieee
