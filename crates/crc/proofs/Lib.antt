-- What callers cite of the register.
pub mod RegisterRunning
pub mod RegisterBounds
-- Towards the standard: polynomials and numbers as bits, and the register as a step of the long division.
pub mod IeeePolynomials
pub mod IeeeBits
pub mod RegisterLinear
pub mod RegisterSerial
pub mod IeeeDivision
pub mod IeeeRemainder
-- The theorems: the checksum is the standard's, and what errors it detects.
pub mod IeeeCheck
pub mod IeeeDetect
