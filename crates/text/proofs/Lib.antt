-- Laws of text: how puts make one text, and what the digits of a number say.
pub mod TextPutting
pub mod TextDecimal
pub mod TextHex
