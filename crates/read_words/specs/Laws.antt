-- What follows from the definitions. Nothing here has to be believed: it is proved.
pub mod Told
pub mod Zeros
pub mod Ranges
pub mod Readers
pub mod VariableByte
pub mod Same
