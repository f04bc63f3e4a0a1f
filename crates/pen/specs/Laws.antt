-- What follows from the definitions, and laws of bytes written. Nothing here has to be believed: it is proved.
pub mod Bytes
pub mod Pen
