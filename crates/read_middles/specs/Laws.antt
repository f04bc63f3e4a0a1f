-- What follows from the definitions. Nothing here has to be believed: it is proved.
pub mod Next
pub mod Offset
pub mod Parts
pub mod Instants
pub mod Body
pub mod Same
