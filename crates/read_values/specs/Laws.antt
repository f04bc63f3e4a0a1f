-- What follows from the definitions. Nothing here has to be believed: it is proved.
pub mod Values
pub mod Signs
pub mod Told
pub mod Reading
pub mod Same
