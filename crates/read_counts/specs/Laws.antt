-- What follows from the definitions. Nothing here has to be believed: it is proved.
pub mod Counts
pub mod Told
pub mod Same
