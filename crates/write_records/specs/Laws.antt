-- What follows from the definitions. Nothing here has to be believed: it is proved.
pub mod Bodies
pub mod Images
pub mod Same
