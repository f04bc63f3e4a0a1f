-- What follows from the definitions. Nothing here has to be believed: it is proved.
pub mod Tests
pub mod Signs
pub mod Judging
pub mod Same
pub mod Numbers
