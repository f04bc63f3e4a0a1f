-- What follows from the definitions. Nothing here has to be believed: it is proved.
pub mod Copied
pub mod Reading
pub mod Answers
pub mod Same
