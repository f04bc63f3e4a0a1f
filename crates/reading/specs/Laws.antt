-- What follows from the definitions. Nothing here has to be believed: it is proved.
pub mod Refusals
pub mod Steps
pub mod Places
pub mod Reached
pub mod Words
pub mod Judging
pub mod Naturals
pub mod Stored
pub mod Same
