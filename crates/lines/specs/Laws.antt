-- What follows from the definitions. Nothing here has to be believed: it is proved.
pub mod Cases
pub mod Room
pub mod Stands
pub mod Text
