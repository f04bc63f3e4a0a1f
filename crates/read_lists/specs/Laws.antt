-- What follows from the definitions. Nothing here has to be believed: it is proved.
pub mod Below
pub mod Through
