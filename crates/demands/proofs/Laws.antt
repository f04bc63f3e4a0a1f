-- What follows from the entries' contracts. Nothing here has to be believed: it is proved.
pub mod AsTheList
pub mod Agree
pub mod RoundTrip
pub mod InTurn
pub mod CutShort
pub mod WrittenStreams
