pub mod Told
pub mod Streams
pub mod Laws
