pub mod Flat
pub mod Reads
pub mod Laws
