pub mod Asked
pub mod Reads
pub mod Laws
