pub mod Tells
pub mod Laws
