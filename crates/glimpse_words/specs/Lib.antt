pub mod Glimpsed
pub mod Laws
