pub mod Refusals
pub mod Places
pub mod Reached
pub mod Judging
pub mod Stored
pub mod Laws
