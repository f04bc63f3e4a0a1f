pub mod Laws
pub mod Text
