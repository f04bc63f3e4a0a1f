pub mod Headings
pub mod Bodies
pub mod Laws
