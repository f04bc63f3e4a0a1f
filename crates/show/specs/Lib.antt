pub mod Laws
pub mod Next
pub mod Steps
