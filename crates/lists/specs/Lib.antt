pub mod Judged
pub mod Tests
pub mod Laws
