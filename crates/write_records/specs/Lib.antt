pub mod Bodies
pub mod Images
pub mod Put
pub mod Written
pub mod Laws
