pub mod Table
pub mod Named
pub mod Laws
pub mod Reasons
