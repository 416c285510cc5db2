pub mod Laws
pub mod Sent
pub mod Framed
pub mod Explains
