pub mod Transfers
pub mod Buses
