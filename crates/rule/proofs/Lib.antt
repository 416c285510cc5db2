pub mod AckedByte
pub mod Agree
