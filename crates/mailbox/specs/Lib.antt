pub mod Parts
pub mod Mailbox
