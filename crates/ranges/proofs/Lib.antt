pub mod Fresh
pub mod MailboxKept
pub mod RegistersKept
pub mod AirKept
