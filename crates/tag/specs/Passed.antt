-- What the crates above take of the crates below, so that each has to list few.
pub use Rattle.registers.specs.Map.{with_dynamic}
pub use Rattle.mailbox.specs.Mailbox.{empty_mailbox, no_message}
pub use Rattle.mailbox.specs.Parts.{with_enabled, with_put, with_rf_message}
