-- What the crates above take of the crates below, so that each has to list few.
unfoldable pub use Rattle.block_status.specs.Status.{status_of, status_reply, statuses_of}
unfoldable pub use Rattle.blocks.specs.Passed.{block_of}
unfoldable pub use Rattle.blocks.specs.Blocks.{blocks_of, leaves_area, read_of}
unfoldable pub use Rattle.block_writes.specs.Writes.{lock_of, may_write_all, write_of}
unfoldable pub use Rattle.config.specs.Config.{mailbox_after_write, read_config_of, write_config_of, written_core}
pub use Rattle.config.specs.Config.{mailbox_by_rule}
unfoldable pub use Rattle.message_writes.specs.WriteMessage.{takes_message, write_message_of}
unfoldable pub use Rattle.message.specs.Message.{asked, mailbox_after_read, read_message_of}
unfoldable pub use Rattle.password.specs.Password.{present_of, write_password_of}
