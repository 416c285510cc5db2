-- What the crates above take of the crates below, so that each has to list few.
unfoldable pub use Rattle.serve.specs.Passed.{status_of, status_reply, statuses_of, block_of, blocks_of, leaves_area, read_of, lock_of, may_write_all, write_of, mailbox_after_write, read_config_of, write_config_of, written_core, present_of, write_password_of}
unfoldable pub use Rattle.serve.specs.Commands.{serve_code, serve_command, serve_of}
