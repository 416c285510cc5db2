-- What the crates above take of the crates below, so that each has to list few.
pub use Rattle.block_status.proofs.Cases.{status_case}
pub use Rattle.block_status.proofs.Statuses.{counted_le, length_statuses}
pub use Rattle.blocks.proofs.Cases.{read_case}
pub use Rattle.blocks.proofs.Runs.{blocks_le}
pub use Rattle.block_writes.proofs.Cases.{lock_case, write_case}
pub use Rattle.config.proofs.Cases.{read_config_case, write_config_case}
pub use Rattle.message_writes.proofs.Cases.{write_message_case}
pub use Rattle.message.proofs.Cases.{length_case, read_message_case}
pub use Rattle.password.proofs.Cases.{present_case, write_password_case}
