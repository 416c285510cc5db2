-- What the crates above take of the crates below, so that each has to list few.
pub use Rattle.signal.proofs.Ended.{start_case, start_host, start_registers, stop_line, stop_shut}
