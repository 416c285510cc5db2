-- What the crates above take of the crates below, so that each has to list few.
pub use Rattle.rack.proofs.Fits.{number_of}
pub use Rattle.rack.proofs.Parts.{number_apart}
