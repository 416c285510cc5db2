-- What the crates above take of the crates below, so that each has to list few.
pub use Rattle.rack.proofs.Passed.{Fits, acted}
pub use Rattle.rack.proofs.Claims.{wire_to_one}
unfoldable pub use Rattle.rack.proofs.Fits.{AllFit}
pub use Rattle.rack.proofs.Fits.{fit_of, number_of, size_of, tag_fit}
pub use Rattle.rack.proofs.Parts.{at_apart, number_apart}
