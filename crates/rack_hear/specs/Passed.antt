-- What the crates above take of the crates below, so that each has to list few.
pub use Rattle.rack_judge.specs.Passed.{no_tag}
