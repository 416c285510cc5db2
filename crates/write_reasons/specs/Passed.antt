-- What the crates above take of the crates below, so that each has to list few.
pub use Rattle.bus.specs.declared.Space.{Space}
pub use Rattle.bus.specs.declared.Space.TheVariants.{System, User}
