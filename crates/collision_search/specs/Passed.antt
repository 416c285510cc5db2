-- What the crates above take of the crates below, so that each has to list few.
pub use Rattle.rack_search.specs.Search.{SearchResult, search_entry, search_result}
pub use Rattle.rack_search.specs.Search.{SearchAnswer}
