-- What the crates above take of the crates below, so that each has to list few.
unfoldable pub use Rattle.ranges.specs.Ranges.{air_in_range, core_in_range, in_range, supplied_in_range, wire_in_range}
unfoldable pub use Rattle.page.specs.PageRange.{bus_in_range, page_acked}
