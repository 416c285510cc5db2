-- What the crates above take of the crates below, so that each has to list few.
pub use Rattle.register_table.specs.Table.{is_pointer, is_writable, no_place}
unfoldable pub use Rattle.register_table.specs.Table.{place_bits, row_in, row_of}
pub use Rattle.register_table.specs.declared.RegisterRow.{RegisterRow}
pub use Rattle.tag.specs.Passed.{empty_mailbox, no_message, with_enabled, with_put, with_rf_message}
pub use Rattle.tag.specs.Layout.{blocks, page, user_bytes}
pub use Rattle.tag.specs.declared.Core.{Core}
