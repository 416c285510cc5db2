-- What the crates above take of the crates below, so that each has to list few.
unfoldable pub use Rattle.rule.specs.Rule.{acked, space_acked}
unfoldable pub use Rattle.rule.specs.SystemRule.{register_acked, system_acked}
unfoldable pub use Rattle.rule.specs.UserRule.{mailbox_acked, user_acked}
