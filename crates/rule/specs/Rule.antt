-- Whether a data byte is Acked: byte x, the leg's data byte k (from 0), of a write leg in a space from a first address, after its earlier bytes.
-- The signal step, the whole leg and the range on page bytes all ask this one definition.
use Rattle.std.specs.Prelude.{Bool, ◌&&◌, List, ℕ, ltb}
use Rattle.bus.specs.declared.Space.{Space}
use Rattle.bus.specs.declared.Space.TheVariants.{User, System}
use Rattle.write_rules.specs.Passed.{Core}
use Rattle.rule.specs.UserRule.{user_acked}
use Rattle.rule.specs.SystemRule.{system_acked}

unfoldable pub space_acked : Space → Core → Bool → ℕ → ℕ → List ℕ → ℕ → Bool
space_acked User c session first k earlier x = user_acked c session first k
space_acked System c session first k earlier x = system_acked c session first k earlier x

-- "Data is Acked up to 256 bytes when .."; "All else .. is NoAcked."
unfoldable pub acked : Space → Core → Bool → ℕ → ℕ → List ℕ → ℕ → Bool
acked space c session first k earlier x = ltb k 256 && space_acked space c session first k earlier x
