-- What a leg does when it ends.
use Rattle.std.specs.Prelude.{Bool, false, List, ℕ}
use Rattle.parts.specs.Pick.{pick}
use Rattle.bus.specs.declared.Space.{Space}
use Rattle.bus.specs.declared.Space.TheVariants.{User, System}
use Rattle.tag.specs.declared.WireSide.{WireSide}
use Rattle.mailbox.specs.Mailbox.{host_read}
use Rattle.tag.specs.Parts.{with_mailbox, with_wire_core}
use Rattle.dynamic.specs.Dynamic.{host_writes}
use Rattle.effect.specs.Effect.{LegResult, leg_result}
use Rattle.user_leg.specs.UserLeg.{user_written}
use Rattle.system_leg.specs.SystemLeg.{system_written}

-- the bytes, one or more, all Acked, of a write leg in a space from its first address on
unfoldable pub leg_written : Space → WireSide → List ℕ → ℕ → List ℕ → LegResult
leg_written User w m first bytes = user_written w m first bytes
leg_written System w m first bytes = system_written w m first bytes

-- how a leg ends
pub data End : Type 0 where
  stopped : End
  started : End
  power_lost : End

-- what a leg has due at its end: nothing; RF_PUT cleared; or its bytes, from an address of a space, written
pub data Due : Type 0 where
  nothing_due : Due
  clears : Due
  writes : Space → ℕ → List ℕ → Due

-- "Fetching the last byte of an RF message clears RF_PUT at the leg's end"
abbrev pub last_fetched : WireSide → WireSide
last_fetched w = with_wire_core (with_mailbox (host_read w.core.mailbox) w.core) w

-- "an unspoiled leg that wrote RF_MNGT_Dyn or MB_CTRL_Dyn now takes effect when the leg ends in Start as well as in Stop. Memory, system, password and mailbox legs keep needing the Stop." (02, Ask 1)
unfoldable pub acts_at_start : Space → ℕ → Bool
acts_at_start User first = host_writes first
acts_at_start System first = false

-- "All of a leg's writes happen at the Stop; a Start or VCC off instead drops them (house)", but for those
unfoldable pub settle : End → Due → WireSide → List ℕ → LegResult
settle stopped nothing_due w m = leg_result w m
settle stopped clears w m = leg_result (last_fetched w) m
settle stopped (writes space first bytes) w m = leg_written space w m first bytes
settle started nothing_due w m = leg_result w m
settle started clears w m = leg_result (last_fetched w) m
settle started (writes space first bytes) w m = pick (acts_at_start space first) (leg_written space w m first bytes) (leg_result w m)
settle power_lost nothing_due w m = leg_result w m
settle power_lost clears w m = leg_result w m
settle power_lost (writes space first bytes) w m = leg_result w m
