-- The end of a read leg by what is due. Assumes nothing.
use mathlib.Core.Path.{◌≡◌, refl}
use mathlib.Core.Bool.{Bool, true, false}
use mathlib.Core.List.{List}
use Prim.Native.Nat.{ℕ}
use Rattle.parts.specs.Pick.{pick}
use Rattle.tag.specs.declared.WireSide.{WireSide}
use Rattle.effect.specs.Effect.{leg_result}
use Rattle.leg.specs.Leg.{stopped, started, nothing_due, clears, last_fetched, settle}

-- the end of a read leg, at a Start and at a Stop
pub read_started : (last : Bool) (w : WireSide) (m : List ℕ) → leg_result (pick last (last_fetched w) w) m ≡ settle started (pick last clears nothing_due) w m
unfolding pick settle
read_started true w m = refl
read_started false w m = refl

pub read_stopped : (last : Bool) (w : WireSide) (m : List ℕ) → leg_result (pick last (last_fetched w) w) m ≡ settle stopped (pick last clears nothing_due) w m
unfolding pick settle
read_stopped true w m = refl
read_stopped false w m = refl
