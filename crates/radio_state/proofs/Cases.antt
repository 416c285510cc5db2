-- What holds of the result of 02, 25 and 26, from what holds of what they leave. Assumes nothing.
use mathlib.Core.Bool.{Bool}
use mathlib.Core.List.{List, []}
use Prim.Native.Nat.{ℕ}
use Rattle.parts.proofs.Picks.{pick_case}
use Rattle.air.specs.Radio.{selected, deselected, quieted, reset}
use Rattle.reply.specs.declared.RadioSide.{RadioSide}
use Rattle.reply.specs.Reply.{nothing, good}
use Rattle.reply.specs.Outcome.{CommandResult, command_result, with_air}
use Rattle.radio_state.specs.RadioState.{stay_quiet_of, select_uid_of, reset_to_ready_of}

module _ (K : CommandResult → Type 0) (v : RadioSide) (m : List ℕ) where
  pub stay_quiet_case : K (command_result nothing (with_air (quieted v.air) v) m) → K (stay_quiet_of v m)
  unfolding stay_quiet_of
  stay_quiet_case done = done

  pub select_case : (own : Bool) → K (command_result (good []) (with_air (selected v.air) v) m)
      → K (command_result nothing (with_air (deselected v.air) v) m) → K (select_uid_of v m own)
  unfolding select_uid_of
  select_case own mine other = pick_case K _ _ _ (λ _. mine) (λ _. other)

  pub reset_case : K (command_result (good []) (with_air (reset v.air) v) m) → K (reset_to_ready_of v m)
  unfolding reset_to_ready_of
  reset_case done = done
