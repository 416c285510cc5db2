-- What holds of the result of 2C, from what holds of every error and of the good reply. Assumes nothing.
use mathlib.Core.List.{List}
use Prim.Native.Nat.{ℕ, ◌+◌, ◌-◌, ◌<◌}
use lib.Dec.{leb, ltb}
use borrow.Author.Tests.{leb-false}
use Rattle.parts.specs.Pick.{pick}
use Rattle.parts.proofs.Picks.{pick_case}
use Rattle.errors.specs.declared.RadioError.{RadioError}
use Rattle.errors.specs.declared.RadioError.TheVariants.{NoSuchBlock}
use Rattle.reply.specs.declared.RadioSide.{RadioSide}
use Rattle.reply.specs.Reply.{good}
use Rattle.reply.specs.Outcome.{CommandResult, command_result, fails}
use Rattle.block_status.specs.Status.{statuses_of, status_reply}

pub status_case : (K : CommandResult → Type 0) (v : RadioSide) (m : List ℕ) (first more : ℕ)
    → ((error : RadioError) → K (fails error v m))
    → (first < 128 → K (command_result (good (statuses_of v.core.registers v.air.session first (pick (ltb (128 - first) (more + 1)) (128 - first) (more + 1)))) v m))
    → K (status_reply v m first more)
unfolding status_reply
status_case K v m first more fail done =
    pick_case K (leb 128 first) _ _ (λ _. fail NoSuchBlock) (λ h. done (leb-false 128 first h))
