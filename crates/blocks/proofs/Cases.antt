-- What holds of the result of 20 and 23, from what holds of every error and of the good reply. Assumes nothing.
use mathlib.Core.Bool.{Bool}
use mathlib.Core.List.{List}
use mathlib.Mathlib.Data.Bool.Basic.{or-eq-false-eq-eq-false-and-eq-false}
use Prim.Native.Nat.{ℕ, ◌+◌, ◌<◌}
use borrow.Author.Tests.{leb-false}
use Rattle.parts.proofs.Picks.{pick_case}
use Rattle.errors.specs.declared.RadioError.{RadioError}
use Rattle.errors.specs.declared.RadioError.TheVariants.{NoSuchBlock, ReadLeavesArea, ReadProtected}
use Rattle.reply.specs.declared.RadioSide.{RadioSide}
use Rattle.reply.specs.Reply.{good}
use Rattle.reply.specs.Outcome.{CommandResult, command_result, fails}
use Rattle.blocks.specs.Blocks.{leaves_area, blocks_of, read_of}

-- the blocks that are read are in the memory
pub read_case : (K : CommandResult → Type 0) (v : RadioSide) (m : List ℕ) (option : Bool) (first more : ℕ)
    → ((error : RadioError) → K (fails error v m))
    → (first + more < 128 → K (command_result (good (blocks_of v.core.registers v.air.session m option first (more + 1))) v m))
    → K (read_of v m option first more)
unfolding read_of leaves_area
read_case K v m option first more fail done =
    pick_case K _ _ _ (λ _. fail NoSuchBlock)
    (λ _. pick_case K (leaves_area v.core.registers.ends first (first + more)) _ _ (λ _. fail ReadLeavesArea)
    (λ h. pick_case K _ _ _ (λ _. fail ReadProtected) (λ _. done (leb-false 128 (first + more) ((or-eq-false-eq-eq-false-and-eq-false _ _).0 h).0))))
