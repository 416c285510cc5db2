-- What holds of the result of 21, 24 and 22, from what holds of every error and of the good reply. Assumes nothing.
use mathlib.Core.List.{List, []}
use Prim.Native.Nat.{ℕ, ◌+◌, ◌*◌}
use lib.Seq.{sets}
use Rattle.parts.specs.Bits.{keep_bits}
use Rattle.parts.specs.Bytes.{bytes_at}
use Rattle.parts.proofs.Picks.{pick_case}
use Rattle.register_table.specs.Table.{ccfile_place}
use Rattle.register_types.specs.Types.{lock_cc_file_bits}
use Rattle.registers.specs.Map.{written_to}
use Rattle.errors.specs.declared.RadioError.{RadioError}
use Rattle.errors.specs.declared.RadioError.TheVariants.{TooManyBlocks, NoSuchBlock, WriteLeavesArea, WriteForbidden, NotLockable, AlreadyLocked}
use Rattle.reply.specs.declared.RadioSide.{RadioSide}
use Rattle.reply.specs.Reply.{good}
use Rattle.reply.specs.Outcome.{CommandResult, command_result, fails, side_registers}
use Rattle.block_writes.specs.Writes.{write_of, lock_of}

module _ (K : CommandResult → Type 0) (v : RadioSide) (m : List ℕ) where
  pub write_case : (first more : ℕ) (f : List ℕ) (at : ℕ) → ((error : RadioError) → K (fails error v m))
      → K (command_result (good []) v (sets m (4 * first) (bytes_at f at (4 * (more + 1)))))
      → K (write_of v m first more f at)
  unfolding write_of
  write_case first more f at fail done =
      pick_case K _ _ _ (λ _. fail TooManyBlocks)
      (λ _. pick_case K _ _ _ (λ _. fail NoSuchBlock)
      (λ _. pick_case K _ _ _ (λ _. fail WriteLeavesArea) (λ _. pick_case K _ _ _ (λ _. fail WriteForbidden) (λ _. done))))

  pub lock_case : (block : ℕ) → ((error : RadioError) → K (fails error v m))
      → K (command_result (good []) (side_registers (written_to ccfile_place (keep_bits lock_cc_file_bits v.core.registers.ccfile.bits + (block + 1)) v.core.registers) v) m)
      → K (lock_of v m block)
  unfolding lock_of
  lock_case block fail done =
      pick_case K _ _ _ (λ _. fail NotLockable) (λ _. pick_case K _ _ _ (λ _. fail AlreadyLocked) (λ _. done))
