-- The codes of 21 and 24 are the verdict's. Assumes nothing.
use Prim.{tt}
use mathlib.Core.Path.{◌≡◌, refl, sym, ap₂, ◌∙◌}
use mathlib.Core.Bool.{Bool, true, false, not, ◌&&◌}
use mathlib.Core.List.{List, []}
use Prim.Native.Nat.{ℕ, zero, suc, ◌+◌, ◌*◌, ◌<◌}
use native.Mathlib.Omega.{arith}
use lib.Dec.{leb}
use lib.Seq.{sets}
use borrow.Author.Tests.{leb-false, lt-leb}
use Rattle.std.specs.Prelude.{Option, Ok, Err, is_ok}
use Rattle.parts.specs.Pick.{pick}
use Rattle.parts.specs.Bytes.{bytes_at}
use Rattle.errors.specs.declared.RadioError.TheVariants.{NoSuchBlock, WriteForbidden}
use Rattle.reply.specs.declared.RadioSide.{RadioSide}
use Rattle.reply.specs.Reply.{good}
use Rattle.reply.specs.Outcome.{CommandResult, command_result, fails}
use Rattle.write_reasons.specs.declared.WritePlace.TheVariants.{UserMemory}
use Rattle.write_reasons.specs.declared.WriteReason.TheVariants.{LockedBlock, AreaNeverWritable, SessionNeeded}
use Rattle.write_verdict.specs.Passed.{block_place, block_situation, write_verdict}
use Rattle.write_verdict.proofs.Passed.{radio_unmapped, block_chain}
use Rattle.block_writes.specs.Writes.{may_write_all, write_of}
use Rattle.block_writes.specs.Claims.{block_error, block_by, WriteByVerdict, all_allowed, WritesByVerdict}
use Rattle.block_writes.proofs.Inside.{one_block, stays, write_right_lem}

in_memory : (block : ℕ) → block < 128 → block_place block ≡ UserMemory
unfolding block_place pick
in_memory block l = rw (lt-leb 128 block l)

module _ (v : RadioSide) (m : List ℕ) (block : ℕ) (frame : List ℕ) (at : ℕ) where
  done : CommandResult
  done = command_result (good []) v (sets m (4 * block) (bytes_at frame at 4))

  forbidden : CommandResult
  forbidden = fails WriteForbidden v m

  -- each reason that a block of the memory can be given has the same code
  chain : (a b c : Bool) (key : Option ℕ)
      → pick (is_ok (pick a (Err LockedBlock) (pick b (Err AreaNeverWritable) (pick c (Err (SessionNeeded key)) (Ok (tt {0})))))) done forbidden
      ≡ block_by (pick a (Err LockedBlock) (pick b (Err AreaNeverWritable) (pick c (Err (SessionNeeded key)) (Ok (tt {0}))))) v m block frame at
  unfolding done forbidden block_by block_error pick
  chain true b c key = refl
  chain false true c key = refl
  chain false false true key = refl
  chain false false false key = refl

  turned : (b : Bool) (x y : CommandResult) → pick (not b) x y ≡ pick b y x
  unfolding pick
  turned true x y = refl
  turned false x y = refl

  inner : block < 128 → pick (is_ok (write_verdict (block_situation v.core v.air.session block))) done forbidden
      ≡ block_by (write_verdict (block_situation v.core v.air.session block)) v m block frame at
  inner l = rw (in_memory block l, block_chain v.core v.air.session (4 * block) block 0 _ refl) (chain _ _ _ _)

  past : leb 128 block ≡ true → fails NoSuchBlock v m ≡ block_by (write_verdict (block_situation v.core v.air.session block)) v m block frame at
  unfolding block_place block_by block_error pick
  past h = rw (h, radio_unmapped)

  opened : pick (is_ok (write_verdict (block_situation v.core v.air.session block))) (command_result (good []) v (sets m (4 * block) (bytes_at frame at (4 * (0 + 1))))) (fails WriteForbidden v m)
      ≡ pick (is_ok (write_verdict (block_situation v.core v.air.session block))) done forbidden
  unfolding done forbidden
  opened = refl

  row : (b : Bool) → leb 128 block ≡ b → write_of v m block 0 frame at ≡ block_by (write_verdict (block_situation v.core v.air.session block)) v m block frame at
  unfolding write_of pick
  row true h = rw h (past h)
  row false h =
      let l = leb-false 128 block h in
      rw (h, stays v.core.registers.ends block (block + 0) (omega arith) (omega arith), write_right_lem v.core.registers v.air.session block, ← one_block v.core v.air.session block l)
      (turned (is_ok (write_verdict (block_situation v.core v.air.session block))) (fails WriteForbidden v m) (command_result (good []) v (sets m (4 * block) (bytes_at frame at (4 * (0 + 1)))))
      ∙ opened ∙ inner l)

pub write_by_verdict : WriteByVerdict
write_by_verdict v m block frame at = row v m block frame at (leb 128 block) refl

pub writes_by_verdict : WritesByVerdict
unfolding may_write_all all_allowed
writes_by_verdict c session first zero l = refl
writes_by_verdict c session first (suc n) l =
    ap₂ (λ (a b : Bool). a && b) (writes_by_verdict c session first n (omega arith)) (sym (one_block c session (first + n) (omega arith)))
