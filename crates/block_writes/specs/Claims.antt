-- What is proved of 21 and 24, beside the functions' contracts: their codes are the verdict's.
use Rattle.std.specs.Prelude.{◌≡◌, Bool, true, ◌&&◌, List, [], ℕ, zero, suc, ◌+◌, ◌*◌, ◌≤◌, ⊤, Result, Ok, Err, is_ok}
use Rattle.std.proofs.lemmas.List.Edits.{sets}
use Rattle.parts.specs.Pick.{pick}
use Rattle.parts.specs.Bytes.{bytes_at}
use Rattle.tag.specs.declared.Core.{Core}
use Rattle.tag.specs.Layout.{blocks}
use Rattle.errors.specs.declared.RadioError.{RadioError}
use Rattle.errors.specs.declared.RadioError.TheVariants.{NoSuchBlock, WriteForbidden}
use Rattle.reply.specs.declared.RadioSide.{RadioSide}
use Rattle.reply.specs.Reply.{good}
use Rattle.reply.specs.Outcome.{CommandResult, command_result, fails}
use Rattle.write_reasons.specs.declared.WriteReason.{WriteReason}
use Rattle.write_reasons.specs.declared.WriteReason.TheVariants.{OutsideMap}
use Rattle.write_reasons.specs.Reasons.{is_reason}
use Rattle.write_verdict.specs.Passed.{block_situation, write_verdict}
use Rattle.block_writes.specs.Writes.{may_write_all, write_of}

-- "10h; .. 12h no right or locked"
unfoldable pub block_error : WriteReason → RadioError
block_error reason = pick (is_reason reason OutsideMap) NoSuchBlock WriteForbidden

unfoldable pub block_by : Result ⊤ WriteReason → RadioSide → List ℕ → ℕ → List ℕ → ℕ → CommandResult
block_by (Ok unit) v m block frame at = command_result (good []) v (sets m (4 * block) (bytes_at frame at 4))
block_by (Err reason) v m block frame at = fails (block_error reason) v m

-- 21: one block never leaves its area
abbrev pub WriteByVerdict : Type 0
WriteByVerdict = (v : RadioSide) (m : List ℕ) (block : ℕ) (frame : List ℕ) (at : ℕ)
    → write_of v m block 0 frame at ≡ block_by (write_verdict (block_situation v.core v.air.session block)) v m block frame at

-- the verdict allows each of n blocks from the first on
unfoldable pub all_allowed : Core → ℕ → ℕ → ℕ → Bool
all_allowed c session first zero = true
all_allowed c session first (suc n) = all_allowed c session first n && is_ok (write_verdict (block_situation c session (first + n)))

-- 24, of blocks of the memory
abbrev pub WritesByVerdict : Type 0
WritesByVerdict = (c : Core) (session first n : ℕ) → first + n ≤ blocks → may_write_all c.registers session first n ≡ all_allowed c session first n
