-- Commands that write blocks: 21, 24 Write; 22 Lock.
use Rattle.std.specs.Prelude.{Bool, true, not, ◌&&◌, List, [], ℕ, zero, suc, ◌+◌, ◌*◌, leb, ltb}
use Rattle.std.proofs.lemmas.List.Edits.{sets}
use Rattle.parts.specs.Pick.{pick}
use Rattle.parts.specs.Bits.{keep_bits}
use Rattle.parts.specs.Bytes.{bytes_at}
use Rattle.registers.specs.declared.Registers.{Registers}
use Rattle.register_table.specs.Table.{ccfile_place}
use Rattle.register_types.specs.Types.{lock_cc_file_bits}
use Rattle.registers.specs.Map.{written_to}
use Rattle.rights.specs.declared.Side.TheVariants.{Radio}
use Rattle.rights.specs.Rights.{is_locked, may_write}
use Rattle.tag.specs.Layout.{blocks}
use Rattle.errors.specs.declared.RadioError.TheVariants.{TooManyBlocks, NoSuchBlock, WriteLeavesArea, WriteForbidden, NotLockable, AlreadyLocked}
use Rattle.reply.specs.declared.RadioSide.{RadioSide}
use Rattle.reply.specs.Reply.{good}
use Rattle.reply.specs.Outcome.{CommandResult, command_result, fails, side_registers}
use Rattle.blocks.specs.Blocks.{leaves_area}

-- the radio may write n blocks from the first on
unfoldable pub may_write_all : Registers → ℕ → ℕ → ℕ → Bool
may_write_all r session first zero = true
may_write_all r session first (suc n) = may_write_all r session first n && may_write r (Radio session) (first + n)

-- "21, 24 Write: 24: count-1 at most 3, else 0Fh; 10h; 0Fh leaves area or memory; 12h no right or locked";
-- the data stand at place `at` of the frame
unfoldable pub write_of : RadioSide → List ℕ → ℕ → ℕ → List ℕ → ℕ → CommandResult
write_of v m first more frame at =
    pick (ltb 3 more) (fails TooManyBlocks v m)
    (pick (leb blocks first) (fails NoSuchBlock v m)
    (pick (leaves_area v.core.registers.ends first (first + more)) (fails WriteLeavesArea v m)
    (pick (not (may_write_all v.core.registers v.air.session first (more + 1))) (fails WriteForbidden v m)
    (command_result (good []) v (sets m (4 * first) (bytes_at frame at (4 * (more + 1))))))))

-- "22 Lock: 10h block above 1; 11h already locked": sets the block's bit of LOCK_CCFILE
unfoldable pub lock_of : RadioSide → List ℕ → ℕ → CommandResult
lock_of v m block =
    pick (ltb 1 block) (fails NotLockable v m)
    (pick (is_locked v.core.registers.ccfile block) (fails AlreadyLocked v m)
    (command_result (good []) (side_registers (written_to ccfile_place (keep_bits lock_cc_file_bits v.core.registers.ccfile.bits + (block + 1)) v.core.registers) v) m))
