-- Commands that read blocks: 20, 23 Read.
use Rattle.std.specs.Prelude.{Bool, not, ◌||◌, List, [], ◌++◌, ℕ, zero, suc, ◌+◌, leb, eqb}
use Rattle.parts.specs.Pick.{pick}
use Rattle.registers.specs.declared.Ends.{Ends}
use Rattle.registers.specs.declared.Registers.{Registers}
use Rattle.rights.specs.declared.Side.TheVariants.{Radio}
use Rattle.areas.specs.Ends.{area_of_block}
use Rattle.rights.specs.Rights.{may_read}
use Rattle.tag.specs.Layout.{blocks}
use Rattle.errors.specs.declared.RadioError.TheVariants.{NoSuchBlock, ReadLeavesArea, ReadProtected}
use Rattle.reply.specs.declared.RadioSide.{RadioSide}
use Rattle.reply.specs.Reply.{good}
use Rattle.reply.specs.Outcome.{CommandResult, command_result, fails}
use Rattle.block_bytes.specs.Block.{block_of}

-- blocks first to last "leaves area or memory"
unfoldable pub leaves_area : Ends → ℕ → ℕ → Bool
leaves_area e first last = leb blocks last || not (eqb (area_of_block e first) (area_of_block e last))

-- n blocks from the first on
unfoldable pub blocks_of : Registers → ℕ → List ℕ → Bool → ℕ → ℕ → List ℕ
blocks_of r session m option first zero = []
blocks_of r session m option first (suc n) = blocks_of r session m option first n ++ block_of r session m option (first + n)

-- "20, 23 Read: block, or first and count-1; 10h first above 127; 0Fh leaves area or memory; 15h protected"; more is count-1
unfoldable pub read_of : RadioSide → List ℕ → Bool → ℕ → ℕ → CommandResult
read_of v m option first more =
    pick (leb blocks first) (fails NoSuchBlock v m)
    (pick (leaves_area v.core.registers.ends first (first + more)) (fails ReadLeavesArea v m)
    (pick (not (may_read v.core.registers (Radio v.air.session) first)) (fails ReadProtected v m)
    (command_result (good (blocks_of v.core.registers v.air.session m option first (more + 1))) v m)))
