-- The table under its codes: a row's command has its code. Assumes nothing.
use mathlib.Core.Path.{◌≡◌, refl, sym, ◌∙◌}
use mathlib.Core.Bool.{Bool, false, true, not}
use Prim.Native.Nat.{ℕ}
use lib.Dec.{eqb}
use borrow.Author.Tests.{eqb-true, not-false}
use Rattle.rule_list.specs.RuleList.{any_holds}
use Rattle.commands.specs.declared.Command.{Command}
use Rattle.commands.specs.declared.Command.TheVariants.{StayQuiet, Select, ResetToReady, ReadSingleBlock, ReadMultipleBlocks, WriteSingleBlock, WriteMultipleBlocks, LockBlock, GetMultipleBlockSecurityStatus, ReadConfiguration, WriteConfiguration, ReadDynamicConfiguration, WriteDynamicConfiguration, WriteMessage, ReadMessageLength, ReadMessage, PresentPassword, WritePassword}
use Rattle.commands.specs.Table.{CodedRow, command_table}

-- the code of each command
unfoldable pub code_of : Command → ℕ
code_of StayQuiet = 0x02
code_of Select = 0x25
code_of ResetToReady = 0x26
code_of ReadSingleBlock = 0x20
code_of ReadMultipleBlocks = 0x23
code_of WriteSingleBlock = 0x21
code_of WriteMultipleBlocks = 0x24
code_of LockBlock = 0x22
code_of GetMultipleBlockSecurityStatus = 0x2C
code_of ReadConfiguration = 0xA0
code_of WriteConfiguration = 0xA1
code_of ReadDynamicConfiguration = 0xAD
code_of WriteDynamicConfiguration = 0xAE
code_of WriteMessage = 0xAA
code_of ReadMessageLength = 0xAB
code_of ReadMessage = 0xAC
code_of PresentPassword = 0xB3
code_of WritePassword = 0xB1

pub differs : CodedRow → Bool
differs coded = not (eqb (code_of coded.row.command) coded.code)

pub as_in_table : any_holds differs command_table ≡ false
unfolding any_holds command_table differs code_of
as_in_table = refl

pub named : (code : ℕ) (coded : CodedRow) → eqb code coded.code ≡ true → differs coded ≡ false → code_of coded.row.command ≡ code
unfolding differs
named code coded h k =
    let own = code_of coded.row.command in
    eqb-true own coded.code (not-false (eqb own coded.code) k) ∙ sym (eqb-true code coded.code h)
