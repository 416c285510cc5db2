-- The table of commands. What each does is `serve_command` of serve.
use Rattle.std.specs.Prelude.{Bool, true, false, List, [], ◌∷◌, ℕ, ◌+◌, ◌*◌, eqb, Option, None, Some}
use Rattle.rule_list.specs.RuleList.{first_says}
use Rattle.commands.specs.declared.Command.{Command}
use Rattle.commands.specs.declared.Command.TheVariants.{StayQuiet, Select, ResetToReady, ReadSingleBlock, ReadMultipleBlocks, WriteSingleBlock, WriteMultipleBlocks, LockBlock, GetMultipleBlockSecurityStatus, ReadConfiguration, WriteConfiguration, ReadDynamicConfiguration, WriteDynamicConfiguration, WriteMessage, ReadMessageLength, ReadMessage, PresentPassword, WritePassword}
use Rattle.commands.specs.declared.ParamSize.{ParamSize}
use Rattle.commands.specs.declared.ParamSize.TheVariants.{Bytes, BlockData, MessageData}
use Rattle.commands.specs.declared.CommandRow.{CommandRow}

-- a row, under its code
pub record CodedRow : Type 0 where
  pub code : ℕ
  pub row : CommandRow

abbrev pub table_row : ℕ → Command → Bool → ParamSize → CodedRow
table_row code command option size =
    record { code = code; row = record { command = command; option = option; size = size } }

-- the codes that the judge asks for by themselves
abbrev pub stay_quiet_code : ℕ
stay_quiet_code = 0x02

abbrev pub select_code : ℕ
select_code = 0x25

-- the commands of 01's table: code, whether the option is allowed, bytes of parameters
unfoldable pub command_table : List CodedRow
command_table =
    table_row stay_quiet_code StayQuiet false (Bytes 0)
    ∷ table_row select_code Select false (Bytes 0)
    ∷ table_row 0x26 ResetToReady false (Bytes 0)
    -- "block, or first and count-1"
    ∷ table_row 0x20 ReadSingleBlock true (Bytes 1)
    ∷ table_row 0x23 ReadMultipleBlocks true (Bytes 2)
    ∷ table_row 0x21 WriteSingleBlock true (Bytes 5)
    ∷ table_row 0x24 WriteMultipleBlocks true BlockData
    ∷ table_row 0x22 LockBlock true (Bytes 1)
    -- "first, count-1"
    ∷ table_row 0x2C GetMultipleBlockSecurityStatus false (Bytes 2)
    -- a pointer, and for a write its value
    ∷ table_row 0xA0 ReadConfiguration false (Bytes 1)
    ∷ table_row 0xA1 WriteConfiguration true (Bytes 2)
    ∷ table_row 0xAD ReadDynamicConfiguration false (Bytes 1)
    ∷ table_row 0xAE WriteDynamicConfiguration false (Bytes 2)
    -- "length-1, data"
    ∷ table_row 0xAA WriteMessage false MessageData
    ∷ table_row 0xAB ReadMessageLength false (Bytes 0)
    -- "pointer p, n"
    ∷ table_row 0xAC ReadMessage false (Bytes 2)
    -- "(n, 8 bytes)"
    ∷ table_row 0xB3 PresentPassword false (Bytes 9)
    ∷ table_row 0xB1 WritePassword true (Bytes 9)
    ∷ []

-- what a code stands for; an unknown one has no row
unfoldable pub command_of : ℕ → Option CommandRow
command_of code = first_says (λ coded. eqb code coded.code) (λ coded. Some coded.row) None command_table

unfoldable pub is_known : Option CommandRow → Bool
is_known None = false
is_known (Some row) = true

unfoldable pub takes_option : Option CommandRow → Bool
takes_option None = false
takes_option (Some row) = row.option

-- how many bytes of parameters; first and second are the frame's own first two, for
-- first, count-1 and four bytes a block, and for length-1 and data
unfoldable pub size_of : ParamSize → ℕ → ℕ → ℕ
size_of (Bytes n) first second = n
size_of BlockData first second = 2 + 4 * (second + 1)
size_of MessageData first second = 1 + (first + 1)

unfoldable pub param_bytes : Option CommandRow → ℕ → ℕ → ℕ
param_bytes None first second = 0
param_bytes (Some row) first second = size_of row.size first second
