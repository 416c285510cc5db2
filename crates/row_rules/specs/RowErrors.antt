-- The errors of 01's table of commands, row by row: the condition of each, by itself, and the order of a row.
use Rattle.std.specs.Prelude.{Bool, not, ◌||◌, List, [], ◌∷◌, ℕ, ◌+◌, leb, ltb, eqb, Option, None, Some, Result, Ok, Err}
use Rattle.parts.specs.Pick.{pick}
use Rattle.parts.specs.Bits.{is_set}
use Rattle.rule_list.specs.RuleList.{first_says}
use Rattle.dynamic.specs.Dynamic.{mb_ctrl_pointer}
use Rattle.register_types.specs.declared.RfMngt.{RfMngt}
use Rattle.register_table.specs.Table.{is_pointer}
use Rattle.areas.specs.Ends.{end_allows}
use Rattle.rights.specs.declared.Side.TheVariants.{Radio}
use Rattle.rights.specs.Rights.{may_read, is_locked}
use Rattle.keys.specs.Keys.{password_at, same_password, radio_password}
use Rattle.tag.specs.Layout.{blocks}
use Rattle.errors.specs.declared.RadioError.{RadioError}
use Rattle.errors.specs.declared.RadioError.TheVariants.{ShutOut, UnknownCommand, UnsupportedFlags, WrongLength, NoSuchBlock, ReadLeavesArea, ReadProtected, TooManyBlocks, WriteLeavesArea, WriteForbidden, NotLockable, AlreadyLocked, NoSuchRegister, ConfigurationClosed, EndRefused, NoSuchDynamicRegister, MailboxUnavailable, MailboxDisabled, PastMessage, NoSuchPassword, WrongPassword, PasswordSessionClosed}
use Rattle.reply.specs.declared.RadioSide.{RadioSide}
use Rattle.commands.specs.declared.Command.{Command}
use Rattle.commands.specs.declared.Command.TheVariants.{StayQuiet, Select, ResetToReady, ReadSingleBlock, ReadMultipleBlocks, WriteSingleBlock, WriteMultipleBlocks, LockBlock, GetMultipleBlockSecurityStatus, ReadConfiguration, WriteConfiguration, ReadDynamicConfiguration, WriteDynamicConfiguration, WriteMessage, ReadMessageLength, ReadMessage, PresentPassword, WritePassword}
use Rattle.commands.specs.declared.CommandRow.{CommandRow}
use Rattle.frame.specs.Fields.{command, param_place, param}
use Rattle.judge.specs.Judge.{error_holds, isShutOut, isUnknown, hasBadFlags, hasWrongLength}
use Rattle.blocks.specs.Blocks.{leaves_area}
use Rattle.serve.specs.Passed.{may_write_all}
use Rattle.message.specs.Message.{asked}
use Rattle.message_writes.specs.WriteMessage.{takes_message}

-- a request's block, first block, pointer or number
abbrev pub first_param : List ℕ → ℕ
first_param f = param f 0

-- "block, or first and count-1": 20 and 21 take one block
unfoldable pub more_blocks : List ℕ → ℕ
more_blocks f = pick (eqb (command f) 0x23 || eqb (command f) 0x24) (param f 1) 0

-- the condition of each error, of the radio side v and the frame f; those of the judge also of RF_MNGT_Dyn as it counts,
-- and of `busy`: a transfer open or programming
unfoldable pub error_applies : RfMngt → Bool → RadioSide → List ℕ → RadioError → Bool
error_applies dynamic busy v f ShutOut = error_holds f dynamic busy isShutOut
error_applies dynamic busy v f UnknownCommand = error_holds f dynamic busy isUnknown
error_applies dynamic busy v f UnsupportedFlags = error_holds f dynamic busy hasBadFlags
error_applies dynamic busy v f WrongLength = error_holds f dynamic busy hasWrongLength
-- "10h first above 127"
error_applies dynamic busy v f NoSuchBlock = leb blocks (first_param f)
-- 20, 23: "0Fh leaves area or memory"
error_applies dynamic busy v f ReadLeavesArea = leaves_area v.core.registers.ends (first_param f) (first_param f + more_blocks f)
-- "15h protected"
error_applies dynamic busy v f ReadProtected = not (may_read v.core.registers (Radio v.air.session) (first_param f))
-- "24: count-1 at most 3, else 0Fh"
error_applies dynamic busy v f TooManyBlocks = ltb 3 (more_blocks f)
-- 21, 24: "0Fh leaves area or memory"
error_applies dynamic busy v f WriteLeavesArea = leaves_area v.core.registers.ends (first_param f) (first_param f + more_blocks f)
-- "12h no right or locked"
error_applies dynamic busy v f WriteForbidden = not (may_write_all v.core.registers v.air.session (first_param f) (more_blocks f + 1))
-- "10h block above 1"
error_applies dynamic busy v f NotLockable = ltb 1 (first_param f)
-- "11h already locked"
error_applies dynamic busy v f AlreadyLocked = is_locked v.core.registers.ccfile (first_param f)
-- "pointers 03-0A, 0D, 0F, else 10h"
error_applies dynamic busy v f NoSuchRegister = not (is_pointer (first_param f))
-- "A1: 12h if LOCK_CFG or password 0 session closed"
error_applies dynamic busy v f ConfigurationClosed = is_set 1 v.core.registers.config.bits || not (eqb v.air.session 1)
-- "0Fh ENDA"
error_applies dynamic busy v f EndRefused = not (end_allows v.core.registers.ends (first_param f) (param f 1))
-- "pointer 0D, else 10h"
error_applies dynamic busy v f NoSuchDynamicRegister = not (eqb (first_param f) mb_ctrl_pointer)
-- "0Fh unless MB_EN and no PUT"
error_applies dynamic busy v f MailboxUnavailable = not (takes_message v.core.mailbox)
-- "0Fh if MB_EN is 0"
error_applies dynamic busy v f MailboxDisabled = not v.core.mailbox.enabled
-- "0Fh past or empty"
error_applies dynamic busy v f PastMessage =
    ltb v.core.mailbox.length (first_param f + asked v.core.mailbox (first_param f) (param f 1)) || eqb v.core.mailbox.length 0
-- "10h n above 3"
error_applies dynamic busy v f NoSuchPassword = ltb 3 (first_param f)
-- "wrong: .. 0Fh"
error_applies dynamic busy v f WrongPassword = not (same_password (radio_password v.core.passwords (first_param f)) (password_at f (param_place f + 1)))
-- "12h unless session n"
error_applies dynamic busy v f PasswordSessionClosed = not (eqb v.air.session (first_param f + 1))

-- ---- the rows that more than one command has, each in its order
-- "20, 23 Read"
abbrev pub read_errors : List RadioError
read_errors = NoSuchBlock ∷ ReadLeavesArea ∷ ReadProtected ∷ []

-- "21, 24 Write"
abbrev pub write_errors : List RadioError
write_errors = TooManyBlocks ∷ NoSuchBlock ∷ WriteLeavesArea ∷ WriteForbidden ∷ []

-- ---- the errors of each command's row, in its order
unfoldable pub command_errors : Command → List RadioError
command_errors StayQuiet = []
command_errors Select = []
command_errors ResetToReady = []
command_errors ReadSingleBlock = read_errors
command_errors ReadMultipleBlocks = read_errors
command_errors WriteSingleBlock = write_errors
command_errors WriteMultipleBlocks = write_errors
command_errors LockBlock = NotLockable ∷ AlreadyLocked ∷ []
command_errors GetMultipleBlockSecurityStatus = NoSuchBlock ∷ []
command_errors ReadConfiguration = NoSuchRegister ∷ []
command_errors WriteConfiguration = NoSuchRegister ∷ ConfigurationClosed ∷ EndRefused ∷ []
command_errors ReadDynamicConfiguration = NoSuchDynamicRegister ∷ []
command_errors WriteDynamicConfiguration = NoSuchDynamicRegister ∷ []
command_errors WriteMessage = MailboxUnavailable ∷ []
command_errors ReadMessageLength = MailboxDisabled ∷ []
command_errors ReadMessage = MailboxDisabled ∷ PastMessage ∷ []
command_errors PresentPassword = NoSuchPassword ∷ WrongPassword ∷ []
command_errors WritePassword = NoSuchPassword ∷ PasswordSessionClosed ∷ []

unfoldable pub row_errors : Option CommandRow → List RadioError
row_errors None = []
row_errors (Some row) = command_errors row.command

-- the first of a list that applies, or none
unfoldable pub first_applying : RfMngt → Bool → RadioSide → List ℕ → List RadioError → Result (Unit {0}) RadioError
first_applying dynamic busy v f errors = first_says (error_applies dynamic busy v f) Err (Ok tt) errors
