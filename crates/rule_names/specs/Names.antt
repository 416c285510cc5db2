-- The names of rules by number, letter for letter.
use Rattle.std.specs.Prelude.{List, [] as []ᴸ, ◌∷◌ as ◌∷ᴸ◌, map, ℕ, get_or, None}
use Prim.Native.Char.{code}
use Prim.Native.String.{String, [], ◌∷◌}
use Rattle.write_reasons.specs.declared.WriteReason.TheVariants.{LegSpoiled, OutsideMap, MailboxModeOn, ModeOff, MailboxBusy, MailboxLegNotFrom2008, AnotherArea, LockedBlock, AreaNeverWritable, ConfigurationLocked, SessionNeeded, RegisterReadOnly, PasswordCode, EndaRule, PageFull}
use Rattle.errors.specs.declared.RadioError.TheVariants.{ShutOut, UnknownCommand, UnsupportedFlags, WrongLength, NoSuchBlock, ReadLeavesArea, ReadProtected, TooManyBlocks, WriteLeavesArea, WriteForbidden, NotLockable, AlreadyLocked, NoSuchRegister, ConfigurationClosed, EndRefused, NoSuchDynamicRegister, MailboxUnavailable, MailboxDisabled, PastMessage, NoSuchPassword, WrongPassword, PasswordSessionClosed}
use Rattle.silence_rules.specs.Silence.{no_field, rfSleep, badSize, badCrc, bothFlags, otherMaker, otherUid, notSelected, neitherWhenQuiet, notAddressed}
use Rattle.rule_names.specs.Rules.{Rule, byte_forbidden, noVcc, noStart, inReadLeg, otherSelectByte, programmingNow, silent, inventory_silence, own_silence, failed, rule_words}

-- the bytes of a text
unfoldable pub string_bytes : String → List ℕ
string_bytes [] = []ᴸ
string_bytes (x ∷ rest) = code x ∷ᴸ string_bytes rest

-- every rule, in the order of the numbers, from 1; whichever session is needed, number and name are the same
unfoldable pub all_rules : List Rule
all_rules =
    byte_forbidden LegSpoiled
    ∷ᴸ byte_forbidden OutsideMap
    ∷ᴸ byte_forbidden MailboxModeOn
    ∷ᴸ byte_forbidden ModeOff
    ∷ᴸ byte_forbidden MailboxBusy
    ∷ᴸ byte_forbidden MailboxLegNotFrom2008
    ∷ᴸ byte_forbidden AnotherArea
    ∷ᴸ byte_forbidden LockedBlock
    ∷ᴸ byte_forbidden AreaNeverWritable
    ∷ᴸ byte_forbidden ConfigurationLocked
    ∷ᴸ byte_forbidden (SessionNeeded None)
    ∷ᴸ byte_forbidden RegisterReadOnly
    ∷ᴸ byte_forbidden PasswordCode
    ∷ᴸ byte_forbidden EndaRule
    ∷ᴸ byte_forbidden PageFull
    ∷ᴸ noVcc
    ∷ᴸ noStart
    ∷ᴸ inReadLeg
    ∷ᴸ otherSelectByte
    ∷ᴸ programmingNow
    ∷ᴸ silent no_field
    ∷ᴸ silent rfSleep
    ∷ᴸ silent badSize
    ∷ᴸ silent badCrc
    ∷ᴸ inventory_silence
    ∷ᴸ silent bothFlags
    ∷ᴸ silent otherMaker
    ∷ᴸ silent otherUid
    ∷ᴸ silent notSelected
    ∷ᴸ silent neitherWhenQuiet
    ∷ᴸ silent notAddressed
    ∷ᴸ own_silence
    ∷ᴸ failed ShutOut
    ∷ᴸ failed UnknownCommand
    ∷ᴸ failed UnsupportedFlags
    ∷ᴸ failed WrongLength
    ∷ᴸ failed NoSuchBlock
    ∷ᴸ failed ReadLeavesArea
    ∷ᴸ failed ReadProtected
    ∷ᴸ failed TooManyBlocks
    ∷ᴸ failed WriteLeavesArea
    ∷ᴸ failed WriteForbidden
    ∷ᴸ failed NotLockable
    ∷ᴸ failed AlreadyLocked
    ∷ᴸ failed NoSuchRegister
    ∷ᴸ failed ConfigurationClosed
    ∷ᴸ failed EndRefused
    ∷ᴸ failed NoSuchDynamicRegister
    ∷ᴸ failed MailboxUnavailable
    ∷ᴸ failed MailboxDisabled
    ∷ᴸ failed PastMessage
    ∷ᴸ failed NoSuchPassword
    ∷ᴸ failed WrongPassword
    ∷ᴸ failed PasswordSessionClosed
    ∷ᴸ []ᴸ

-- no rule, and then each
unfoldable pub names : List String
names = "" ∷ᴸ map rule_words all_rules

-- a number past the last has the empty name
unfoldable pub name_at : ℕ → List ℕ
name_at n = string_bytes (get_or names n "")
