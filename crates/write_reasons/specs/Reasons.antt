-- The reasons that forbid a write, with the words of 02, Ask 2.
use Rattle.std.specs.Prelude.{Bool, ℕ, eqb}
use Prim.Native.String.{String}
use Rattle.write_reasons.specs.declared.WriteReason.{WriteReason}
use Rattle.write_reasons.specs.declared.WriteReason.TheVariants.{LegSpoiled, OutsideMap, MailboxModeOn, ModeOff, MailboxBusy, MailboxLegNotFrom2008, AnotherArea, LockedBlock, AreaNeverWritable, ConfigurationLocked, SessionNeeded, RegisterReadOnly, PasswordCode, EndaRule, PageFull}

-- "the first, in this order, of: .."
abbrev pub reason_words : WriteReason → String
reason_words LegSpoiled = "leg spoiled"
reason_words OutsideMap = "outside the map"
reason_words MailboxModeOn = "mailbox mode on"
reason_words ModeOff = "mode off"
reason_words MailboxBusy = "mailbox busy"
reason_words MailboxLegNotFrom2008 = "mailbox leg not from 2008h"
reason_words AnotherArea = "another area"
reason_words LockedBlock = "locked block"
reason_words AreaNeverWritable = "area never writable"
reason_words ConfigurationLocked = "configuration locked"
-- "(with its password number, if any)"
reason_words (SessionNeeded key) = "session needed"
reason_words RegisterReadOnly = "register read only"
reason_words PasswordCode = "password code"
reason_words EndaRule = "ENDA rule"
reason_words PageFull = "page full"

-- the place of each in that order, from 1
abbrev pub reason_number : WriteReason → ℕ
reason_number LegSpoiled = 1
reason_number OutsideMap = 2
reason_number MailboxModeOn = 3
reason_number ModeOff = 4
reason_number MailboxBusy = 5
reason_number MailboxLegNotFrom2008 = 6
reason_number AnotherArea = 7
reason_number LockedBlock = 8
reason_number AreaNeverWritable = 9
reason_number ConfigurationLocked = 10
reason_number (SessionNeeded key) = 11
reason_number RegisterReadOnly = 12
reason_number PasswordCode = 13
reason_number EndaRule = 14
reason_number PageFull = 15

-- two reasons are the same, whatever session is needed
abbrev pub is_reason : WriteReason → WriteReason → Bool
is_reason reason other = eqb (reason_number reason) (reason_number other)
