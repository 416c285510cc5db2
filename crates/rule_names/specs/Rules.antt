-- The rules that explain a NoAck, an error reply or a silence, each with its number and its words (02, Ask 3).
use Rattle.std.specs.Prelude.{ℕ}
use Prim.Native.String.{String}
use Rattle.write_reasons.specs.declared.WriteReason.{WriteReason}
use Rattle.write_reasons.specs.Reasons.{reason_number, reason_words}
use Rattle.errors.specs.declared.RadioError.{RadioError}
use Rattle.errors.specs.declared.RadioError.TheVariants.{ShutOut, UnknownCommand, UnsupportedFlags, WrongLength, NoSuchBlock, ReadLeavesArea, ReadProtected, TooManyBlocks, WriteLeavesArea, WriteForbidden, NotLockable, AlreadyLocked, NoSuchRegister, ConfigurationClosed, EndRefused, NoSuchDynamicRegister, MailboxUnavailable, MailboxDisabled, PastMessage, NoSuchPassword, WrongPassword, PasswordSessionClosed}
use Rattle.errors.specs.Errors.{error_number}
use Rattle.silence_rules.specs.Silence.{SilenceRule, no_field, rfSleep, badSize, badCrc, bothFlags, otherMaker, otherUid, notSelected, neitherWhenQuiet, notAddressed, silence_number}

pub data Rule : Type 0 where
  -- "Ask 2's for an N on a data byte"
  byte_forbidden : WriteReason → Rule
  -- "any other N takes the first of no VCC, no Start, read leg, other select byte, programming"
  noVcc noStart inReadLeg otherSelectByte programmingNow : Rule
  -- "01's silence list"
  silent : SilenceRule → Rule
  -- its rule "inventory flag", as Ask 4 amends it
  inventory_silence : Rule
  -- "own silence (any Stay Quiet or Select of another UID)"
  own_silence : Rule
  -- "shut out, the errors"
  failed : RadioError → Rule

-- the number under which the rule is named in an explanation (docs/LIBRARY.md); 0 is no rule
unfoldable pub rule_number : Rule → ℕ
rule_number (byte_forbidden reason) = reason_number reason
rule_number noVcc = 16
rule_number noStart = 17
rule_number inReadLeg = 18
rule_number otherSelectByte = 19
rule_number programmingNow = 20
rule_number (silent rule) = silence_number rule
rule_number inventory_silence = 25
rule_number own_silence = 32
rule_number (failed error) = error_number error

-- "its words between 01's semicolons"
unfoldable pub silence_words : SilenceRule → String
silence_words no_field = "field off"
silence_words rfSleep = "RF_MNGT_Dyn b1"
silence_words badSize = "under 4 or over 270 bytes"
silence_words badCrc = "bad CRC"
silence_words bothFlags = "both select and address"
silence_words otherMaker = "02h missing or other"
silence_words otherUid = "UID short or, except in Select, other"
silence_words notSelected = "select flag when not Selected"
silence_words neitherWhenQuiet = "neither flag when Quiet"
silence_words notAddressed = "Select or Stay Quiet not addressed"

-- "for an error its code, as 10h, with 0Fh-2 for a row's second such rule; or shut out (the 0Fh before 01h)"
unfoldable pub error_words : RadioError → String
error_words ShutOut = "shut out"
error_words UnknownCommand = "01h"
error_words UnsupportedFlags = "03h"
error_words WrongLength = "02h"
error_words NoSuchBlock = "10h"
error_words ReadLeavesArea = "0Fh"
error_words ReadProtected = "15h"
error_words TooManyBlocks = "0Fh"
-- 24: "count-1 at most 3, else 0Fh" stands before it
error_words WriteLeavesArea = "0Fh-2"
error_words WriteForbidden = "12h"
error_words NotLockable = "10h"
error_words AlreadyLocked = "11h"
error_words NoSuchRegister = "10h"
error_words ConfigurationClosed = "12h"
error_words EndRefused = "0Fh"
error_words NoSuchDynamicRegister = "10h"
error_words MailboxUnavailable = "0Fh"
error_words MailboxDisabled = "0Fh"
-- AC: "0Fh if MB_EN is 0" stands before it
error_words PastMessage = "0Fh-2"
error_words NoSuchPassword = "10h"
error_words WrongPassword = "0Fh"
error_words PasswordSessionClosed = "12h"

-- "the rule's short name: its words between 01's semicolons or the commas of Ask 2 and here, without brackets"
unfoldable pub rule_words : Rule → String
rule_words (byte_forbidden reason) = reason_words reason
rule_words noVcc = "no VCC"
rule_words noStart = "no Start"
rule_words inReadLeg = "read leg"
rule_words otherSelectByte = "other select byte"
rule_words programmingNow = "programming"
rule_words (silent rule) = silence_words rule
rule_words inventory_silence = "inventory flag"
rule_words own_silence = "own silence"
rule_words (failed error) = error_words error
