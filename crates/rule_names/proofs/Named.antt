-- The table of names in the order of the numbers, and so each rule's name at its number. Assumes nothing.
use mathlib.Core.Path.{◌≡◌, refl, ap}
use lib.ListN.{get_or}
use Rattle.write_reasons.specs.declared.WriteReason.{WriteReason}
use Rattle.write_reasons.specs.declared.WriteReason.TheVariants.{LegSpoiled, OutsideMap, MailboxModeOn, ModeOff, MailboxBusy, MailboxLegNotFrom2008, AnotherArea, LockedBlock, AreaNeverWritable, ConfigurationLocked, SessionNeeded, RegisterReadOnly, PasswordCode, EndaRule, PageFull}
use Rattle.write_reasons.specs.Reasons.{reason_number, reason_words}
use Rattle.errors.specs.declared.RadioError.TheVariants.{ShutOut, UnknownCommand, UnsupportedFlags, WrongLength, NoSuchBlock, ReadLeavesArea, ReadProtected, TooManyBlocks, WriteLeavesArea, WriteForbidden, NotLockable, AlreadyLocked, NoSuchRegister, ConfigurationClosed, EndRefused, NoSuchDynamicRegister, MailboxUnavailable, MailboxDisabled, PastMessage, NoSuchPassword, WrongPassword, PasswordSessionClosed}
use Rattle.silence_rules.specs.Silence.{no_field, rfSleep, badSize, badCrc, bothFlags, otherMaker, otherUid, notSelected, neitherWhenQuiet, notAddressed, silence_number}
use Rattle.rule_names.specs.Rules.{Rule, byte_forbidden, noVcc, noStart, inReadLeg, otherSelectByte, programmingNow, silent, inventory_silence, own_silence, failed, rule_number, silence_words, error_words, rule_words}
use Rattle.rule_names.specs.Names.{all_rules, names, string_bytes, name_at}
use Rattle.rule_names.specs.Claims.{NamedByNumber, counted_from, NumberedInOrder}

pub numbered_in_order : NumberedInOrder
unfolding all_rules rule_number silence_number counted_from
numbered_in_order = refl

named : (rule : Rule) → get_or names (rule_number rule) "" ≡ rule_words rule
unfolding names all_rules rule_number rule_words silence_number silence_words error_words
named (byte_forbidden LegSpoiled) = refl
named (byte_forbidden OutsideMap) = refl
named (byte_forbidden MailboxModeOn) = refl
named (byte_forbidden ModeOff) = refl
named (byte_forbidden MailboxBusy) = refl
named (byte_forbidden MailboxLegNotFrom2008) = refl
named (byte_forbidden AnotherArea) = refl
named (byte_forbidden LockedBlock) = refl
named (byte_forbidden AreaNeverWritable) = refl
named (byte_forbidden ConfigurationLocked) = refl
named (byte_forbidden (SessionNeeded key)) = refl
named (byte_forbidden RegisterReadOnly) = refl
named (byte_forbidden PasswordCode) = refl
named (byte_forbidden EndaRule) = refl
named (byte_forbidden PageFull) = refl
named noVcc = refl
named noStart = refl
named inReadLeg = refl
named otherSelectByte = refl
named programmingNow = refl
named (silent no_field) = refl
named (silent rfSleep) = refl
named (silent badSize) = refl
named (silent badCrc) = refl
named inventory_silence = refl
named (silent bothFlags) = refl
named (silent otherMaker) = refl
named (silent otherUid) = refl
named (silent notSelected) = refl
named (silent neitherWhenQuiet) = refl
named (silent notAddressed) = refl
named own_silence = refl
named (failed ShutOut) = refl
named (failed UnknownCommand) = refl
named (failed UnsupportedFlags) = refl
named (failed WrongLength) = refl
named (failed NoSuchBlock) = refl
named (failed ReadLeavesArea) = refl
named (failed ReadProtected) = refl
named (failed TooManyBlocks) = refl
named (failed WriteLeavesArea) = refl
named (failed WriteForbidden) = refl
named (failed NotLockable) = refl
named (failed AlreadyLocked) = refl
named (failed NoSuchRegister) = refl
named (failed ConfigurationClosed) = refl
named (failed EndRefused) = refl
named (failed NoSuchDynamicRegister) = refl
named (failed MailboxUnavailable) = refl
named (failed MailboxDisabled) = refl
named (failed PastMessage) = refl
named (failed NoSuchPassword) = refl
named (failed WrongPassword) = refl
named (failed PasswordSessionClosed) = refl

pub named_by_number : NamedByNumber
unfolding name_at
named_by_number rule = ap string_bytes (named rule)

-- and so each reason's
pub reason_named : (reason : WriteReason) → name_at (reason_number reason) ≡ string_bytes (reason_words reason)
unfolding rule_number rule_words
reason_named reason = named_by_number (byte_forbidden reason)
