-- What is printed of a verdict on a write: allowed, or the reason's name, with the number of the password whose session is needed, if it has one.
use Rattle.std.specs.Prelude.{List, [], ◌∷◌, ◌++◌, ℕ, ⊤, Option, Some, None, Result, Ok, Err}
use Rattle.text.specs.Decimal.{decimal}
use Rattle.write_reasons.specs.declared.WriteReason.{WriteReason}
use Rattle.write_reasons.specs.declared.WriteReason.TheVariants.{LegSpoiled, OutsideMap, MailboxModeOn, ModeOff, MailboxBusy, MailboxLegNotFrom2008, AnotherArea, LockedBlock, AreaNeverWritable, ConfigurationLocked, SessionNeeded, RegisterReadOnly, PasswordCode, EndaRule, PageFull}
use Rattle.write_reasons.specs.Reasons.{reason_words}
use Rattle.rule_names.specs.Names.{string_bytes}

-- a space and the number; password 0 has the number 0
unfoldable pub key_text : Option ℕ → List ℕ
key_text None = []
key_text (Some n) = 0x20 ∷ decimal n

-- what follows a reason's words
unfoldable pub after_words : WriteReason → List ℕ
after_words LegSpoiled = []
after_words OutsideMap = []
after_words MailboxModeOn = []
after_words ModeOff = []
after_words MailboxBusy = []
after_words MailboxLegNotFrom2008 = []
after_words AnotherArea = []
after_words LockedBlock = []
after_words AreaNeverWritable = []
after_words ConfigurationLocked = []
after_words (SessionNeeded key) = key_text key
after_words RegisterReadOnly = []
after_words PasswordCode = []
after_words EndaRule = []
after_words PageFull = []

unfoldable pub reason_text : WriteReason → List ℕ
reason_text reason = string_bytes (reason_words reason) ++ after_words reason

unfoldable pub verdict_text : Result ⊤ WriteReason → List ℕ
verdict_text (Ok unit) = string_bytes "allowed"
verdict_text (Err reason) = reason_text reason
