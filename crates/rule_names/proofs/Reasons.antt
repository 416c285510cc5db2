-- Only a needed session has a number behind its name. Assumes nothing.
use mathlib.Core.Path.{◌≡◌, refl}
use mathlib.Core.List.{List, [], ◌∷◌}
use Prim.Native.Nat.{ℕ}
use types.Run.{OneOf, miss}
use denote.Enum.Declared.{tag_of}
use Rattle.write_reasons.specs.declared.WriteReason.{WriteReason}
use Rattle.write_reasons.specs.declared.WriteReason.TheVariants.{LegSpoiled, OutsideMap, MailboxModeOn, ModeOff, MailboxBusy, MailboxLegNotFrom2008, AnotherArea, LockedBlock, AreaNeverWritable, ConfigurationLocked, SessionNeeded, RegisterReadOnly, PasswordCode, EndaRule, PageFull}
use Rattle.write_reasons.specs.contracts.WriteReason.{the_type}
use Rattle.rule_names.specs.Text.{after_words}

-- the variants but for the session's, by their numbers in the enum
abbrev others : List ℕ
others = 0 ∷ 1 ∷ 2 ∷ 3 ∷ 4 ∷ 5 ∷ 6 ∷ 7 ∷ 8 ∷ 9 ∷ 11 ∷ 12 ∷ 13 ∷ 14 ∷ []

pub nothing_after : (reason : WriteReason) → OneOf others (tag_of the_type reason) → after_words reason ≡ []
unfolding after_words
nothing_after LegSpoiled h = refl
nothing_after OutsideMap h = refl
nothing_after MailboxModeOn h = refl
nothing_after ModeOff h = refl
nothing_after MailboxBusy h = refl
nothing_after MailboxLegNotFrom2008 h = refl
nothing_after AnotherArea h = refl
nothing_after LockedBlock h = refl
nothing_after AreaNeverWritable h = refl
nothing_after ConfigurationLocked h = refl
nothing_after (SessionNeeded key) h = absurd (miss others 10 tt h)
nothing_after RegisterReadOnly h = refl
nothing_after PasswordCode h = refl
nothing_after EndaRule h = refl
nothing_after PageFull h = refl
