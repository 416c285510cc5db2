-- Laws of the verdict's yes or no. Assumes nothing.
use mathlib.Core.Path.{◌≡◌, refl, sym, subst, ◌∙◌}
use mathlib.Core.Bool.{Bool, true, false, not, ◌&&◌}
use mathlib.Core.List.{List}
use Prim.Native.Nat.{ℕ, suc}
use types.Run.{OneOf}
use denote.Enum.Declared.{tag_of}
use borrow.Author.Tests.{ne_eqb}
use Rattle.std.specs.Prelude.{⊤, Result, Err, is_ok}
use Rattle.bus.specs.Passed.{pick}
use Rattle.write_reasons.specs.declared.WriteReason.{WriteReason}
use Rattle.write_reasons.specs.declared.WriteReason.TheVariants.{LegSpoiled, OutsideMap, MailboxModeOn, ModeOff, MailboxBusy, MailboxLegNotFrom2008, AnotherArea, LockedBlock, AreaNeverWritable, ConfigurationLocked, SessionNeeded, RegisterReadOnly, PasswordCode, EndaRule, PageFull}
use Rattle.write_reasons.specs.Reasons.{reason_number, is_reason}
use Rattle.write_reasons.specs.contracts.WriteReason.{the_type}

-- a choice that forbids is a test that must fail
pub allowed_pick : (b : Bool) (reason : WriteReason) (v : Result ⊤ WriteReason) → is_ok (pick b (Err reason) v) ≡ (not b && is_ok v)
unfolding pick
allowed_pick true reason v = refl
allowed_pick false reason v = refl

-- a reason's number is one more than that of its variant in the enum
tagged : (reason : WriteReason) → reason_number reason ≡ suc (tag_of the_type reason)
tagged LegSpoiled = refl
tagged OutsideMap = refl
tagged MailboxModeOn = refl
tagged ModeOff = refl
tagged MailboxBusy = refl
tagged MailboxLegNotFrom2008 = refl
tagged AnotherArea = refl
tagged LockedBlock = refl
tagged AreaNeverWritable = refl
tagged ConfigurationLocked = refl
tagged (SessionNeeded key) = refl
tagged RegisterReadOnly = refl
tagged PasswordCode = refl
tagged EndaRule = refl
tagged PageFull = refl

-- so a reason whose variant is one of some others is not the one that they leave out
pub is_other : (reason other : WriteReason) (others : List ℕ) → OneOf others (tag_of the_type reason) → (OneOf others (tag_of the_type other) → ⊥) → is_reason reason other ≡ false
is_other reason other others h miss =
    ne_eqb (reason_number reason) (reason_number other) (λ e. miss (subst (OneOf others) (same_tag (sym (tagged reason) ∙ e ∙ tagged other)) h))
  where
    same_tag : {m n : ℕ} → suc m ≡ suc n → m ≡ n
    same_tag e = cc
