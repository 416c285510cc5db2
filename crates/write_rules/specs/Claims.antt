-- What is proved of the verdict, beside the contract of the function that gives it.
use Prim.{tt}
use Rattle.std.specs.Prelude.{◌≡◌, Bool, true, false, ◌&&◌, List, ◌↔◌, ℕ, ltb, ⊤, Result, Ok, Err, is_ok}
use Rattle.rule_list.specs.RuleList.{NoneHolds, IsFirst}
use Rattle.rights.specs.declared.Side.TheVariants.{Radio}
use Rattle.rights.specs.Rights.{may_write}
use Rattle.written_registers.specs.Passed.{Core, blocks}
use Rattle.write_reasons.specs.declared.WriteReason.{WriteReason}
use Rattle.write_reasons.specs.declared.WriteReason.TheVariants.{LegSpoiled, OutsideMap, MailboxModeOn, ModeOff, MailboxBusy, MailboxLegNotFrom2008, AnotherArea, LockedBlock, AreaNeverWritable, ConfigurationLocked, SessionNeeded, RegisterReadOnly, PasswordCode, EndaRule, PageFull}
use Rattle.write_reasons.specs.declared.WriteAsked.{WriteAsked}
use Rattle.write_reasons.specs.declared.WriteAsked.TheVariants.{DataByte, Block, Pointer, PasswordOf}
use Rattle.write_rules.specs.Situation.{Situation, block_situation, situation_of}
use Rattle.write_rules.specs.Verdict.{forbids, reasons_in, write_verdict}

-- the reason given is the first whose condition holds, and the other way round
abbrev pub ForbiddenByFirst : Type 0
ForbiddenByFirst = (z : Situation) (reason : WriteReason) → (write_verdict z ≡ Err reason) ↔ IsFirst (forbids z) (reasons_in z) reason

abbrev pub AllowedByNone : Type 0
AllowedByNone = (z : Situation) → (write_verdict z ≡ Ok tt) ↔ NoneHolds (forbids z) (reasons_in z)

-- "Radio judging has no leg, mailbox or page reason."
abbrev pub of_radio : WriteReason → Bool
of_radio LegSpoiled = false
of_radio OutsideMap = true
of_radio MailboxModeOn = false
of_radio ModeOff = false
of_radio MailboxBusy = false
of_radio MailboxLegNotFrom2008 = false
of_radio AnotherArea = false
of_radio LockedBlock = true
of_radio AreaNeverWritable = true
of_radio ConfigurationLocked = true
of_radio (SessionNeeded key) = true
of_radio RegisterReadOnly = false
of_radio PasswordCode = false
of_radio EndaRule = true
of_radio PageFull = false

-- and what is only of radio
abbrev pub of_wire : WriteReason → Bool
of_wire LegSpoiled = true
of_wire OutsideMap = true
of_wire MailboxModeOn = true
of_wire ModeOff = true
of_wire MailboxBusy = true
of_wire MailboxLegNotFrom2008 = true
of_wire AnotherArea = true
of_wire LockedBlock = true
of_wire AreaNeverWritable = false
of_wire ConfigurationLocked = false
of_wire (SessionNeeded key) = true
of_wire RegisterReadOnly = true
of_wire PasswordCode = true
of_wire EndaRule = true
of_wire PageFull = true

-- a verdict gives only reasons that pass a test
abbrev pub gives_only : (WriteReason → Bool) → Result ⊤ WriteReason → Bool
gives_only test (Ok unit) = true
gives_only test (Err reason) = test reason

unfoldable pub side_gives : WriteAsked → WriteReason → Bool
side_gives (DataByte byte) = of_wire
side_gives (Block session block) = of_radio
side_gives (Pointer session pointer x) = of_radio
side_gives (PasswordOf session n) = of_radio

abbrev pub EachSideItsReasons : Type 0
EachSideItsReasons = (c : Core) (m : List ℕ) (asked : WriteAsked) → gives_only (side_gives asked) (write_verdict (situation_of c m asked)) ≡ true

-- the verdict allows a block by radio exactly when it is one of the memory and its rights and its lock allow it
abbrev pub BlockAllowed : Type 0
BlockAllowed = (c : Core) (session block : ℕ) → is_ok (write_verdict (block_situation c session block)) ≡ (ltb block blocks && may_write c.registers (Radio session) block)
