-- "the yes or no about writing a byte or block is to answer the first, in this order, of": the verdict on a write.
use Prim.{tt}
use Rattle.std.specs.Prelude.{Bool, List, [], ◌∷◌, ℕ, ◌%◌, eqb, ⊤, Option, Some, None, Result, Ok, Err}
use Rattle.parts.specs.Pick.{pick}
use Rattle.rule_list.specs.RuleList.{first_says}
use Rattle.register_types.specs.declared.RfaSs.{RfaSs}
use Rattle.rights.specs.declared.Side.{Side}
use Rattle.rights.specs.declared.Side.TheVariants.{Wire, Radio}
use Rattle.write_reasons.specs.declared.WritePlace.{WritePlace}
use Rattle.write_reasons.specs.declared.WritePlace.TheVariants.{Unmapped, UserMemory, DynamicByte, MailboxByte, SystemRegister, PasswordByte}
use Rattle.write_reasons.specs.declared.WriteReason.{WriteReason}
use Rattle.write_reasons.specs.declared.WriteReason.TheVariants.{LegSpoiled, OutsideMap, MailboxModeOn, ModeOff, MailboxBusy, MailboxLegNotFrom2008, AnotherArea, LockedBlock, AreaNeverWritable, ConfigurationLocked, SessionNeeded, RegisterReadOnly, PasswordCode, EndaRule, PageFull}
use Rattle.write_rules.specs.Situation.{Situation}
use Rattle.write_rules.specs.Conditions.{rights_of, leg_spoiled, outside_map, mailbox_mode_on, mode_off, mailbox_busy, mailbox_leg_not_from2008, another_area, locked_block, area_never_writable, configuration_locked, session_needed, register_read_only, password_code, enda_rule, page_full}

unfoldable pub forbids : Situation → WriteReason → Bool
forbids z LegSpoiled = leg_spoiled z
forbids z OutsideMap = outside_map z
forbids z MailboxModeOn = mailbox_mode_on z
forbids z ModeOff = mode_off z
forbids z MailboxBusy = mailbox_busy z
forbids z MailboxLegNotFrom2008 = mailbox_leg_not_from2008 z
forbids z AnotherArea = another_area z
forbids z LockedBlock = locked_block z
forbids z AreaNeverWritable = area_never_writable z
forbids z ConfigurationLocked = configuration_locked z
forbids z (SessionNeeded key) = session_needed z
forbids z RegisterReadOnly = register_read_only z
forbids z PasswordCode = password_code z
forbids z EndaRule = enda_rule z
forbids z PageFull = page_full z

-- the order, with the password of the session that a situation needs
unfoldable pub write_reasons : Option ℕ → List WriteReason
write_reasons key =
    LegSpoiled
    ∷ OutsideMap
    ∷ MailboxModeOn
    ∷ ModeOff
    ∷ MailboxBusy
    ∷ MailboxLegNotFrom2008
    ∷ AnotherArea
    ∷ LockedBlock
    ∷ AreaNeverWritable
    ∷ ConfigurationLocked
    ∷ SessionNeeded key
    ∷ RegisterReadOnly
    ∷ PasswordCode
    ∷ EndaRule
    ∷ PageFull
    ∷ []

-- "RFAiSS bits 1-0 name password 1 to 3 (0: none opens it)"
unfoldable pub area_key : RfaSs → Option ℕ
area_key security = pick (eqb (security.bits % 4) 0) None (Some (security.bits % 4))

-- "(with its password number, if any)": the radio's sessions have one
unfoldable pub radio_key : WritePlace → Situation → Option ℕ
radio_key Unmapped z = None
radio_key UserMemory z = area_key (rights_of z)
radio_key DynamicByte z = None
radio_key MailboxByte z = None
radio_key SystemRegister z = Some 0
radio_key PasswordByte z = Some z.address

unfoldable pub session_key : Side → Situation → Option ℕ
session_key (Wire session) z = None
session_key (Radio session) z = radio_key z.place z

abbrev pub reasons_in : Situation → List WriteReason
reasons_in z = write_reasons (session_key z.side z)

-- the first reason whose condition holds, else the write is allowed
unfoldable pub write_verdict : Situation → Result ⊤ WriteReason
write_verdict z = first_says (forbids z) Err (Ok tt) (reasons_in z)
