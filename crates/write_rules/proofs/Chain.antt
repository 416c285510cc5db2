-- The verdict as a chain of choices, place by place, for the proofs of code. Assumes nothing.
use Prim.{tt}
use mathlib.Core.Path.{◌≡◌, refl}
use mathlib.Core.Bool.{Bool, true, false, not, ◌&&◌, ◌||◌}
use mathlib.Core.List.{List}
use Prim.Native.Nat.{ℕ, ◌+◌, ◌/◌}
use lib.Dec.{leb, eqb}
use borrow.Author.Tests.{eq-eqb}
use Rattle.std.specs.Prelude.{⊤, Some, None, Result, Ok, Err}
use Rattle.parts.specs.Pick.{pick}
use Rattle.parts.specs.Bits.{is_set}
use Rattle.rule_list.specs.RuleList.{first_says}
use Rattle.dynamic.specs.Dynamic.{mailbox_first, host_writes}
use Rattle.register_types.specs.declared.RfaSs.{RfaSs}
use Rattle.written_registers.specs.Passed.{is_writable, is_pointer, Core}
use Rattle.rights.specs.Passed.{area_of_block, area_of_byte, end_allows}
use Rattle.rights.specs.Rights.{security_of, session_opens, setting, wire_guards, is_locked}
use Rattle.written_registers.specs.Written.{written_all}
use Rattle.write_reasons.specs.declared.WritePlace.{WritePlace}
use Rattle.write_reasons.specs.declared.WritePlace.TheVariants.{Unmapped, UserMemory, DynamicByte, MailboxByte, SystemRegister, PasswordByte}
use Rattle.write_reasons.specs.declared.WriteReason.{WriteReason}
use Rattle.write_reasons.specs.declared.WriteReason.TheVariants.{LegSpoiled, OutsideMap, MailboxModeOn, ModeOff, MailboxBusy, MailboxLegNotFrom2008, AnotherArea, LockedBlock, AreaNeverWritable, ConfigurationLocked, SessionNeeded, RegisterReadOnly, PasswordCode, EndaRule, PageFull}
use Rattle.write_rules.specs.Situation.{Situation, byte_at, radio_at}
use Rattle.write_rules.specs.Conditions.{place_number, is_at, by_wire, asks_mode_off, asks_host, needs_session, radio_misses, misses, is_read_only, room_at, leg_spoiled, outside_map, mailbox_mode_on, mode_off, mailbox_busy, mailbox_leg_not_from2008, another_area, locked_block, area_never_writable, configuration_locked, session_needed, register_read_only, password_code, enda_rule, page_full}
use Rattle.write_rules.specs.Verdict.{forbids, write_reasons, area_key, radio_key, session_key, reasons_in, write_verdict}
use Rattle.write_rules.proofs.Rows.{pointer_writable}

-- opening this name opens all that a verdict computes through
unfoldable pub chain_of : Situation → Result ⊤ WriteReason
unfolding pick first_says write_reasons session_key radio_key forbids place_number is_at by_wire asks_mode_off asks_host radio_misses misses is_read_only room_at leg_spoiled outside_map mailbox_mode_on mode_off mailbox_busy mailbox_leg_not_from2008 another_area locked_block area_never_writable configuration_locked session_needed register_read_only password_code enda_rule page_full written_all
chain_of z = first_says (forbids z) Err (Ok tt) (reasons_in z)

verdict_chain : (z : Situation) → write_verdict z ≡ chain_of z
unfolding write_verdict chain_of
verdict_chain z = refl

-- at each place the rules that cannot hold there compute away
module _ (c : Core) (session : Bool) (first k : ℕ) (earlier : List ℕ) (x : ℕ) where
  pub spoiled_chain : (place : WritePlace) → write_verdict (byte_at place c session true first k earlier x) ≡ Err LegSpoiled
  unfolding chain_of
  spoiled_chain place = verdict_chain (byte_at place c session true first k earlier x)

  pub unmapped_chain : write_verdict (byte_at Unmapped c session false first k earlier x) ≡ Err OutsideMap
  unfolding chain_of
  unmapped_chain = verdict_chain (byte_at Unmapped c session false first k earlier x)

  pub memory_chain : write_verdict (byte_at UserMemory c session false first k earlier x) ≡
      pick c.mailbox.enabled (Err MailboxModeOn)
      (pick (not (eqb (area_of_byte c.registers.ends first) (area_of_byte c.registers.ends (first + k)))) (Err AnotherArea)
      (pick (is_locked c.registers.ccfile ((first + k) / 4)) (Err LockedBlock)
      (pick (wire_guards c.registers.i2css (area_of_block c.registers.ends ((first + k) / 4)) && not session) (Err (SessionNeeded None))
      (pick (leb 256 k) (Err PageFull)
      (Ok tt)))))
  unfolding chain_of
  memory_chain = verdict_chain (byte_at UserMemory c session false first k earlier x)

  pub dynamic_chain : write_verdict (byte_at DynamicByte c session false first k earlier x) ≡
      pick (not (host_writes (first + k))) (Err RegisterReadOnly)
      (pick (leb 1 k) (Err PageFull)
      (Ok tt))
  unfolding chain_of
  dynamic_chain = verdict_chain (byte_at DynamicByte c session false first k earlier x)

  pub mailbox_chain : write_verdict (byte_at MailboxByte c session false first k earlier x) ≡
      pick (not c.mailbox.enabled) (Err ModeOff)
      (pick (c.mailbox.host.put || c.mailbox.rf.put) (Err MailboxBusy)
      (pick (not (eqb first mailbox_first)) (Err MailboxLegNotFrom2008)
      (pick (leb 256 k) (Err PageFull)
      (Ok tt))))
  unfolding chain_of
  mailbox_chain = verdict_chain (byte_at MailboxByte c session false first k earlier x)

  pub register_chain : write_verdict (byte_at SystemRegister c session false first k earlier x) ≡
      pick c.mailbox.enabled (Err MailboxModeOn)
      (pick (not session) (Err (SessionNeeded None))
      (pick (not (is_writable (first + k))) (Err RegisterReadOnly)
      (pick (not (end_allows (written_all c.registers first earlier).ends (first + k) x)) (Err EndaRule)
      (pick (leb 256 k) (Err PageFull)
      (Ok tt)))))
  unfolding chain_of
  register_chain = verdict_chain (byte_at SystemRegister c session false first k earlier x)

  pub password_chain : write_verdict (byte_at PasswordByte c session false first k earlier x) ≡
      pick ((eqb k 8 && eqb x 0x07) && c.mailbox.enabled) (Err MailboxModeOn)
      (pick ((eqb k 8 && eqb x 0x07) && not session) (Err (SessionNeeded None))
      (pick (eqb k 8 && not (eqb x 0x07) && not (eqb x 0x09)) (Err PasswordCode)
      (pick (leb 17 k) (Err PageFull)
      (Ok tt))))
  unfolding chain_of
  password_chain = verdict_chain (byte_at PasswordByte c session false first k earlier x)

-- by radio
module _ (c : Core) (session address block x : ℕ) where
  pub radio_unmapped : write_verdict (radio_at Unmapped c session address block x) ≡ Err OutsideMap
  unfolding chain_of
  radio_unmapped = verdict_chain (radio_at Unmapped c session address block x)

  pub block_chain : (security : RfaSs) → security ≡ security_of c.registers.security (area_of_block c.registers.ends block)
      → write_verdict (radio_at UserMemory c session address block x) ≡
      pick (is_locked c.registers.ccfile block) (Err LockedBlock)
      (pick (eqb (setting security) 3) (Err AreaNeverWritable)
      (pick (needs_session security && not (session_opens security session)) (Err (SessionNeeded (area_key security)))
      (Ok tt)))
  unfolding chain_of
  block_chain security e =
      rw (e, verdict_chain (radio_at UserMemory c session address block x), eq-eqb (area_of_byte c.registers.ends address) (area_of_byte c.registers.ends address) refl)

  -- A1's registers are writable
  pub pointer_chain : is_pointer address ≡ true → write_verdict (radio_at SystemRegister c session address block x) ≡
      pick (is_set 1 c.registers.config.bits) (Err ConfigurationLocked)
      (pick (not (eqb session 1)) (Err (SessionNeeded (Some 0)))
      (pick (not (end_allows c.registers.ends address x)) (Err EndaRule)
      (Ok tt)))
  unfolding chain_of
  pointer_chain h = rw (verdict_chain (radio_at SystemRegister c session address block x), pointer_writable address h)

  pub password_number_chain : write_verdict (radio_at PasswordByte c session address block x) ≡
      pick (not (eqb session (address + 1))) (Err (SessionNeeded (Some address)))
      (Ok tt)
  unfolding chain_of
  password_number_chain = verdict_chain (radio_at PasswordByte c session address block x)
