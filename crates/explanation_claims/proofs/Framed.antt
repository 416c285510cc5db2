-- A frame is answered as the first rule of its list says: silence, or the error's code. Assumes nothing.
use mathlib.Core.Path.{◌≡◌, refl, sym, ap, ◌∙◌}
use mathlib.Core.Bool.{Bool, true, false, ◌&&◌, ◌||◌, false≢true}
use mathlib.Core.List.{List, [], ◌∷◌}
use Prim.Native.Nat.{ℕ}
use Rattle.std.specs.Prelude.{Option, None, Some, Result, Ok, Err}
use native.Mathlib.Omega.{arith}
use lib.Dec.{ltb, eqb}
use lib.ListN.{length}
use borrow.Author.Tests.{not-false}
use Rattle.parts.specs.Pick.{pick}
use Rattle.parts.specs.Bits.{is_set}
use Rattle.parts.specs.Bytes.{bytes_at}
use Rattle.crc.specs.Crc.{good_frame}
use Rattle.air.specs.Radio.{is_quiet}
use Rattle.parts.proofs.Picks.{pick_map}
use Rattle.rule_list.specs.RuleList.{any_holds, first_says, NoneHolds}
use Rattle.rule_list.proofs.Laws.{says_through, says_passes}
use Rattle.rule_list.proofs.First.{by_none}
use Rattle.register_types.specs.declared.RfMngt.{RfMngt}
use Rattle.keys.specs.declared.Uid.{Uid}
use Rattle.bus.specs.Bus.{transfer_at}
use Rattle.tag.specs.declared.Tag.{Tag}
use Rattle.signal_table.specs.declared.Signal.TheVariants.{Frame}
use Rattle.errors.specs.declared.RadioError.{RadioError}
use Rattle.errors.specs.Errors.{error_code}
use Rattle.reply.specs.declared.RadioSide.{RadioSide}
use Rattle.reply.specs.Reply.{nothing, good}
use Rattle.reply.specs.Outcome.{CommandResult, command_result, radio_side}
use Rattle.commands.specs.declared.CommandRow.{CommandRow}
use Rattle.commands.specs.Table.{CodedRow, command_table, command_of, is_known}
use Rattle.frame.specs.Fields.{command, inventory_flag}
use Rattle.inventory.specs.Inventory.{is_malformed, slots_after, answers_now, takes_part, inventory_silent}
use Rattle.inventory_reply.specs.Answers.{slots_left, is_heard, inventory_of}
use Rattle.silence_rules.specs.Silence.{silence_holds, reception_silences, request_silences, is_silent}
use Rattle.judge.specs.declared.Verdict.{Verdict}
use Rattle.judge.specs.declared.Verdict.TheVariants.{Silence, Error}
use Rattle.judge.specs.Judge.{ErrorRule, is_mute, error_of, error_holds, rule_error, error_rules, first_error, judge}
use Rattle.judge.proofs.Muted.{muted, judge_muted}
use Rattle.request.specs.Request.{request_of}
use Rattle.serve.specs.Commands.{serve_code, serve_of}
use Rattle.radio.specs.Radio.{verdict_result, verdict_of, radio_of}
use Rattle.commands.proofs.Codes.{differs, as_in_table, named}
use Rattle.row_rules.specs.RowErrors.{error_applies, row_errors, first_applying}
use Rattle.rule_names.specs.Rules.{Rule, byte_forbidden, noVcc, noStart, inReadLeg, otherSelectByte, programmingNow, silent, inventory_silence, own_silence, failed}
use Rattle.explanation_rules.specs.Conditions.{dynamic_of, is_busy, rule_holds}
use Rattle.explanation_rules.specs.Explanation.{frame_errors, request_rules, inventory_rules, frame_rules}
use Rattle.explanation_rules.proofs.Frames.{on_request, error_append, list_parts, inventory_parts}
use Rattle.explanation_claims.proofs.Laws.{same_says, heard_says}
use Rattle.row_rules.specs.Claims.{Said, hushed, spoke, said_of, found_said}
use Rattle.row_rules.proofs.Commands.{every_said}

-- what the tag says by a rule; of a rule that is no frame's, anything
unfoldable pub rule_said : Rule → Said
rule_said (byte_forbidden reason) = hushed
rule_said noVcc = hushed
rule_said noStart = hushed
rule_said inReadLeg = hushed
rule_said otherSelectByte = hushed
rule_said programmingNow = hushed
rule_said (silent rule) = hushed
rule_said inventory_silence = hushed
rule_said own_silence = hushed
rule_said (failed error) = spoke (error_code error)

-- ---- a request is a known command
tag_of : Result (Unit {0}) RadioError → ℕ
tag_of (Ok w) = 0
tag_of (Err error) = 1

no_error : (rule : ErrorRule) → ◌≡◌ {A = Result (Unit {0}) RadioError} (Err (rule_error rule)) (Ok tt) → ⊥
unfolding tag_of
no_error rule h = let e : ◌≡◌ {A = ℕ} 1 0 = ap tag_of h in omega arith

known : (f : List ℕ) (dynamic : RfMngt) (busy : Bool) → first_error f dynamic busy ≡ Ok tt → is_known (command_of (command f)) ≡ true
unfolding first_error error_holds error_rules NoneHolds
known f dynamic busy h =
    not-false _ ((by_none ErrorRule (Result (Unit {0}) RadioError) (error_holds f dynamic busy) (λ rule. Err (rule_error rule)) (Ok tt) no_error error_rules).0 h).1.0

module _ (v : RadioSide) (u : Uid) (vcc : Bool) (m f : List ℕ) (dynamic : RfMngt) (busy : Bool) where
  abbrev row : Option CommandRow → Result (Unit {0}) RadioError
  row code = first_applying dynamic busy v f (row_errors code)

  -- ---- a request served
  abbrev Served : Option CommandRow → Type 0
  Served code = is_known code ≡ true → said_of (serve_code code (request_of f u) v vcc m f).reply ≡ pick (is_mute f u) hushed (found_said (row code))

  unknown_served : Served None
  unfolding is_known
  unknown_served h = absurd (false≢true h)

  known_served : (coded : CodedRow) → eqb (command f) coded.code ≡ true → differs coded ≡ false → Served (Some coded.row)
  unfolding serve_code row_errors
  known_served coded h k _ = every_said dynamic busy v u vcc m f coded.row.command (sym (named (command f) coded h k))

  served : Served (command_of (command f))
  unfolding command_of
  served =
      says_passes (λ (coded : CodedRow). eqb (command f) coded.code) differs (λ (coded : CodedRow). Some coded.row) None Served command_table as_in_table
      known_served unknown_served

  -- ---- the judge's verdict
  abbrev said : Verdict → Said
  said verdict = said_of (verdict_result verdict v u vcc m f).reply

  said_error : (found : Result (Unit {0}) RadioError) → first_error f dynamic busy ≡ found
      → said (muted f u found) ≡ pick (is_mute f u) hushed (found_said (on_request found (row (command_of (command f)))))
  unfolding muted on_request error_of found_said verdict_result said_of serve_of pick
  said_error (Ok tt) h = served (known f dynamic busy h)
  said_error (Err error) h = pick_map said (is_mute f u) Silence (Error error)

  pub judged : said (judge f v.air u dynamic busy)
      ≡ pick (is_silent f v.air u dynamic) hushed (pick (is_mute f u) hushed (found_said (first_applying dynamic busy v f (frame_errors f))))
  unfolding verdict_result said_of
  judged =
      ap said (judge_muted f v.air u dynamic busy)
      ∙ pick_map said (is_silent f v.air u dynamic) Silence (muted f u (first_error f dynamic busy))
      ∙ ap (pick (is_silent f v.air u dynamic) hushed)
      (said_error (first_error f dynamic busy) refl ∙ ap (λ (found : Result (Unit {0}) RadioError). pick (is_mute f u) hushed (found_said found)) (sym (error_append dynamic busy v f)))

-- ---- the list
module _ (t : Tag) (m f : List ℕ) where
  abbrev holds : Rule → Bool
  holds = rule_holds t m Frame f

  abbrev errors : Said
  errors = found_said (first_applying (dynamic_of t) (is_busy t) (radio_side t) f (frame_errors f))

  list_says : first_says holds rule_said (spoke 0) (request_rules f) ≡ pick (is_silent f t.air t.uid (dynamic_of t)) hushed (pick (is_mute f t.uid) hushed errors)
  unfolding rule_said is_silent first_applying found_said
  list_says =
      let silent-first = silence_holds f t.air t.uid (dynamic_of t) in
      list_parts t m f rule_said (spoke 0)
      ∙ ap (λ (x : Said). first_says silent-first (λ rule. hushed) (pick (is_mute f t.uid) hushed x) request_silences) (sym (says_through found_said (error_applies (dynamic_of t) (is_busy t) (radio_side t) f) Err (Ok tt) (frame_errors f)))
      ∙ same_says silent-first hushed _ request_silences

  -- ---- an inventory frame
  abbrev v : RadioSide
  v = radio_side t

  abbrev unheard : Bool
  unheard = inventory_silent f t.air t.uid t.core.registers.afi (dynamic_of t) (is_busy t)

  inventory_list : inventory_flag f ≡ true → first_says holds rule_said (spoke 0) inventory_rules
      ≡ pick (any_holds (silence_holds f t.air t.uid (dynamic_of t)) reception_silences) hushed (pick unheard hushed (spoke 0))
  unfolding rule_said
  inventory_list h =
      let silent-first = silence_holds f t.air t.uid (dynamic_of t) in
      inventory_parts t m f rule_said (spoke 0)
      ∙ ap (λ (b : Bool). first_says silent-first (λ rule. hushed) (pick (b && unheard) hushed (spoke 0)) reception_silences) h
      ∙ same_says silent-first hushed (pick unheard hushed (spoke 0)) reception_silences

  said_good : (s : List ℕ) → said_of (good s) ≡ spoke 0
  unfolding said_of pick
  said_good s = refl

  inventory_says : inventory_flag f ≡ true → said_of (inventory_of v t.uid (dynamic_of t) (is_busy t) m f).reply ≡ first_says holds rule_said (spoke 0) inventory_rules
  unfolding inventory_of is_heard takes_part inventory_silent said_of any_holds silence_holds reception_silences
  inventory_says h =
      let own = t.core.registers.afi in
      let answers = answers_now f t.uid own in
      let next = slots_left v t.uid (slots_after f t.uid own) answers m in
      let said_by_lem : CommandResult → Said = λ x. said_of x.reply in
      pick_map said_by_lem (is_heard f t.air (dynamic_of t) (is_busy t)) next (command_result nothing v m)
      ∙ ap (λ (x : Said). pick (is_heard f t.air (dynamic_of t) (is_busy t)) x hushed)
      (pick_map said_by_lem answers _ _ ∙ ap (λ (x : Said). pick answers x hushed) (said_good (t.core.registers.dsfid.bits ∷ bytes_at t.uid.bytes 0 8)))
      ∙ heard_says (spoke 0) hushed t.air.field (is_set 2 (dynamic_of t).bits) (is_quiet t.air.radio) (is_set 1 (dynamic_of t).bits || is_busy t) (ltb (length f) 4 || ltb 270 (length f)) (good_frame f) (is_malformed f) answers
      ∙ sym (inventory_list h)

  by_flag : (flag : Bool) → inventory_flag f ≡ flag
      → said_of (pick flag (inventory_of v t.uid (dynamic_of t) (is_busy t) m f) (verdict_result (verdict_of v t.uid (transfer_at t.host.bus) t.host.programming f) v t.uid t.host.vcc m f)).reply
      ≡ first_says holds rule_said (spoke 0) (pick flag inventory_rules (request_rules f))
  unfolding pick
  by_flag true h = inventory_says h
  by_flag false h = judged v t.uid t.host.vcc m f (dynamic_of t) (is_busy t) ∙ sym list_says

  -- the reply says what the first rule says
  pub frame_says : said_of (radio_of (radio_side t) t.uid t.host.vcc (transfer_at t.host.bus) t.host.programming m f).reply ≡ first_says holds rule_said (spoke 0) (frame_rules f)
  unfolding radio_of frame_rules
  frame_says = by_flag (inventory_flag f) refl
