-- The number of the rule that explains a frame's answer, as code finds it. Assumes nothing.
use mathlib.Core.Path.{◌≡◌, sym, ap, ◌∙◌}
use mathlib.Core.Bool.{Bool, true, false, ◌&&◌}
use mathlib.Core.List.{List, [], ◌∷◌, map}
use Prim.Native.Nat.{ℕ}
use Rattle.std.specs.Prelude.{Result, Ok, Err}
use lib.Dec.{eqb}
use Rattle.parts.specs.Pick.{pick}
use Rattle.rule_list.specs.RuleList.{first_says}
use Rattle.rule_list.proofs.Laws.{says_append, says_through, says_map, numbered_or}
use Rattle.register_types.specs.declared.RfMngt.{RfMngt}
use Rattle.tag.specs.declared.Tag.{Tag}
use Rattle.signal_table.specs.declared.Signal.TheVariants.{Frame}
use Rattle.commands.specs.Table.{command_of}
use Rattle.frame.specs.Fields.{command, inventory_flag}
use Rattle.inventory.specs.Inventory.{inventory_silent}
use Rattle.reply.specs.declared.RadioSide.{RadioSide}
use Rattle.reply.specs.Outcome.{radio_side}
use Rattle.silence_rules.specs.Silence.{silence_holds, silence_number, reception_silences, request_silences, first_silence}
use Rattle.silence_rules.proofs.Numbers.{numbered}
use Rattle.errors.specs.declared.RadioError.{RadioError}
use Rattle.judge.specs.Judge.{is_mute, error_holds, rule_error, error_rules, first_error}
use Rattle.row_rules.specs.RowErrors.{error_applies, row_errors, first_applying}
use Rattle.rule_names.specs.Rules.{Rule, silent, inventory_silence, own_silence, failed, rule_number}
use Rattle.explanation_rules.specs.Conditions.{dynamic_of, is_busy, rule_holds}
use Rattle.explanation_rules.specs.Explanation.{frame_errors, request_rules, inventory_rules, frame_rules, rules_for, explained_by, unexplained, explained, explained_number}
use Rattle.explanation_rules.specs.Numbers.{found_number}

-- ---- the judge's error, else what follows
unfoldable pub on_request : Result (Unit {0}) RadioError → Result (Unit {0}) RadioError → Result (Unit {0}) RadioError
on_request (Ok w) next = next
on_request (Err error) next = Err error

pub error_append : (dynamic : RfMngt) (busy : Bool) (v : RadioSide) (f : List ℕ)
    → first_applying dynamic busy v f (frame_errors f) ≡ on_request (first_error f dynamic busy) (first_applying dynamic busy v f (row_errors (command_of (command f))))
unfolding first_says first_applying frame_errors first_error error_applies rule_error error_rules on_request
error_append dynamic busy v f =
    sym (says_through (λ (found : Result (Unit {0}) RadioError). on_request found (first_applying dynamic busy v f (row_errors (command_of (command f))))) (error_holds f dynamic busy) (λ rule. Err (rule_error rule)) (Ok tt) error_rules)

-- ---- the whole list, whatever its rules say
module _ {A : Type 0} (t : Tag) (m f : List ℕ) (says : Rule → A) (last : A) where
  abbrev errors_say : A
  errors_say = first_says (error_applies (dynamic_of t) (is_busy t) (radio_side t) f) (λ error. says (failed error)) last (frame_errors f)

  own_part : first_says (rule_holds t m Frame f) says last (own_silence ∷ map failed (frame_errors f)) ≡ pick (is_mute f t.uid) (says own_silence) errors_say
  unfolding first_says rule_holds
  own_part = ap (pick (is_mute f t.uid) (says own_silence)) (says_map failed (rule_holds t m Frame f) says last (frame_errors f))

  pub list_parts : first_says (rule_holds t m Frame f) says last (request_rules f)
      ≡ first_says (silence_holds f t.air t.uid (dynamic_of t)) (λ rule. says (silent rule)) (pick (is_mute f t.uid) (says own_silence) errors_say) request_silences
  unfolding request_rules rule_holds
  list_parts =
      says_append (rule_holds t m Frame f) says last (map silent request_silences) (own_silence ∷ map failed (frame_errors f))
      ∙ ap (λ (x : A). first_says (rule_holds t m Frame f) says x (map silent request_silences)) own_part
      ∙ says_map silent (rule_holds t m Frame f) says _ request_silences

  -- of an inventory frame
  abbrev flag_silent : Bool
  flag_silent = inventory_flag f && inventory_silent f t.air t.uid t.core.registers.afi (dynamic_of t) (is_busy t)

  pub inventory_parts : first_says (rule_holds t m Frame f) says last inventory_rules
      ≡ first_says (silence_holds f t.air t.uid (dynamic_of t)) (λ rule. says (silent rule)) (pick flag_silent (says inventory_silence) last) reception_silences
  unfolding inventory_rules rule_holds first_says
  inventory_parts =
      says_append (rule_holds t m Frame f) says last (map silent reception_silences) (inventory_silence ∷ [])
      ∙ says_map silent (rule_holds t m Frame f) says _ reception_silences

-- ---- as numbers
module _ (t : Tag) (m f : List ℕ) where
  abbrev flagged : Bool → List Rule
  flagged flag = pick flag inventory_rules (request_rules f)

  listed : (flag : Bool) → inventory_flag f ≡ flag → explained_number (explained t m Frame f) ≡ first_says (rule_holds t m Frame f) rule_number 0 (flagged flag)
  unfolding explained explained_number rules_for frame_rules
  listed flag h =
      ap (λ (b : Bool). explained_number (first_says (rule_holds t m Frame f) explained_by unexplained (flagged b))) h
      ∙ says_through explained_number (rule_holds t m Frame f) explained_by unexplained (flagged flag)

  abbrev errors : ℕ
  errors = found_number (first_applying (dynamic_of t) (is_busy t) (radio_side t) f (frame_errors f))

  pub frame_number : inventory_flag f ≡ false → explained_number (explained t m Frame f)
      ≡ (let silence = first_silence f t.air t.uid (dynamic_of t) in pick (eqb silence 0) (pick (is_mute f t.uid) 32 errors) silence)
  unfolding pick rule_number first_silence first_applying found_number
  frame_number h =
      let silent-first = silence_holds f t.air t.uid (dynamic_of t) in
      listed false h
      ∙ list_parts t m f rule_number 0
      ∙ ap (λ (n : ℕ). first_says silent-first silence_number (pick (is_mute f t.uid) 32 n) request_silences) (sym (says_through found_number (error_applies (dynamic_of t) (is_busy t) (radio_side t) f) Err (Ok tt) (frame_errors f)))
      ∙ numbered_or silent-first silence_number numbered _ request_silences

  pub inventory_number : inventory_flag f ≡ true → explained_number (explained t m Frame f)
      ≡ (let silence = first_says (silence_holds f t.air t.uid (dynamic_of t)) silence_number 0 reception_silences in
      pick (eqb silence 0) (pick (inventory_silent f t.air t.uid t.core.registers.afi (dynamic_of t) (is_busy t)) 25 0) silence)
  unfolding pick rule_number
  inventory_number h =
      let silent-first = silence_holds f t.air t.uid (dynamic_of t) in
      let unheard = inventory_silent f t.air t.uid t.core.registers.afi (dynamic_of t) (is_busy t) in
      listed true h
      ∙ inventory_parts t m f rule_number 0
      ∙ ap (λ (b : Bool). first_says silent-first silence_number (pick (b && unheard) 25 0) reception_silences) h
      ∙ numbered_or silent-first silence_number numbered _ reception_silences
