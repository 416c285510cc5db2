-- The fresh tag's bytes are a start of the claim. Assumes nothing.
use mathlib.Core.Path.{◌≡◌, refl, sym, ap, subst, ◌∙◌}
use mathlib.Core.Bool.{true, false, not}
use mathlib.Core.List.{List}
use Prim.Native.Nat.{ℕ}
use Rattle.std.specs.Prelude.{Err}
use native.Mathlib.Omega.{arith}
use lib.Dec.{ltb, eqb}
use borrow.Author.Tests.{ltb-true, not-false}
use lib.ListN.{length, replicate}
use Rattle.parts.specs.Pick.{pick}
use Rattle.parts.specs.Bytes.{are_bytes}
use Rattle.parts.proofs.Below.{bytes_below}
use Rattle.registers.specs.Fresh.{fresh_registers}
use Rattle.tag.specs.declared.Tag.{Tag}
use Rattle.tag.specs.Layout.{memory_bytes}
use Rattle.bus.specs.Bus.{is_open_transfer, transfer_at, is_open}
use Rattle.keys.specs.Keys.{uid_at, fresh_passwords}
use Rattle.tag.specs.Supply.{fresh_tag}
use Rattle.registers.specs.Map.{register_bytes}
use Rattle.state.specs.Layout.{bytes_of}
use Rattle.state.specs.Claims.{transfer_fits, leg_fits, bus_fits, Fits}
use Rattle.state.proofs.There.{decodes_encoded}
use Rattle.state.proofs.AreBytes.{encodes_bytes}
use Rattle.state.proofs.Decoded.{eight_run}
use Rattle.model.specs.declared.Answer.TheVariants.{Nothing}
use Rattle.model.specs.Step.{transfer_open, fresh_of, is_refused}
use Rattle.rule_list.specs.RuleList.{any_holds, first_says}
use Rattle.refusals.specs.declared.Refusal.{Refusal}
use Rattle.refusals.specs.declared.Refusal.TheVariants.{MemoryLength}
use Rattle.refusals.specs.Refusals.{number, tag_in_range, judgement, unless_refused}
use Rattle.refusals.proofs.Laws.{judged_case, applies_of, not_refused, refused_by}
use Rattle.model.proofs.Kept.{fresh_fits}
use Rattle.capi.specs.Interface.{answer_number, FreshCallResult, fresh_call_result, fresh_call}
use Rattle.next_state.specs.After.{state_after}
use Rattle.library_refusals.specs.Rules.{fresh_call_rules}
use Rattle.library_demand3.specs.Claim.{Starts, FreshStarts}

-- ---- what the call leaves
abbrev zeros : List ℕ
zeros = replicate memory_bytes 0

abbrev fresh : List ℕ → Tag
fresh u = fresh_tag (uid_at u 0)

-- by the model, with memory of the right length
served : (u m s : List ℕ) → not (eqb (length m) memory_bytes) ≡ false
    → (let e = fresh_of (uid_at u 0) m in fresh_call_result (answer_number e.answer) (state_after s e.answer e.tag) e.memory) ≡ fresh_call_result (answer_number Nothing) (bytes_of (fresh u)) zeros
unfolding fresh_of state_after is_refused judgement first_says unless_refused pick
served u m s h = rw h

-- the refusals' numbers are below those of the other answers
number_small : (u m s : List ℕ) (r : Refusal) → judgement (fresh_call_rules u m s) ≡ Err r → ltb (number r) 0x100 ≡ true
unfolding number any_holds
number_small u m s r h = not-false _ (refused_by (λ (r : Refusal). not (ltb (number r) 0x100)) (fresh_call_rules u m s) r refl h)

-- one that is not refused
fresh_is : (u m s : List ℕ) → (fresh_call u m s).number ≡ answer_number Nothing → fresh_call u m s ≡ fresh_call_result (answer_number Nothing) (bytes_of (fresh u)) zeros
unfolding fresh_call answer_number applies_of first_says number pick
fresh_is u m s =
    let P : FreshCallResult → Type 0 = λ c. c.number ≡ 0x100 → c ≡ fresh_call_result (answer_number Nothing) (bytes_of (fresh u)) zeros in
    judged_case P _ _ _ (λ r h n. absurd (omega (arith, ltb-true (number r) 0x100 (number_small u m s r h), n))) (λ none _. served u m s (not_refused MemoryLength (fresh_call_rules u m s) none))

-- ---- its tag fits
fresh_tag_fits : (u : List ℕ) → are_bytes u ≡ true → Fits (fresh u)
unfolding fresh_tag fresh_registers fresh_passwords are_bytes register_bytes transfer_at transfer_fits leg_fits bus_fits
fresh_tag_fits u h = record {
  session = refl;
  slots = refl;
  counter = refl;
  bus = refl;
  registers = refl;
  message = refl;
  passwords = record { i2c = refl; rf0 = refl; rf1 = refl; rf2 = refl; rf3 = refl };
  uid = eight_run u 0 (bytes_below u h);
}

zeros_are : are_bytes zeros ≡ true
unfolding are_bytes
zeros_are = refl

shut : (u : List ℕ) → transfer_open (fresh u) ≡ false
unfolding fresh_tag transfer_at is_open_transfer is_open
shut u = refl

starts : (u : List ℕ) → are_bytes u ≡ true → Starts (bytes_of (fresh u)) zeros
starts u h =
    let f = fresh_tag_fits u h in
    let d = decodes_encoded (fresh u) f in
    record {
      state = encodes_bytes (fresh u) f;
      whole = d.0;
      memory = zeros_are;
      size = refl;
      range = ap (λ (t : Tag). tag_in_range t zeros) d.1 ∙ (fresh_fits (uid_at u 0)).range;
      shut = ap transfer_open d.1 ∙ shut u;
    }

pub fresh_starts : FreshStarts
fresh_starts u m s h n = subst (λ (c : FreshCallResult). Starts c.state c.memory) (sym (fresh_is u m s n)) (starts u h)
