-- What one call leaves of a rack. Assumes nothing.
use mathlib.Core.Path.{◌≡◌, refl, sym, ap, ◌∙◌}
use mathlib.Core.Bool.{true}
use mathlib.Core.List.{List, [], ◌∷◌}
use Prim.Native.Nat.{ℕ, suc, ◌+◌}
use lib.ListN.{length}
use Rattle.std.specs.Prelude.{Ok, Err}
use Rattle.parts.specs.Bytes.{are_bytes}
use Rattle.calls.specs.Passed.{Refusal, Judgement, judgement, unless_refused}
use Rattle.calls.specs.Calls.{Device, entry}
use Rattle.rack.specs.Rack.{Rack, RackCall, memory_size, memory_sizes, devices, tags_of}
use Rattle.rack.specs.Rules.{rack_rules}
use Rattle.rack.specs.Step.{turn_of, turns_of, left_by, said_by, rack_refused, together, RackResult, rack_result, rack_acts, rack_step, rack_entry}
use Rattle.rack.proofs.Parts.{racked_apart, number_apart, tags_apart, number_racked, size_racked, turns_number}
use Rattle.rack.proofs.Fits.{AllFit, all_sized, turns_fit, size_of, fit_of}

-- ---- each tag asks for as many bytes as before
sizes_turns : (c : RackCall) (i : ℕ) (ds : List Device) → memory_sizes (tags_of (left_by (turns_of entry c i ds))) ≡ memory_sizes (tags_of ds)
unfolding memory_sizes tags_of left_by turns_of turn_of memory_size
sizes_turns c i [] = refl
sizes_turns c i (d ∷ ds) = ap (λ (n : ℕ). memory_size d.tag + n) (sizes_turns c (suc i) ds)

-- ---- refused
judged_as : (r : Rack) (c : RackCall) (j : Judgement) → judgement (rack_rules r c) ≡ j
    → rack_entry r c ≡ unless_refused j (λ (x : Refusal). rack_result (rack_refused x c.handed) r) (rack_acts entry r c)
unfolding rack_step
judged_as r c j h = ap (λ (j : Judgement). unless_refused j (λ (x : Refusal). rack_result (rack_refused x c.handed) r) (rack_acts entry r c)) h

pub call_refused : (r : Rack) (c : RackCall) (x : Refusal) → judgement (rack_rules r c) ≡ Err x
    → rack_entry r c ≡ rack_result (rack_refused x c.handed) r
unfolding unless_refused
call_refused r c x h = judged_as r c (Err x) h

-- ---- or not
module _ (r : Rack) (c : RackCall) (h : judgement (rack_rules r c) ≡ Ok tt) where
  pub call_acts : rack_entry r c ≡ rack_acts entry r c
  unfolding unless_refused
  call_acts = judged_as r c (Ok tt) h

  pub call_says : (rack_entry r c).says ≡ together c (said_by (turns_of entry c 0 (devices r)))
  unfolding rack_acts
  call_says = ap (λ (e : RackResult). e.says) call_acts

  pub call_number : length (rack_entry r c).rack.tags ≡ length r.tags
  unfolding rack_acts
  call_number =
      ap (λ (e : RackResult). length e.rack.tags) call_acts
      ∙ number_racked (left_by (turns_of entry c 0 (devices r)))
      ∙ turns_number entry c 0 (devices r)
      ∙ number_apart r.tags r.memory

  module _ (b : are_bytes c.handed.frame ≡ true) where
    pub fit_left : AllFit (left_by (turns_of entry c 0 (devices r)))
    fit_left = turns_fit c 0 (devices r) b (fit_of r c h)

    -- the tags that it leaves
    pub call_leaves : devices (rack_entry r c).rack ≡ left_by (turns_of entry c 0 (devices r))
    unfolding rack_acts
    call_leaves =
        ap (λ (e : RackResult). devices e.rack) call_acts
        ∙ racked_apart (left_by (turns_of entry c 0 (devices r))) (all_sized (left_by (turns_of entry c 0 (devices r))) fit_left)

    pub call_size : length (rack_entry r c).rack.memory ≡ length r.memory
    unfolding rack_acts
    call_size =
        ap (λ (e : RackResult). length e.rack.memory) call_acts
        ∙ size_racked (left_by (turns_of entry c 0 (devices r))) (all_sized (left_by (turns_of entry c 0 (devices r))) fit_left)
        ∙ sizes_turns c 0 (devices r)
        ∙ ap memory_sizes (tags_apart r.tags r.memory)
        ∙ sym (size_of r c h)
