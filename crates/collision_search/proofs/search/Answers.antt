use mathlib.Core.Path.{◌≡◌, refl, sym, ap, ◌∙◌}
use mathlib.Core.List.{List, []}
use Prim.Native.Nat.{ℕ}
use native.Mathlib.Omega.{arith}
use lib.ListN.{length, take}
use Rattle.tag.specs.declared.Tag.{Tag}
use Rattle.refusals.specs.Refusals.{judgement}
use Rattle.rack.specs.Rack.{rack_of}
use Rattle.rack.specs.Step.{rack_entry}
use Rattle.rack_search.specs.Search.{sends_frame, slot_count, search_result, look, search_rules}
use Rattle.rack_search.proofs.Search.{search_refused, search_looks}
use Rattle.rack_judge.proofs.Count.{take_count, drop_count}
use Rattle.collision_search.proofs.First.{frame_judged}
use borrow.Author.Rules.{rules}
use Rattle.collision_search.proofs.search.Goals as goal

pub look_into-requires : goal.look_into-requires
look_into-requires c =
    let refusal_here : let a = c.args in
    judgement (search_rules (rack_of (take a.number a.tags) a.memory.now) a.out.now) ≡ c.rack_refusal-judged.result = let a = c.args in
    sym (c.rack_refusal-judged.ensures ∙ frame_judged (rack_of (take a.number a.tags) a.memory.now) a.out.now []) in
    let sixteen_here : length c.args.tags ≡ 16 = search rules in
    let a = c.args in
    let e = c.tag_count-n.ensures in (
      omega (arith, e),
      ap (λ (ts : List Tag). judgement (search_rules (rack_of ts a.memory.now) a.out.now)) (take_count a.number c.tag_count-n.result e a.tags sixteen_here)
          ∙ refusal_here
          ∙ c.in-Ok.is,
    )

pub returns-in-Err : goal.returns-in-Err
returns-in-Err c =
    let refusal_here : let a = c.args in
    judgement (search_rules (rack_of (take a.number a.tags) a.memory.now) a.out.now) ≡ c.rack_refusal-judged.result = let a = c.args in
    sym (c.rack_refusal-judged.ensures ∙ frame_judged (rack_of (take a.number a.tags) a.memory.now) a.out.now []) in
    let a = c.args in
    record { out_after = sym (search_refused (rack_of (take a.number a.tags) a.memory.now) a.out.now a.frame.now c.in-Err.why (refusal_here ∙ c.in-Err.is)); tags_value = refl }

pub returns-in-Ok : goal.returns-in-Ok
returns-in-Ok c =
    let refusal_here : let a = c.args in
    judgement (search_rules (rack_of (take a.number a.tags) a.memory.now) a.out.now) ≡ c.rack_refusal-judged.result = let a = c.args in
    sym (c.rack_refusal-judged.ensures ∙ frame_judged (rack_of (take a.number a.tags) a.memory.now) a.out.now []) in
    let sixteen_here : length c.args.tags ≡ 16 = search rules in
    let left_sixteen_here : length c.look_into.result.tags ≡ 16 = search rules in
    let a = c.args in
    let n = c.tag_count-n.result in
    let e = c.tag_count-n.ensures in
    let r = c.look_into.result in
    let m = c.look_into.new.memory in
    let o = c.look_into.new.out in
    let call = sends_frame a.out.now a.frame.now in
    record {
      out_after = ap (λ (ts : List Tag). search_result r.answer (rack_of ts m) o) (sym (take_count a.number n e r.tags left_sixteen_here))
          ∙ c.look_into.ensures.out_after
          ∙ ap (λ (k : ℕ). look rack_entry k 0 (rack_of (take n a.tags) a.memory.now) call) c.slot_count.ensures
          ∙ ap (λ (ts : List Tag). look rack_entry (slot_count a.frame.now) 0 (rack_of ts a.memory.now) call) (take_count a.number n e a.tags sixteen_here)
          ∙ sym (search_looks (rack_of (take a.number a.tags) a.memory.now) a.out.now a.frame.now (refusal_here ∙ c.in-Ok.is));
      tags_value = sym (drop_count a.number n e r.tags left_sixteen_here) ∙ c.look_into.ensures.tags_value ∙ drop_count a.number n e a.tags sixteen_here;
    }
