use mathlib.Core.Path.{◌≡◌, refl, sym, ap, subst, ◌∙◌}
use mathlib.Core.Bool.{Bool, true}
use Prim.Native.Nat.{ℕ, suc, ◌-◌, ◌<◌}
use native.Mathlib.Omega.{arith}
use native.Mathlib.Numerals.{add-one}
use lib.ListN.{length, take}
use Rattle.parts.specs.Bytes.{are_bytes}
use Rattle.parts.proofs.Below.{are_below}
use Rattle.rack.specs.Rack.{rack_of}
use Rattle.rack_search.specs.Search.{search_result, SearchAnswer}
use Rattle.rack_search.proofs.Search.{formed_of}
use Rattle.collision_search.proofs.Slots.{Counted, none_counted, on_silence, on_first, on_second, at_end, Looking, looking_first, none_left, collided, looking_next}
use borrow.Author.Rules.{rules}
use Rattle.collision_search.proofs.look_into.Goals as goal
use Rattle.collision_search.proofs.look_into.Goals.{then-answered-i+else-seen, else-answered-i}

pub search-init : goal.search-init
search-init c =
    let a = c.args in
    let e : length a.tags ≡ 16 = search rules in
    let p = formed_of (rack_of (take a.number a.tags) a.memory.now) a.out.now c.requires.1 in
    (refl, looking_first a.number a.slots a.frame.now a.tags a.memory.now a.out.now e p.0 p.1)

pub loop-i-init : goal.loop-i-init
loop-i-init c = (c.search.invariant.0, none_counted _)

pub loop-i-preserved : goal.loop-i-preserved
loop-i-preserved c =
    let noted_here : length c.open_slot-opened.result.heard.answered ≡ 16 = search rules in
    let l = c.loop-i in
    let bs = c.open_slot-opened.result.heard.answered in
    let within : l.i < 16 = omega arith in
    elim c.if-answered-i.branch [
      | then-answered-i+else-seen w ↦ (
        l.invariant.0,
        subst (Counted bs c.if-answered-i.seen) (sym (add-one l.i))
            (subst (λ (b : Bool). Counted bs b (suc l.i)) (sym w.seen-is) (on_first bs l.seen l.i noted_here l.invariant.1 within w.if-answered-i.true w.if-seen.false)),
      )
      | else-answered-i w ↦ (
        l.invariant.0,
        subst (Counted bs c.if-answered-i.seen) (sym (add-one l.i))
            (subst (λ (b : Bool). Counted bs b (suc l.i)) (sym w.seen-is) (on_silence bs l.seen l.i noted_here l.invariant.1 within w.if-answered-i.false)),
      )
    ]

pub search-preserved : goal.search-preserved
search-preserved c =
    let noted_here : length c.open_slot-opened.result.heard.answered ≡ 16 = search rules in
    let l = c.loop-i in
    let bs = c.open_slot-opened.result.heard.answered in
    let a = c.args in
    let s = c.search in
    let bytes_here : are_bytes c.args.frame.now ≡ true = are_below _ (λ i. let p = c.shared_slice_known-1.given i in omega (arith, p)) in
    let call = c.open_slot-opened in (
      l.invariant.0,
      subst (λ (k : ℕ). Looking a.number a.slots a.frame.now a.tags a.memory.now a.out.now k call.result.tags call.new.memory call.new.out)
          (sym (add-one c.search.slot))
          (looking_next a.number a.slots a.frame.now c.requires.0 bytes_here a.tags a.memory.now a.out.now s.slot s.tags s.memory s.out s.invariant.1
          call.result.heard call.result.tags call.new.memory call.new.out call.ensures c.search-test.true (at_end bs l.seen l.i noted_here l.invariant.1 c.loop-i-test.false) call.auto.memory call.auto.out),
    )

pub shape_of-memory-after-search : goal.shape_of-memory-after-search
shape_of-memory-after-search c = c.search.invariant.1.size

pub shape_of-out-after-search : goal.shape_of-out-after-search
shape_of-out-after-search c = c.search.invariant.1.reply_size

pub returns-after-search : goal.returns-after-search
returns-after-search c =
    let bytes_here : are_bytes c.args.frame.now ≡ true = are_below _ (λ i. let p = c.shared_slice_known-1.given i in omega (arith, p)) in
    let s = c.search in
    let a = c.args in
    record {
      out_after = ap (λ (x : SearchAnswer). search_result x (rack_of (take a.number s.tags) s.memory) s.out) s.invariant.0
          ∙ none_left a.number a.slots a.frame.now c.requires.0 bytes_here a.tags a.memory.now a.out.now s.slot s.tags s.memory s.out s.invariant.1 c.search-test.false;
      tags_value = s.invariant.1.others;
    }

pub shape_of-memory-then-seen : goal.shape_of-memory-then-seen
shape_of-memory-then-seen c = c.open_slot-opened.auto.memory ∙ c.search.invariant.1.size

pub shape_of-out-then-seen : goal.shape_of-out-then-seen
shape_of-out-then-seen c = c.open_slot-opened.auto.out ∙ c.search.invariant.1.reply_size

pub returns-then-seen : goal.returns-then-seen
returns-then-seen c =
    let noted_here : length c.open_slot-opened.result.heard.answered ≡ 16 = search rules in
    let l = c.loop-i in
    let bs = c.open_slot-opened.result.heard.answered in
    let within : l.i < 16 = omega arith in
    let a = c.args in
    let s = c.search in
    let call = c.open_slot-opened in
    let bytes_here : are_bytes c.args.frame.now ≡ true = are_below _ (λ i. let p = c.shared_slice_known-1.given i in omega (arith, p)) in
    let all = collided a.number a.slots a.frame.now c.requires.0 bytes_here a.tags a.memory.now a.out.now s.slot s.tags s.memory s.out s.invariant.1
    call.result.heard call.result.tags call.new.memory call.new.out call.ensures c.search-test.true (on_second bs l.seen l.i noted_here l.invariant.1 within c.if-answered-i.true c.if-seen.true) in
    record { out_after = all.0; tags_value = all.1 }
