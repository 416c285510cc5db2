use mathlib.Core.Path.{◌≡◌, refl, sym, ◌∙◌}
use mathlib.Core.Bool.{true, false}
use native.Mathlib.Omega.{arith}
use Prim.Native.Nat.{◌<◌}
use lib.ListN.{length}
use Rattle.parts.proofs.Picks.{pick_false}
use Rattle.rack_start.specs.Start.{takes_tag, added_tag}
use Rattle.rack_start.proofs.Places.{room_left, added_is}
use Rattle.rack_start.proofs.add.Goals as goal

pub returns-then-not-takes_tag : goal.returns-then-not-takes_tag
unfolding added_tag
returns-then-not-takes_tag c = pick_false _ _ _ (takes_tag c.args.bench) (sym c.takes_tag.ensures ∙ c.if-not-takes_tag.true) refl

pub overflow_mul-i : goal.overflow_mul-i
overflow_mul-i c =
    let few_here : c.args.bench.count < 16 = room_left c.args.bench (sym c.takes_tag.ensures ∙ c.if-not-takes_tag.false) in
    omega (arith, few_here)

pub offset_bounds-n-i : goal.offset_bounds-n-i
offset_bounds-n-i c =
    let few_here : c.args.bench.count < 16 = room_left c.args.bench (sym c.takes_tag.ensures ∙ c.if-not-takes_tag.false) in
    omega (arith, few_here)

pub bounds-n-i : goal.bounds-n-i
bounds-n-i c =
    let few_here : c.args.bench.count < 16 = room_left c.args.bench (sym c.takes_tag.ensures ∙ c.if-not-takes_tag.false) in
    few_here

pub overflow_add-n : goal.overflow_add-n
overflow_add-n c =
    let few_here : c.args.bench.count < 16 = room_left c.args.bench (sym c.takes_tag.ensures ∙ c.if-not-takes_tag.false) in
    omega (arith, few_here)

pub returns : goal.returns
returns c =
    let sixteen_here : length c.args.bench.tags ≡ 16 = c.well_formed.0.1.1.0.1.0.1 in
    let a = c.args in
    added_is a.uid a.bench a.m.now c.put_bytes.new.m c.fresh.result
    (sym c.takes_tag.ensures ∙ c.if-not-takes_tag.false)
    sixteen_here c.fresh.ensures c.put_bytes.ensures
