use mathlib.Core.Path.{refl, ◌∙◌}
use native.Mathlib.Omega.{arith}
use Rattle.rack_hear.specs.Hear.{hear_all_of}
use Rattle.rack_walk.proofs.HearMore.{all_more}
use Rattle.rack_walk.proofs.HearEnds.{all_ends}
use Rattle.rack_walk.proofs.hear_all.Goals as goal

pub loop-i-init : goal.loop-i-init
unfolding hear_all_of
loop-i-init c = refl

pub loop-i-preserved : goal.loop-i-preserved
loop-i-preserved c =
    let a = c.args in
    let l = c.loop-i in
    let o = c.hear_one-b in
    all_more a.tags.now l.tags o.new.tags l.b o.result a.memory.now a.out.now a.frame.now l.i a.heard l.memory o.new.memory l.out o.new.out l.invariant o.ensures

pub returns : goal.returns
returns c =
    let a = c.args in
    let l = c.loop-i in
    l.invariant ∙ all_ends l.i a.tags.now a.memory.now a.out.now a.frame.now a.heard (omega (arith, c.min-i-end.ensures))
