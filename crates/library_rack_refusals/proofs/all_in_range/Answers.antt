use mathlib.Core.Path.{◌≡◌, ap, ◌∙◌}
use mathlib.Core.Bool.{◌&&◌}
use mathlib.Core.List.{List}
use Prim.Native.Nat.{ℕ, ◌+◌, ◌-◌, ◌*◌}
use native.Mathlib.Omega.{arith}
use native.Mathlib.Nat.{sub-zero}
use lib.ListN.{get_or, drop}
use Rattle.tag.specs.declared.Tag.{Tag}
use Rattle.rack.specs.Rack.{devices_of}
use Rattle.rack.specs.Rules.{all_in_range}
use Rattle.rack_states.specs.States.{tags_at}
use Rattle.rack_states.proofs.States.{first_tag}
use Rattle.library_rack_refusals.proofs.Loops.{ranges_more, all_ranged}
use Rattle.library_rack_refusals.proofs.all_in_range.Goals as goal

pub loop-i-init : goal.loop-i-init
loop-i-init c =
    let a = c.args in
    ap (λ (n : ℕ). all_in_range (devices_of (tags_at n a.s.now) a.m.now)) (sub-zero a.n)

pub loop-i-preserved : goal.loop-i-preserved
loop-i-preserved c =
    let l = c.loop-i in
    let a = c.args in
    let at = l.i * 87 in
    let from = l.i * 1024 in
    let one = c.in_range-one.result in
    let left = a.n - (l.i + 1) in
    let first = first_tag a.s.now at (at + 87 - at) _ _ (omega arith) (omega (arith, c.requires.0)) (ap (λ (tags : List Tag). get_or tags 0 _) c.decode_tags-tags.ensures) in
    let next : (l.i + 1) * 87 ≡ at + 87 = omega arith in
    let next_memory : (l.i + 1) * 1024 ≡ from + 1024 = omega arith in
    ap (λ (k : ℕ). l.all && one && all_in_range (devices_of (tags_at left (drop k a.s.now)) (drop ((l.i + 1) * 1024) a.m.now))) next
    ∙ ap (λ (k : ℕ). l.all && one && all_in_range (devices_of (tags_at left (drop (at + 87) a.s.now)) (drop k a.m.now))) next_memory
    ∙ ranges_more a.s.now a.m.now l.all one l.i a.n at from (at + 87 - at) (from + 1024 - from) _
    (omega arith) (omega arith) (omega arith) first c.in_range-one.ensures l.invariant

pub returns : goal.returns
returns c =
    let l = c.loop-i in
    let a = c.args in
    all_ranged l.all l.i a.n (l.i * 87) (l.i * 1024) a.s.now a.m.now (omega arith) l.invariant
