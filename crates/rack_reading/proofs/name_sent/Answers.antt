use native.Mathlib.Omega.{arith}
use mathlib.Core.Path.{◌≡◌}
use Prim.Native.Nat.{◌-◌}
use lib.ListN.{length, take, drop, get_or, length-drop, get_or-eq_default}
use lib.Seq.{take_all}
use Rattle.parts.specs.Pick.{pick}
use Rattle.parts.proofs.Picks.{picks}
use Rattle.rack_reading.specs.Line.{name_sent, rack_line_by}
use Rattle.rack_reading.proofs.name_sent.Goals as goal

pub returns-then-s-lt2 : goal.returns-then-s-lt2
unfolding rack_line_by name_sent pick
returns-then-s-lt2 c =
    let s = c.args.s.now in
    let e : get_or s 1 0 ≡ 0 = get_or-eq_default s 0 (omega arith) in
    rw e

pub returns-then-s-ne9 : goal.returns-then-s-ne9
unfolding rack_line_by name_sent
returns-then-s-ne9 c = search picks depth 20

pub returns : goal.returns
unfolding name_sent
returns c =
    let s = c.args.s.now in
    let e : take (length s - 2) (drop 2 s) ≡ drop 2 s = take_all (length s - 2) (drop 2 s) (omega (arith, length-drop 2 s)) in
    rw (rw e at c.number_sent.ensures) (search picks depth 20)
