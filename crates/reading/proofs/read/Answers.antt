use native.Mathlib.Omega.{arith}
use mathlib.Core.Path.{◌≡◌}
use Prim.Native.Nat.{◌-◌}
use lib.ListN.{length, take, drop, get_or, length-drop, get_or-eq_default}
use lib.Seq.{take_all}
use borrow.Author.Tests.{ne_eqb, le-ltb}
use Rattle.parts.specs.Pick.{pick}
use Rattle.parts.proofs.Picks.{picks}
use Rattle.reading.specs.Line.{line_by, alone, tabbed, line_of}
use Rattle.reading.proofs.read.Goals as goal

pub returns-then-s-gt1200 : goal.returns-then-s-gt1200
unfolding line_by line_of
returns-then-s-gt1200 c = search picks depth 20

pub returns-then-s-eq1 : goal.returns-then-s-eq1
unfolding line_of
returns-then-s-eq1 c = rw c.alone.ensures (search picks depth 20)

pub returns-then-s-lt2 : goal.returns-then-s-lt2
unfolding line_by line_of pick
returns-then-s-lt2 c =
    let s = c.args.s.now in
    let e : get_or s 1 0 ≡ 0 = get_or-eq_default s 0 (omega arith) in
    rw (le-ltb 1200 (length s) (omega arith), ne_eqb (length s) 1 c.if-s-eq1.false, e)

pub returns-then-s-ne9 : goal.returns-then-s-ne9
unfolding line_by line_of
returns-then-s-ne9 c = search picks depth 20

pub returns : goal.returns
unfolding line_of
returns c =
    let s = c.args.s.now in
    let e : take (length s - 2) (drop 2 s) ≡ drop 2 s = take_all (length s - 2) (drop 2 s) (omega (arith, length-drop 2 s)) in
    rw (rw e at c.tabbed.ensures) (search picks depth 20)
