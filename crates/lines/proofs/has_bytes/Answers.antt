use native.Mathlib.Omega.{arith}
use mathlib.Core.Path.{◌≡◌}
use Prim.Native.Nat.{◌-◌}
use lib.ListN.{length, take, drop, length-drop}
use lib.Seq.{take_all}
use borrow.Author.Tests.{lt-leb, le-leb}
use Rattle.lines.specs.Line.{has_bytes}
use Rattle.lines.proofs.has_bytes.Goals as goal

pub returns-then-s-lt4 : goal.returns-then-s-lt4
unfolding has_bytes
returns-then-s-lt4 c = rw (lt-leb 4 _ c.if-s-lt4.true)

pub returns : goal.returns
unfolding has_bytes
returns c =
    let s = c.args.s.now in
    let e : take (length s - 2) (drop 2 s) ≡ drop 2 s = take_all (length s - 2) (drop 2 s) (omega (arith, length-drop 2 s)) in
    rw (le-leb 4 (length s) c.if-s-lt4.false, rw e at c.all_hex.ensures)
