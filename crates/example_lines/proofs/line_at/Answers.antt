use native.Mathlib.Omega.{arith}
use mathlib.Core.Path.{◌≡◌, sym, ap}
use Prim.Native.Nat.{ℕ, ◌-◌}
use lib.ListN.{take, drop}
use Rattle.lines.specs.Line.{line_length}
use Rattle.example_lines.proofs.Laws.{line_within, no_line}
use Rattle.example_lines.proofs.line_at.Goals as goal

pub returns-then-s-at : goal.returns-then-s-at
returns-then-s-at c =
    let a = c.args in
    sym (no_line a.s.now a.at (omega (arith, c.if-s-at.true)))

pub slice_bounds-result-end-2 : goal.slice_bounds-result-end-2
slice_bounds-result-end-2 c =
    let a = c.args in
    omega (arith, c.line_end-end.ensures, line_within a.s.now a.at, c.if-s-at.false)

pub returns : goal.returns
returns c =
    let a = c.args in
    let e : c.line_end-end.result - a.at ≡ line_length (drop a.at a.s.now) = omega (arith, c.line_end-end.ensures) in
    ap (λ (n : ℕ). take n (drop a.at a.s.now)) e
