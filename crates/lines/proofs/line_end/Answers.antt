use mathlib.Core.Path.{refl, ap, ◌∙◌}
use Prim.Native.Nat.{ℕ, ◌+◌, ◌-◌}
use lib.ListN.{length, take, drop}
use borrow.Author.Rules.{rules}
use Rattle.std.proofs.Common.{tests}
use Rattle.std.proofs.lemmas.Iterator.{YieldsList-from_slice}
use Rattle.std.proofs.lemmas.Iterator.Search.{position_from_yields_List}
use Rattle.lines.proofs.Scan.{is_lf, line_found}
use Rattle.lines.proofs.line_end.Goals as goal

pub returns : goal.returns
returns c =
    let a = c.args in
    let s = a.s.now in
    let k = c.min.result in
    let rest = take (length s - k) (drop k s) in
    ap (λ (n : ℕ). a.from + n)
    (c.unwrap_or.ensures
    ∙ line_found s rest a.from k c.position.result c.min.ensures refl
    (position_from_yields_List is_lf _ _ c.position.result c.position.ensures.ran (YieldsList-from_slice rest cc) (λ x b q k. search (rules, tests))))
