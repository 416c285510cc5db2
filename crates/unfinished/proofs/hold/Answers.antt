use borrow.Author.Rules.{rules}
use native.Mathlib.Omega.{arith}
use mathlib.Core.Path.{◌≡◌, ap, ◌∙◌}
use mathlib.Core.List.{List, ◌++◌}
use Prim.Native.Nat.{ℕ, ◌+◌, ◌≤◌, min}
use lib.ListN.{length, take}
use Rattle.unfinished.specs.Kept.{keep}
use Rattle.unfinished.proofs.Held.{held, stored, take_within}
use Rattle.unfinished.proofs.hold.Goals as goal

pub overflow_sub-at : goal.overflow_sub-at
overflow_sub-at c =
    let k = c.kept_count-at in
    let l : length c.args.kept.now ≡ 1201 = search rules in
    omega (arith, l, k.ensures)

pub overflow_add-result : goal.overflow_add-result
overflow_add-result c =
    let k = c.kept_count-at in
    let n = c.min-n in
    let l : length c.args.kept.now ≡ 1201 = search rules in
    omega (arith, l, k.ensures, n.ensures)

pub returns : goal.returns
returns c =
    let a = c.args in
    let k = c.kept_count-at in
    let n = c.min-n in
    let l : length a.kept.now ≡ 1201 = search rules in
    let m : k.result ≤ 1201 = omega (arith, l, k.ensures) in
    record {
      kept_after = ap (λ (x : List ℕ). take (k.result + n.result) x) c.put_bytes.ensures
          ∙ held a.kept.now a.s.now k.result n.result l m n.ensures
          ∙ ap (λ (x : List ℕ). keep (x ++ a.s.now)) (take_within a.kept.now a.have k.result k.ensures);
      value = omega (arith, l, k.ensures, n.ensures);
      kept_after_2 = c.put_bytes.ensures ∙ stored a.kept.now a.s.now a.have k.result n.result (k.ensures ∙ ap (min a.have) l) n.ensures;
    }
