use native.Mathlib.Omega.{arith}
use mathlib.Core.Path.{◌≡◌, sym, ap, ◌∙◌}
use mathlib.Core.List.{List}
use Prim.Native.Nat.{ℕ, suc, ◌+◌, ◌-◌, ◌/◌, min}
use lib.ListN.{length}
use lib.Seq.{sets}
use Rattle.text.specs.Decimal.{digits_of, decimal}
use Rattle.text.specs.Place.{stored, last_place}
use Rattle.text.proofs.DecimalLaws.{digits_enough, digit_stored}
use Rattle.text.proofs.decimal.put_decimal.Goals as goal

pub loop-i-init : goal.loop-i-init
loop-i-init c =
    let k = c.digit_count-k in
    let a = c.args in
    let e : digits_of k.result a.n ≡ decimal a.n = ap (λ (j : ℕ). digits_of j a.n) k.ensures.value ∙ digits_enough 20 a.n in
    (ap (λ (x : List ℕ). sets a.text.now a.at x) e, ap length e ∙ sym k.ensures.value)

pub loop-i-preserved : goal.loop-i-preserved
loop-i-preserved c =
    let l = c.loop-i in
    let p = c.put_in in
    let at = c.args.at in
    let e : l.i ≡ suc (l.i - 1) = omega (arith, c.loop-i-test.true) in
    let d = digit_stored l.text at (l.i - 1) l.left (ap (λ (j : ℕ). length (digits_of j l.left)) (sym e) ∙ l.invariant.1 ∙ e) in (
      ap (λ (x : List ℕ). sets x at (digits_of (l.i - 1) (l.left / 10))) p.ensures
          ∙ d.0
          ∙ ap (λ (j : ℕ). sets l.text at (digits_of j l.left)) (sym e)
          ∙ l.invariant.0,
      d.1,
    )

pub returns : goal.returns
unfolding digits_of
returns c =
    let l = c.loop-i in
    let k = c.digit_count-k in
    let a = c.args in
    let e : l.i ≡ 0 = omega (arith, c.loop-i-test.false) in
    let t : l.text ≡ sets a.text.now a.at (decimal a.n) = sym (ap (λ (j : ℕ). sets l.text a.at (digits_of j l.left)) e) ∙ l.invariant.0 in
    ap (λ (x : List ℕ). stored c.after.result x) t
    ∙ ap (λ (i : ℕ). stored i (sets a.text.now a.at (decimal a.n))) (c.after.ensures ∙ ap (λ (j : ℕ). min (a.at + j) last_place) k.ensures.value)
