use native.Mathlib.Omega.{arith}
use mathlib.Core.Path.{◌≡◌, refl, sym, ap, ◌∙◌}
use mathlib.Core.Bool.{Bool, true, false, ◌&&◌}
use mathlib.Core.List.{[]}
use Prim.Native.Nat.{ℕ, ◌+◌, ◌-◌, ◌*◌}
use lib.ListN.{drop, get_or, drop_of_length-le}
use Rattle.parts.proofs.Picks.{picks}
use Rattle.rack_reading.specs.Line.{name_line, is_digit, all_digits, number_from, number_of, badly_begun, number_sent, rack_line_by}
use Rattle.rack_reading.proofs.NumberLaws.{digits_step, number_step, number_grows, digit_from, digit_most, no_digit, too_much, named}
use Rattle.rack_reading.proofs.number_sent.Goals as goal

-- what a test says of the definition that it equals
held : (b d : Bool) → b ≡ d → b ≡ true → d ≡ true
held b d e h = sym e ∙ h

failed : (b d : Bool) → b ≡ d → b ≡ false → d ≡ false
failed b d e h = sym e ∙ h

pub returns-then-s-first : goal.returns-then-s-first
unfolding rack_line_by number_sent
returns-then-s-first c = rw (← c.byte_at-first.ensures) (search picks depth 20)

pub loop-x-init : goal.loop-x-init
loop-x-init c = (refl, (refl, (omega arith, omega arith)))

pub returns-then-not-is_digit : goal.returns-then-not-is_digit
unfolding rack_line_by
returns-then-not-is_digit c =
    let begun_here : badly_begun c.args.s.now ≡ false = rw (← c.byte_at-first.ensures) c.if-s-first.false in
    let l = c.loop-x in
    let s = c.args.s.now in
    let d = failed _ _ c.is_digit.ensures c.if-not-is_digit.true in
    no_digit s begun_here (sym l.invariant.0 ∙ digits_step s l.x-index (omega arith) ∙ ap (λ (b : Bool). b && all_digits (drop (l.x-index + 1) s)) d)

pub overflow_sub-x : goal.overflow_sub-x
overflow_sub-x c = digit_from _ (held _ _ c.is_digit.ensures c.if-not-is_digit.false)

pub overflow_add-n : goal.overflow_add-n
overflow_add-n c = omega (arith, digit_most _ (held _ _ c.is_digit.ensures c.if-not-is_digit.false))

pub returns-then-n-gt255 : goal.returns-then-n-gt255
unfolding rack_line_by
returns-then-n-gt255 c =
    let begun_here : badly_begun c.args.s.now ≡ false = rw (← c.byte_at-first.ensures) c.if-s-first.false in
    let l = c.loop-x in
    let s = c.args.s.now in
    let n = 10 * l.n + (get_or s l.x-index 0 - 0x30) in
    too_much s begun_here (omega (arith, c.if-n-gt255.true, c.from.ensures, number_grows (drop (l.x-index + 1) s) n, sym (number_step l.n s l.x-index (omega arith)) ∙ l.invariant.1.0))

pub loop-x-preserved : goal.loop-x-preserved
loop-x-preserved c =
    let l = c.loop-x in
    let s = c.args.s.now in
    let d = held _ _ c.is_digit.ensures c.if-not-is_digit.false in (
      sym (ap (λ (b : Bool). b && all_digits (drop (l.x-index + 1) s)) d) ∙ sym (digits_step s l.x-index (omega arith)) ∙ l.invariant.0,
      (ap (λ (d : ℕ). number_from (10 * l.n + d) (drop (l.x-index + 1) s)) c.from.ensures ∙ sym (number_step l.n s l.x-index (omega arith)) ∙ l.invariant.1.0, (omega arith, omega arith)),
    )

pub returns : goal.returns
unfolding rack_line_by all_digits number_from
returns c =
    let begun_here : badly_begun c.args.s.now ≡ false = rw (← c.byte_at-first.ensures) c.if-s-first.false in
    let l = c.loop-x in
    let s = c.args.s.now in
    let e : drop l.x-index s ≡ [] = drop_of_length-le s {i = l.x-index} (omega arith) in
    let n : l.n ≡ number_of s = sym (ap (number_from l.n) e) ∙ l.invariant.1.0 in
    ap name_line n ∙ named s begun_here (sym l.invariant.0 ∙ ap all_digits e) (omega (arith, sym n))
