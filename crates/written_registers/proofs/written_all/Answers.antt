use mathlib.Core.Path.{◌≡◌, refl, sym, ap, ◌∙◌}
use Prim.Native.Nat.{ℕ, ◌+◌}
use native.Mathlib.Omega.{arith}
use native.Mathlib.Numerals.{add-one}
use lib.ListN.{get_or}
use Rattle.parts.specs.Bytes.{bytes_at}
use Rattle.parts.proofs.Lists.{length_bytes_at}
use Rattle.registers.specs.Map.{written}
use Rattle.written_registers.specs.Written.{written_all}
use Rattle.written_registers.proofs.Registers.{written_snoc}
use Rattle.written_registers.proofs.written_all.Goals as goal

pub loop-i-init : goal.loop-i-init
unfolding bytes_at written_all
loop-i-init c = refl

pub loop-i-preserved : goal.loop-i-preserved
unfolding bytes_at
loop-i-preserved c =
    let l = c.loop-i in
    let a = c.args in
    let xs = bytes_at a.m.now 768 l.i in
    c.write_at-n.ensures
    ∙ rw (c.byte_in-x.ensures, l.invariant, add-one l.i)
    (ap (λ (j : ℕ). written (written_all a.r a.first xs) (a.first + j) (get_or a.m.now (768 + l.i) 0)) (sym (length_bytes_at a.m.now 768 l.i))
    ∙ sym (written_snoc xs a.r a.first (get_or a.m.now (768 + l.i) 0)))

pub returns : goal.returns
returns c =
    let l = c.loop-i in
    let a = c.args in
    let e : l.i ≡ a.k = omega arith in
    l.invariant ∙ ap (λ (j : ℕ). written_all a.r a.first (bytes_at a.m.now 768 j)) e
