use native.Mathlib.Omega.{arith}
use mathlib.Core.Path.{◌≡◌, refl, sym, ap, ◌∙◌}
use mathlib.Core.List.{List}
use Prim.Native.Nat.{ℕ, ◌+◌, ◌*◌}
use native.Mathlib.Numerals.{add-one}
use lib.ListN.{drop, get_or, set, length-drop}
use lib.Seq.{sets}
use Rattle.hexadecimal.specs.Hex.{hex_byte, hex_bytes}
use Rattle.hexadecimal.proofs.HexLaws.{hex_bytes_step, hex_bytes_end, length_hex_bytes}
use Rattle.hexadecimal.proofs.decode.Goals as goal

pub loop-i-init : goal.loop-i-init
loop-i-init c = refl

pub loop-i-preserved : goal.loop-i-preserved
loop-i-preserved c =
    let l = c.loop-i in
    let s = c.args.s.now in
    let b = hex_byte (get_or s (2 * l.i) 0) (get_or s (2 * l.i + 1) 0) in
    let r = hex_bytes (drop (2 * (l.i + 1)) s) in
    let e : c.put.new.m ≡ set l.out l.i b = c.put.ensures ∙ ap (λ (x : ℕ). set l.out l.i x) c.hex_byte-b.ensures in
    ap (λ (o : List ℕ). sets o (l.i + 1) r) e
    ∙ ap (λ (k : ℕ). sets (set l.out l.i b) k r) (add-one l.i)
    ∙ sym (ap (λ (x : List ℕ). sets l.out l.i x) (hex_bytes_step s l.i (omega arith)))
    ∙ l.invariant

pub returns : goal.returns
returns c =
    let l = c.loop-i in
    let s = c.args.s.now in
    record { value = sym (length_hex_bytes s); out_after = sym (ap (λ (x : List ℕ). sets l.out l.i x) (hex_bytes_end (drop (2 * l.i) s) (simp length-drop (omega arith)))) ∙ l.invariant }
