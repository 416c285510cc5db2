use native.Mathlib.Omega.{arith}
use mathlib.Core.Path.{◌≡◌, refl, ap, ◌∙◌}
use mathlib.Core.List.{List}
use Prim.Native.Nat.{ℕ, ◌+◌, ◌*◌, min}
use lib.ListN.{length, take}
use lib.Seq.{sets}
use Rattle.hexadecimal.specs.Hex.{hex_text}
use Rattle.text.specs.Place.{stored, last_place, text_at}
use Rattle.hexadecimal.proofs.HexLaws.{length_hex_text, take_clip}
use Rattle.hexadecimal.proofs.put_hex.Goals as goal

-- as many bytes as s has are all of them
clipped : (s : List ℕ) (n k : ℕ) → k ≡ min n (length s) → take k s ≡ take n s
clipped s n k e = ap (λ (i : ℕ). take i s) e ∙ take_clip n (length s) s refl

pub returns-then-s-text : goal.returns-then-s-text
returns-then-s-text c =
    let a = c.args in
    let s = a.s.now in
    let o = a.text.now in
    let t = take c.min.result s in
    let e : a.at + 2 * length t ≡ min (a.at + length (hex_text t)) last_place = omega (arith, length_hex_text t, c.if-s-text.true, c.if-at-text.true) in
    ap (stored (a.at + 2 * length t)) c.hex_run.ensures
    ∙ ap (λ (i : ℕ). stored i (sets o a.at (hex_text t))) e
    ∙ ap (λ (x : List ℕ). text_at o a.at (hex_text x)) (clipped s a.n c.min.result c.min.ensures)
