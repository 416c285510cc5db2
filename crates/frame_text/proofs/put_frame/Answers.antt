use native.Mathlib.Omega.{arith}
use mathlib.Core.Path.{◌≡◌, sym, ap, ◌∙◌}
use mathlib.Core.List.{List}
use Prim.Native.Nat.{ℕ, ◌+◌, ◌-◌, ◌≤◌}
use lib.ListN.{length, take}
use lib.Seq.{sets}
use Rattle.hexadecimal.specs.Hex.{hex_bytes}
use Rattle.hexadecimal.proofs.HexLaws.{length_hex_bytes}
use Rattle.crc.specs.Crc.{closed, closed_at}
use Rattle.crc.proofs.Frames.{closed_at_lem}
use Rattle.frame_text.proofs.LineLaws.{frame_stored}
use borrow.Author.Rules.{rules}
use Rattle.frame_text.proofs.put_frame.Goals as goal

pub overflow_add-result : goal.overflow_add-result
overflow_add-result c =
    omega (arith, c.decode-n.ensures.value, length_hex_bytes c.args.s.now)

pub returns : goal.returns
returns c =
    let d = c.decode-n in
    let a = c.args in
    let s = a.s.now in
    let n = d.result in
    let v = d.ensures.value in
    let l = length_hex_bytes s in
    let h : length a.frame.now ≡ 602 = search rules in
    let at_n : c.close.new.out ≡ closed_at (sets a.frame.now 0 (hex_bytes s)) n = c.close.ensures ∙ ap (λ (x : List ℕ). closed_at x n) d.ensures.out_after in
    let e : length s ≤ 1198 → c.close.new.out ≡ sets a.frame.now 0 (closed (hex_bytes s)) = λ p. at_n ∙ closed_at_lem (hex_bytes s) a.frame.now n (sym v) (omega (arith, p, h, l, v)) in
    record {
      value = omega (arith, v);
      stored = at_n ∙ ap (closed_at (sets a.frame.now 0 (hex_bytes s))) v;
      frame_after = λ p. ap (λ (x : List ℕ). take (n + 2) x) (e p) ∙ frame_stored (hex_bytes s) a.frame.now n (sym v) (omega (arith, p, h, l, v));
      upper_bound = λ p. omega (arith, p, h, l, v, c.close.auto.out ∙ d.auto.out);
      frame_after_2 = e;
    }
