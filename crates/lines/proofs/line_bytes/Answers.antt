use native.Mathlib.Omega.{arith}
use mathlib.Core.Path.{◌≡◌, sym, ap}
use mathlib.Core.List.{[]}
use Prim.Native.Nat.{◌-◌}
use lib.ListN.{length, take, drop, length-drop}
use lib.Seq.{sets, take_all}
use Rattle.hexadecimal.specs.Hex.{hex_bytes}
use Rattle.hexadecimal.proofs.HexLaws.{hex_bytes_end}
use Rattle.lines.proofs.line_bytes.Goals as goal

pub returns-then-s-lt2 : goal.returns-then-s-lt2
returns-then-s-lt2 c =
    let a = c.args in
    let e : hex_bytes (drop 2 a.s.now) ≡ [] = hex_bytes_end (drop 2 a.s.now) (simp length-drop (omega arith)) in
    record { value = sym (ap length e); out_after = sym (ap (sets a.out.now 0) e) }

pub returns : goal.returns
returns c =
    let a = c.args in
    let s = a.s.now in
    let d = c.decode in
    let e : take (length s - 2) (drop 2 s) ≡ drop 2 s = take_all (length s - 2) (drop 2 s) (omega (arith, length-drop 2 s)) in
    rw e at d.ensures
