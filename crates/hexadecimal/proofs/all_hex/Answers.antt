use native.Mathlib.Omega.{arith}
use mathlib.Core.Path.{refl, sym, ap, ◌∙◌}
use mathlib.Core.Bool.{Bool, ◌&&◌}
use Prim.Native.Nat.{◌+◌}
use lib.ListN.{drop}
use Rattle.hexadecimal.specs.Hex.{all_hex}
use Rattle.hexadecimal.proofs.HexLaws.{all_hex_more, all_hex_end}
use Rattle.hexadecimal.proofs.all_hex.Goals as goal

pub loop-x-init : goal.loop-x-init
loop-x-init c = refl

pub loop-x-preserved : goal.loop-x-preserved
loop-x-preserved c =
    let l = c.loop-x in
    let s = c.args.s.now in
    ap (λ (b : Bool). l.all && b && all_hex (drop (l.x-index + 1) s)) c.is_hex-all.ensures ∙ all_hex_more l.all s l.x-index (omega arith) ∙ l.invariant

pub returns : goal.returns
returns c =
    let l = c.loop-x in
    let s = c.args.s.now in
    sym (all_hex_end l.all s l.x-index (omega arith)) ∙ l.invariant
