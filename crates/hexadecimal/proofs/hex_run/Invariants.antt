use mathlib.Core.Path.{◌≡◌}
use lib.ListN.{take}
use lib.Seq.{sets}
use Rattle.hexadecimal.specs.Hex.{hex_text}
use Rattle.hexadecimal.proofs.hex_run.Given as goal

abbrev pub invariant-loop-i : goal.invariant-loop-i
invariant-loop-i l = l.text ≡ sets l.initial.text l.at (hex_text (take l.i l.s))
