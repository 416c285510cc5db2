use mathlib.Core.Path.{◌≡◌}
use lib.ListN.{take}
use Rattle.hexadecimal.specs.Hex.{hex_text}
use Rattle.text.specs.Place.{stored, text_at}
use Rattle.hexadecimal.proofs.hex_each.Given as goal

abbrev pub invariant-loop-x : goal.invariant-loop-x
invariant-loop-x l = stored l.to l.text ≡ text_at l.initial.text l.at (hex_text (take l.x-index l.s))
