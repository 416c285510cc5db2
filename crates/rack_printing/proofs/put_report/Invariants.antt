use mathlib.Core.Path.{◌≡◌}
use Prim.Native.Nat.{◌≤◌}
use lib.ListN.{drop}
use Rattle.text.specs.Place.{last_place, text_at}
use Rattle.rack.specs.Step.{numbers_from}
use Rattle.rack_printing.specs.Text.{numbers_text, report_text}
use Rattle.rack_printing.proofs.put_report.Given as goal

-- stored behind what stands, what is left gives the whole
abbrev pub invariant-loop-i : goal.invariant-loop-i
invariant-loop-i l = (text_at l.text l.to (numbers_text l.mark (numbers_from l.i (drop l.i l.answered))) ≡ text_at l.initial.text l.at (report_text (numbers_from 0 l.answered))) × (l.to ≤ last_place)
