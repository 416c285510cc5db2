use borrow.Enum.Refused.{opened}
use mathlib.Core.Path.{ap, ◌∙◌}
use mathlib.Core.List.{List}
use Prim.Native.Nat.{ℕ}
use Rattle.text.specs.Place.{text_at}
use Rattle.rack_printing.specs.Text.{said_text}
use Rattle.rack_printing.proofs.TextLaws.{as_in_bench}
use Rattle.rack_printing.proofs.put_said.Goals as goal

pub returns-in-Refused : goal.returns-in-Refused
unfolding said_text
returns-in-Refused c =
    rw c.in-Refused.is c.put_refused.ensures

pub returns-in_default : goal.returns-in_default
returns-in_default c =
    let a = c.args in
    c.put_answer.ensures
    ∙ ap (λ (l : List ℕ). text_at a.text.now a.at l) (as_in_bench a.answer a.out.now (opened c.in_default.in_default-own.keys2))
