use mathlib.Core.List.{List}
use Prim.Native.Nat.{ℕ, ◌-◌}
use Rattle.parts.specs.Pick.{pick}
use Rattle.printing.specs.Text.{answer_text, name_field}
use Rattle.script.proofs.bad_line.Goals as goal

pub returns : goal.returns
unfolding answer_text name_field pick
returns c =
    λ (m : List ℕ). rw (c.put_line-length.ensures.text_after, c.put_line-length.ensures.value, c.next_line-number.ensures)
