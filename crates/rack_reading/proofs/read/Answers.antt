use mathlib.Core.Path.{◌≡◌, sym, ap, ◌∙◌}
use mathlib.Core.List.{List}
use Prim.Native.Nat.{ℕ}
use lib.ListN.{drop}
use Rattle.std.specs.Prelude.{Option, Some}
use Rattle.reading.specs.declared.Reading.{Reading}
use Rattle.reading.specs.Line.{ScriptLine, line_of, line_by}
use Rattle.rack_reading.specs.Line.{or_own, rack_line_of, rack_line_by}
use Rattle.rack_reading.proofs.read.Goals as goal

-- a line that `bench` reads so
read-so : (s : List ℕ) (r x : Option Reading) → line_by r (drop 2 s) ≡ line_of s → r ≡ x → or_own (line_by x (drop 2 s)) s ≡ rack_line_of s
unfolding rack_line_of
read-so s r x e h = ap (λ (line : ScriptLine). or_own line s) (sym (ap (λ (y : Option Reading). line_by y (drop 2 s)) h) ∙ e)

pub returns-in-None : goal.returns-in-None
unfolding line_by or_own
returns-in-None c =
    c.own_line.ensures ∙ read-so _ _ _ c.read.ensures c.in-None.is

pub returns-in-Some-Signal : goal.returns-in-Some-Signal
unfolding rack_line_by line_by or_own
returns-in-Some-Signal c =
    let r = c.in-Some-Signal in
    read-so _ _ _ c.read.ensures (r.is ∙ ap Some r.field-0-is)

pub returns-in-Some-Frame : goal.returns-in-Some-Frame
unfolding rack_line_by line_by or_own
returns-in-Some-Frame c =
    let r = c.in-Some-Frame in
    read-so _ _ _ c.read.ensures (r.is ∙ ap Some r.field-0-is)
