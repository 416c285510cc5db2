-- What a line leaves, from what it says. Assumes nothing.
use Rattle.std.proofs.Common.{◌≡◌, ℕ, ◌-◌, ◌≤◌, true, List, length, take, drop, sym, ap, ◌∙◌, arith, length-drop, take_all}
use lib.Seq.{sets}
use Rattle.std.specs.Prelude.{Option}
use Rattle.reading.proofs.LineLaws.{Framed}
use Rattle.line_stream.specs.Step.{LineStored, stores_line, text_room}
use Rattle.rack_reading.specs.declared.RackReading.{RackReading}
use Rattle.rack_reading.specs.Line.{RackLine, rack_line_of, rack_line_by}
use Rattle.rack_reading.proofs.LineLaws.{has_digits, digits_framed}
use Rattle.rack_script.specs.Script.{RackState, rack_line_answer, rack_program, rack_frame}
use Rattle.rack_script.proofs.Fits.{rack_texts_fit}

-- what the line says, by what was read
pub said : (s : List ℕ) (r x : Option RackReading) → rack_line_by r (drop 2 s) ≡ rack_line_of s → r ≡ x → rack_line_of s ≡ rack_line_by x (drop 2 s)
said s r x e h = sym e ∙ ap (λ (y : Option RackReading). rack_line_by y (drop 2 s)) h

-- a line with digits behind its tab
pub said_framed : (s : List ℕ) (r x : Option RackReading) → rack_line_by r (drop 2 s) ≡ rack_line_of s → r ≡ x → has_digits (rack_line_by x (drop 2 s)) ≡ true → Framed s
said_framed s r x e h d = digits_framed s (ap has_digits (said s r x e h) ∙ d)

pub behind_tab : (s : List ℕ) → take (length s - 2) (drop 2 s) ≡ drop 2 s
behind_tab s = take_all (length s - 2) (drop 2 s) (omega (arith, length-drop 2 s))

-- all that the function of a line promises
pub settled : (st : RackState) (s buf : List ℕ) (x : RackLine) (q : LineStored RackState) (f g : List ℕ) → rack_line_of s ≡ x
    → q ≡ stores_line (rack_line_answer x st) buf → g ≡ sets f 0 (rack_frame x)
    → (q ≡ stores_line (rack_program st s) buf) × ((q.length ≤ text_room) × (g ≡ sets f 0 (rack_frame (rack_line_of s))))
unfolding rack_program
settled st s buf x q f g e w h =
    let p : q ≡ stores_line (rack_program st s) buf = w ∙ ap (λ (y : RackLine). stores_line (rack_line_answer y st) buf) (sym e) in
    (p, (omega (arith, ap (λ (y : LineStored RackState). y.length) p, rack_texts_fit st s), h ∙ ap (λ (y : RackLine). sets f 0 (rack_frame y)) (sym e)))
