-- A text that is ? answers a refusal, and a line's text tells its answer. Assumes nothing.
use mathlib.Core.Path.{◌≡◌, refl, sym, ap, ◌∙◌}
use mathlib.Core.Bool.{false, false≢true}
use mathlib.Core.List.{List, [], ◌∷◌, ◌++◌, append_assoc}
use Prim.Native.Nat.{ℕ, ◌+◌, ◌-◌, ◌<◌}
use native.Mathlib.Omega.{arith}
use lib.Dec.{eqb}
use lib.ListN.{length, take, drop, get_or, length-append}
use lib.Seq.{take_at, drop_at}
use Rattle.parts.proofs.Picks.{pick_case}
use Rattle.hexadecimal.specs.Hex.{hex_text}
use Rattle.text.specs.Decimal.{decimal}
use Rattle.model.specs.declared.Answer.{Answer}
use Rattle.model.specs.declared.Answer.TheVariants.{Refused, Nothing, Ack, NoAck, Byte, Silence, Reply}
use Rattle.model.specs.Step.{is_refused}
use Rattle.printing.specs.Text.{bad_text, answer_text, name_field, line_text}
use Rattle.printing.proofs.TextLaws.{length_line}

-- ---- a text that is ? answers a refusal
first : List ℕ → ℕ
first s = get_or s 0 0

field_first : (rule : ℕ) → first (name_field rule) < 0x3F
unfolding name_field first
field_first rule = pick_case (λ (s : List ℕ). first s < 0x3F) (eqb rule 0) _ _ (λ _. omega arith) (λ _. omega arith)

hex_marked : (s f : List ℕ) → first f < 0x3F → hex_text s ++ f ≡ bad_text → ⊥
unfolding hex_text first
hex_marked [] f h e = omega (arith, h, ap first e)
hex_marked (x ∷ s) f h e = omega (arith, ap length e)

pub marked : (a : Answer) (o : List ℕ) (rule : ℕ) → is_refused a ≡ false → answer_text a o ++ name_field rule ≡ bad_text → ⊥
unfolding is_refused answer_text first
marked (Refused n) o rule r e = false≢true (sym r)
marked Nothing o rule r e = omega (arith, ap first e)
marked Ack o rule r e = omega (arith, ap first e)
marked NoAck o rule r e = omega (arith, ap first e)
marked (Byte x) o rule r e = hex_marked (x ∷ []) (name_field rule) (field_first rule) e
marked Silence o rule r e = omega (arith, ap first e)
marked (Reply n) o rule r e = hex_marked (take (n - 2) o) (name_field rule) (field_first rule) e

-- the answer within a line's text
line_answer_lem : (n : ℕ) (a : List ℕ) → take (length a) (drop (length (decimal n) + 1) (line_text n a)) ≡ a
unfolding line_text
line_answer_lem n a =
    let d = decimal n in
    ap (λ (x : List ℕ). take (length a) (drop (length d + 1) x))
    (append_assoc d (0x09 ∷ a) (0x0A ∷ []) ∙ sym (append_assoc d (0x09 ∷ []) (a ++ 0x0A ∷ [])))
    ∙ ap (take (length a)) (drop_at (d ++ 0x09 ∷ []) (a ++ 0x0A ∷ []) (length d + 1) (length-append d (0x09 ∷ [])))
    ∙ take_at a (0x0A ∷ []) (length a) refl

pub same_answer : (n : ℕ) (a b : List ℕ) → line_text n a ≡ line_text n b → a ≡ b
same_answer n a b e =
    let l : length a ≡ length b = omega (arith, ap length e, length_line n a, length_line n b) in
    sym (line_answer_lem n a)
    ∙ ap (λ (x : List ℕ). take (length a) (drop (length (decimal n) + 1) x)) e
    ∙ ap (λ (k : ℕ). take k (drop (length (decimal n) + 1) (line_text n b))) l
    ∙ line_answer_lem n b
