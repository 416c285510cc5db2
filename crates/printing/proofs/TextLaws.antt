-- Laws of a line's text. Assumes nothing.
use mathlib.Core.Path.{◌≡◌, refl, ap, ◌∙◌}
use mathlib.Core.List.{List, [], ◌∷◌, ◌++◌, append_assoc}
use Prim.Native.Nat.{ℕ, ◌+◌, ◌-◌, ◌≤◌}
use native.Mathlib.Omega.{arith}
use lib.Dec.{eqb}
use lib.ListN.{length, take, length-append, length-take}
use lib.Seq.{append_snoc}
use Rattle.parts.proofs.Picks.{pick_case, pick_eq, pick_ne}
use Rattle.hexadecimal.specs.Hex.{hex_text}
use Rattle.text.specs.Decimal.{decimal}
use Rattle.hexadecimal.proofs.HexLaws.{length_hex_text}
use Rattle.model.specs.declared.Answer.{Answer}
use Rattle.model.specs.declared.Answer.TheVariants.{Refused, Nothing, Ack, NoAck, Byte, Silence, Reply}
use Rattle.rule_names.specs.Names.{name_at}
use Rattle.rule_names.proofs.Laws.{name_length}
use Rattle.printing.specs.Text.{answer_text, name_field, line_text}

pub length_line : (number : ℕ) (a : List ℕ) → length (line_text number a) ≡ length (decimal number) + length a + 2
unfolding line_text
length_line number a = simp length-append (omega arith)

-- two digits a byte of the reply buffer at most
pub answer_most : (a : Answer) (o : List ℕ) → length o ≡ 643 → length (answer_text a o) ≤ 1286
unfolding answer_text hex_text
answer_most (Refused n) o h = omega arith
answer_most Nothing o h = omega arith
answer_most Ack o h = omega arith
answer_most NoAck o h = omega arith
answer_most (Byte x) o h = omega arith
answer_most Silence o h = omega arith
answer_most (Reply n) o h = omega (arith, length_hex_text (take (n - 2) o), length-take (n - 2) o)

-- a tab and a name of 37 characters at most
pub field_most : (rule : ℕ) → length (name_field rule) ≤ 38
unfolding name_field
field_most rule =
    pick_case (λ (s : List ℕ). length s ≤ 38) (eqb rule 0) _ _ (λ _. omega arith) (λ _. omega (arith, name_length rule))

pub no_field : (rule : ℕ) → rule ≡ 0 → [] ≡ name_field rule
unfolding name_field
no_field rule e = pick_eq _ _ _ rule 0 e refl

pub field_parts : (rule : ℕ) → (rule ≡ 0 → ⊥) → 0x09 ∷ name_at rule ≡ name_field rule
unfolding name_field
field_parts rule e = pick_ne _ _ _ rule 0 e refl

-- number, tab, answer, field and line feed one behind another
pub line_parts : (number : ℕ) (a f : List ℕ) → (((decimal number ++ 0x09 ∷ []) ++ a) ++ f) ++ 0x0A ∷ [] ≡ line_text number (a ++ f)
unfolding line_text
line_parts number a f =
    ap (λ (l : List ℕ). l ++ 0x0A ∷ []) (append_assoc (decimal number ++ 0x09 ∷ []) a f ∙ append_snoc (decimal number) 0x09 (a ++ f))
