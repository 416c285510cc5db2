-- Numbers and answers are plain: they hold no tab and no line feed. Assumes nothing.
use mathlib.Core.Path.{◌≡◌, refl}
use mathlib.Core.Bool.{true}
use mathlib.Core.List.{List, [], ◌∷◌, ◌++◌}
use Prim.Native.Nat.{ℕ, zero, suc, ◌+◌, ◌-◌, ◌/◌, ◌%◌, ◌≤◌}
use native.Mathlib.Omega.{arith}
use lib.Dec.{leb, ltb}
use borrow.Author.Tests.{le-leb}
use lib.ListN.{take}
use Rattle.parts.proofs.Bools.{and_left, and_right, and_both}
use Rattle.parts.proofs.Picks.{pick_case}
use Rattle.text.specs.Decimal.{digits_of}
use Rattle.hexadecimal.specs.Hex.{hex_digit, hex_text}
use Rattle.rule_names.proofs.Laws.{plain}
use Rattle.model.specs.declared.Answer.{Answer}
use Rattle.model.specs.declared.Answer.TheVariants.{Refused, Nothing, Ack, NoAck, Byte, Silence, Reply}
use Rattle.printing.specs.Text.{answer_text}

plain_more : (x : ℕ) (s : List ℕ) → 0x20 ≤ x → plain s ≡ true → plain (x ∷ s) ≡ true
unfolding plain
plain_more x s h k = and_both (leb 0x20 x) (plain s) (le-leb 0x20 x h) k

plain_append : (s t : List ℕ) → plain s ≡ true → plain t ≡ true → plain (s ++ t) ≡ true
unfolding plain
plain_append [] t h k = k
plain_append (x ∷ s) t h k =
    and_both (leb 0x20 x) (plain (s ++ t)) (and_left (leb 0x20 x) (plain s) h) (plain_append s t (and_right (leb 0x20 x) (plain s) h) k)

pub digits_plain : (k n : ℕ) → plain (digits_of k n) ≡ true
unfolding digits_of plain
digits_plain zero n = refl
digits_plain (suc k) n =
    pick_case (λ (s : List ℕ). plain s ≡ true) (ltb n 10) ((0x30 + n) ∷ []) (digits_of k (n / 10) ++ (0x30 + n % 10) ∷ [])
    (λ _. plain_more (0x30 + n) [] (omega arith) refl)
    (λ _. plain_append (digits_of k (n / 10)) ((0x30 + n % 10) ∷ []) (digits_plain k (n / 10)) (plain_more (0x30 + n % 10) [] (omega arith) refl))

digit_plain : (n : ℕ) → 0x20 ≤ hex_digit n
unfolding hex_digit
digit_plain n = pick_case (λ (x : ℕ). 0x20 ≤ x) (ltb n 10) (0x30 + n) (0x37 + n) (λ _. omega arith) (λ _. omega arith)

hex_plain : (s : List ℕ) → plain (hex_text s) ≡ true
unfolding hex_text plain
hex_plain [] = refl
hex_plain (x ∷ s) =
    plain_more (hex_digit (x / 16)) (hex_digit (x % 16) ∷ hex_text s) (digit_plain (x / 16)) (plain_more (hex_digit (x % 16)) (hex_text s) (digit_plain (x % 16)) (hex_plain s))

pub answer_plain : (a : Answer) (o : List ℕ) → plain (answer_text a o) ≡ true
unfolding answer_text plain
answer_plain (Refused n) o = refl
answer_plain Nothing o = refl
answer_plain Ack o = refl
answer_plain NoAck o = refl
answer_plain (Byte x) o = hex_plain (x ∷ [])
answer_plain Silence o = refl
answer_plain (Reply n) o = hex_plain (take (n - 2) o)
