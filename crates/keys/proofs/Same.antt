-- Eight bytes are the same by the derived `==` exactly when they agree. Assumes nothing.
use mathlib.Core.Path.{◌≡◌, refl, sym, ap, ◌∙◌}
use mathlib.Core.Bool.{Bool, true, false, ◌&&◌}
use mathlib.Core.List.{List}
use Prim.Native.Nat.{ℕ}
use lib.Dec.{eqb}
use lib.ListN.{length, get_or}
use lib.Pointwise.{pointwise}
use Rattle.parts.specs.Bytes.{bytes_at, agree}
use Rattle.parts.proofs.Lists.{bytes_at_whole}
use Rattle.keys.specs.declared.Password.{Password}
use Rattle.keys.specs.declared.Uid.{Uid}
use Rattle.keys.specs.Keys.{same_password, same_uid}

-- eight tests from the first on, and from the last on
in_turn : (a b c d e f g h : Bool) → (a && (b && (c && (d && (e && (f && (g && (h && true)))))))) ≡ (true && a && b && c && d && e && f && g && h)
in_turn false b c d e f g h = refl
in_turn true false c d e f g h = refl
in_turn true true false d e f g h = refl
in_turn true true true false e f g h = refl
in_turn true true true true false f g h = refl
in_turn true true true true true false g h = refl
in_turn true true true true true true false h = refl
in_turn true true true true true true true false = refl
in_turn true true true true true true true true = refl

same_eight : (x y : List ℕ) → length x ≡ 8 → length y ≡ 8 → pointwise eqb x y ≡ agree 8 x y
unfolding bytes_at agree
same_eight x y ex ey =
    let t : ℕ → Bool = λ i. eqb (get_or x i 0) (get_or y i 0) in
    sym (ap (λ (s : List ℕ). pointwise eqb s y) (bytes_at_whole x 8 ex))
    ∙ sym (ap (λ (s : List ℕ). pointwise eqb (bytes_at x 0 8) s) (bytes_at_whole y 8 ey))
    ∙ in_turn (t 0) (t 1) (t 2) (t 3) (t 4) (t 5) (t 6) (t 7)

pub password_eq : (one other : Password) → length one.bytes ≡ 8 → length other.bytes ≡ 8 → pointwise eqb one.bytes other.bytes ≡ same_password one other
password_eq one other = same_eight one.bytes other.bytes

pub uid_eq : (u other : Uid) → length u.bytes ≡ 8 → length other.bytes ≡ 8 → pointwise eqb u.bytes other.bytes ≡ same_uid u other
uid_eq u other = same_eight u.bytes other.bytes
