-- B1's codes are the verdict's. Assumes nothing.
use mathlib.Core.Path.{◌≡◌, refl}
use mathlib.Core.Bool.{Bool, true, false, not}
use mathlib.Core.List.{List, [], ◌∷◌}
use Prim.Native.Nat.{ℕ, ◌+◌}
use lib.Dec.{ltb, eqb}
use types.Run.{OneOf, miss}
use denote.Enum.Declared.{tag_of}
use Rattle.parts.specs.Pick.{pick}
use Rattle.errors.specs.declared.RadioError.TheVariants.{PasswordSessionClosed}
use Rattle.reply.specs.declared.RadioSide.{RadioSide}
use Rattle.write_reasons.specs.declared.WriteReason.{WriteReason}
use Rattle.write_reasons.specs.declared.WriteReason.TheVariants.{OutsideMap}
use Rattle.write_reasons.specs.contracts.WriteReason.{the_type}
use Rattle.write_reasons.proofs.Laws.{is_other}
use Rattle.write_verdict.specs.Passed.{password_place, password_situation, write_verdict}
use Rattle.write_verdict.proofs.Passed.{radio_unmapped, password_number_chain}
use Rattle.password.specs.Password.{write_password_of}
use Rattle.password.specs.Claims.{password_error, password_by, PasswordByVerdict}

-- the reasons but for the one with an error of its own, by their numbers in the enum
abbrev others : List ℕ
others = 0 ∷ 2 ∷ 3 ∷ 4 ∷ 5 ∷ 6 ∷ 7 ∷ 8 ∷ 9 ∷ 10 ∷ 11 ∷ 12 ∷ 13 ∷ 14 ∷ []

pub closed : (reason : WriteReason) → OneOf others (tag_of the_type reason) → PasswordSessionClosed ≡ password_error reason
unfolding password_error pick
closed reason h = rw (is_other reason OutsideMap others h (miss others 1 tt))

module _ (v : RadioSide) (m : List ℕ) (n : ℕ) (frame : List ℕ) (at : ℕ) where
  row : (b p : Bool) → ltb 3 n ≡ b → not (eqb v.air.session (n + 1)) ≡ p
      → write_password_of v m n frame at ≡ password_by (write_verdict (password_situation v.core v.air.session n)) v m n frame at
  unfolding write_password_of password_by password_error password_place pick
  row true p h i = rw (h, radio_unmapped)
  row false true h i = rw (h, i, password_number_chain, i)
  row false false h i = rw (h, i, password_number_chain, i)

pub password_by_verdict : PasswordByVerdict
password_by_verdict v m n frame at = row v m n frame at _ _ refl refl
