-- A1's codes are the verdict's. Assumes nothing.
use mathlib.Core.Path.{◌≡◌, refl}
use mathlib.Core.Bool.{Bool, true, false, not}
use mathlib.Core.List.{List, [], ◌∷◌}
use Prim.Native.Nat.{ℕ}
use lib.Dec.{eqb}
use types.Run.{OneOf, miss}
use denote.Enum.Declared.{tag_of}
use Rattle.parts.specs.Pick.{pick}
use Rattle.parts.specs.Bits.{is_set}
use Rattle.register_table.specs.Table.{is_pointer}
use Rattle.areas.specs.Ends.{end_allows}
use Rattle.errors.specs.declared.RadioError.TheVariants.{ConfigurationClosed}
use Rattle.reply.specs.declared.RadioSide.{RadioSide}
use Rattle.write_reasons.specs.declared.WriteReason.{WriteReason}
use Rattle.write_reasons.specs.declared.WriteReason.TheVariants.{OutsideMap, EndaRule}
use Rattle.write_reasons.specs.contracts.WriteReason.{the_type}
use Rattle.write_reasons.proofs.Laws.{is_other}
use Rattle.write_verdict.specs.Passed.{pointer_place, pointer_situation, write_verdict}
use Rattle.write_verdict.proofs.Passed.{radio_unmapped, pointer_chain}
use Rattle.config.specs.Config.{write_config_of}
use Rattle.config.specs.Claims.{config_error, config_by, ConfigByVerdict}

-- the reasons but for those with an error of their own, by their numbers in the enum
abbrev others : List ℕ
others = 0 ∷ 2 ∷ 3 ∷ 4 ∷ 5 ∷ 6 ∷ 7 ∷ 8 ∷ 9 ∷ 10 ∷ 11 ∷ 12 ∷ 14 ∷ []

pub closed : (reason : WriteReason) → OneOf others (tag_of the_type reason) → ConfigurationClosed ≡ config_error reason
unfolding config_error pick
closed reason h = rw (is_other reason OutsideMap others h (miss others 1 tt), is_other reason EndaRule others h (miss others 13 tt))

module _ (v : RadioSide) (m : List ℕ) (pointer x : ℕ) where
  row : (b p q : Bool) (e : Bool) → is_pointer pointer ≡ b → is_set 1 v.core.registers.config.bits ≡ p → not (eqb v.air.session 1) ≡ q
      → not (end_allows v.core.registers.ends pointer x) ≡ e
      → write_config_of v m pointer x ≡ config_by (write_verdict (pointer_situation v.core v.air.session pointer x)) v m pointer x
  unfolding write_config_of config_by config_error pointer_place pick
  row false p q e h i j l = rw (h, radio_unmapped)
  row true true q e h i j l = rw (h, i, pointer_chain v.core v.air.session pointer 0 x h, i)
  row true false true e h i j l = rw (h, i, j, pointer_chain v.core v.air.session pointer 0 x h, i, j)
  row true false false true h i j l = rw (h, i, j, l, pointer_chain v.core v.air.session pointer 0 x h, i, j, l)
  row true false false false h i j l = rw (h, i, j, l, pointer_chain v.core v.air.session pointer 0 x h, i, j, l)

pub config_by_verdict : ConfigByVerdict
config_by_verdict v m pointer x = row v m pointer x _ _ _ _ refl refl refl refl
