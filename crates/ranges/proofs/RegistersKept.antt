-- A write of a register keeps the registers in range. Assumes nothing.
use mathlib.Core.Path.{◌≡◌, refl, sym, ap, subst, ◌∙◌}
use mathlib.Core.Bool.{Bool, true, false, not, ◌&&◌, ◌||◌}
use mathlib.Core.List.{List}
use Prim.Native.Nat.{ℕ, zero, suc, ◌+◌, ◌*◌}
use native.Mathlib.Omega.{arith}
use lib.Dec.{T, eqb, leb}
use lib.ListN.{length, get_or}
use lib.Seq.{get_or-set_other}
use borrow.Author.Tests.{eqb-true, leb-true, not-true}
use Rattle.parts.specs.Pick.{pick}
use Rattle.parts.specs.Bits.{keep_bits}
use Rattle.parts.proofs.Bools.{and_left, and_right, and_both}
use Rattle.parts.proofs.Picks.{pick_case}
use Rattle.registers.specs.declared.Registers.{Registers}
use Rattle.register_table.specs.declared.RegisterRow.{RegisterRow}
use Rattle.register_table.specs.declared.WriteRule.{WriteRule}
use Rattle.register_table.specs.declared.WriteRule.TheVariants.{Plain, AreaEnd, MailboxMode}
use Rattle.register_types.specs.declared.RfMngt.{RfMngt}
use Rattle.register_types.specs.Types.{rf_mngt_bits, rf_mngt, end_a}
use Rattle.register_table.specs.Table.{register_count, mngt_place, dynamic_place, ccfile_place, place_bits, row_of}
use Rattle.defined_bits.specs.Defined.{only_bits, defined_to, defined_only}
use Rattle.registers.specs.Map.{register_bytes, registers_of, with_end, with_dynamic, put_defined, written_to, written}
use Rattle.register_table.proofs.Rows.{row_test}
use Rattle.registers.proofs.Bytes.{bytes_count, bytes_of, put_count}
use Rattle.defined_bits.proofs.Defined.{only, put_kept, defined_at}
use Rattle.areas.specs.Ends.{ends_in_range, rule_allows, end_allows}
use Rattle.areas.proofs.Kept.{end_kept}
use Rattle.ranges.specs.Ranges.{registers_in_range}

-- the range as facts
record Fits (r : Registers) : Type 0 where
  ends : ends_in_range r.ends ≡ true
  defined : defined_only r ≡ true

fits : (r : Registers) → registers_in_range r ≡ true → Fits r
unfolding registers_in_range
fits r h = record { ends = and_left (ends_in_range r.ends) (defined_only r) h; defined = and_right (ends_in_range r.ends) (defined_only r) h }

in_range_lem : (r : Registers) → Fits r → registers_in_range r ≡ true
unfolding registers_in_range
in_range_lem r f = and_both _ _ f.ends f.defined

-- ---- byte b written to the register at a place: its undefined bits
of_list : (s : List ℕ) → length s ≡ register_count → defined_to register_count s ≡ true → defined_only (registers_of s) ≡ true
unfolding defined_only
of_list s e h = rw (bytes_of s e) h

module _ (r : Registers) (b : ℕ) where
  put_once : (p : ℕ) → defined_only r ≡ true → defined_only (registers_of (put_defined p b (register_bytes r))) ≡ true
  unfolding defined_only
  put_once p h = of_list (put_defined p b (register_bytes r)) (put_count p b (register_bytes r) (bytes_count r)) (put_kept p b (register_bytes r) register_count h)

  put_twice : (p q : ℕ) → defined_only r ≡ true → defined_only (registers_of (put_defined q b (put_defined p b (register_bytes r)))) ≡ true
  unfolding defined_only
  put_twice p q h =
      let s = put_defined p b (register_bytes r) in
      of_list (put_defined q b s) (put_count q b s (put_count p b (register_bytes r) (bytes_count r)))
      (put_kept q b s register_count (put_kept p b (register_bytes r) register_count h))

  defined_written : (p : ℕ) → defined_only r ≡ true → defined_only (written_to p b r) ≡ true
  unfolding written_to
  defined_written p h = pick_case (λ (n : Registers). defined_only n ≡ true) (eqb p mngt_place) _ _ (λ _. put_twice mngt_place dynamic_place h) (λ _. put_once p h)

-- ---- the ends: a row's rule tells whether its place is that of an end, and of which
abbrev is_end : ℕ → Bool
is_end p = eqb p 3 || eqb p 5 || eqb p 7

abbrev rule_fits : WriteRule → ℕ → Bool
rule_fits Plain p = not (is_end p)
rule_fits (AreaEnd i) p = eqb p (2 * i + 1) && (leb 1 i && leb i 3)
rule_fits MailboxMode p = not (is_end p)

row_fits : (a : ℕ) → rule_fits (row_of a).rule (row_of a).place ≡ true
row_fits a = row_test (λ (row : RegisterRow). rule_fits row.rule row.place) refl refl a

-- a place that is none of an end's is not that of this end
apart : (p k : ℕ) → is_end p ≡ false → is_end k ≡ true → k ≡ p → ⊥
apart p k h e q = subst T (sym e ∙ ap is_end q ∙ h) tt

module _ (r : Registers) (b : ℕ) where
  other_ends : (p : ℕ) → is_end p ≡ false → (written_to p b r).ends ≡ r.ends
  unfolding written_to put_defined register_bytes
  other_ends p h =
      let s = register_bytes r in
      let y = keep_bits (get_or place_bits p 0) b in
      pick_case (λ (n : Registers). n.ends ≡ r.ends) (eqb p mngt_place) _ _ (λ _. refl)
      (λ _. rw (get_or-set_other s p 3 y 0 (apart p 3 h refl), get_or-set_other s p 5 y 0 (apart p 5 h refl), get_or-set_other s p 7 y 0 (apart p 7 h refl)))

  end_written : (i : ℕ) → leb 1 i ≡ true → leb i 3 ≡ true → (written_to (2 * i + 1) b r).ends ≡ with_end i (end_a b) r.ends
  unfolding written_to put_defined place_bits register_bytes with_end pick
  end_written zero l h = absurd (omega (arith, leb-true 1 0 l))
  end_written (suc zero) l h = refl
  end_written (suc (suc zero)) l h = refl
  end_written (suc (suc (suc zero))) l h = refl
  end_written (suc (suc (suc (suc i)))) l h = absurd (omega (arith, leb-true (suc (suc (suc (suc i)))) 3 h))

  module _ (f : Fits r) where
    abbrev Kept : ℕ → Type 0
    Kept p = ends_in_range (written_to p b r).ends ≡ true

    by_rule : (rule : WriteRule) (p : ℕ) → rule_fits rule p ≡ true → rule_allows rule r.ends b ≡ true → Kept p
    by_rule Plain p h a = rw (other_ends p (not-true (is_end p) h)) f.ends
    by_rule (AreaEnd i) p h a =
        let l = and_right (eqb p (2 * i + 1)) _ h in
        subst Kept (sym (eqb-true p (2 * i + 1) (and_left (eqb p (2 * i + 1)) _ h)))
        (rw (end_written i (and_left (leb 1 i) (leb i 3) l) (and_right (leb 1 i) (leb i 3) l)) (end_kept r.ends i b f.ends a))
    by_rule MailboxMode p h a = rw (other_ends p (not-true (is_end p) h)) f.ends

pub written_kept : (r : Registers) (a b : ℕ) → registers_in_range r ≡ true → end_allows r.ends a b ≡ true → registers_in_range (written r a b) ≡ true
unfolding written end_allows
written_kept r a b h p =
    let f = fits r h in
    in_range_lem (written_to (row_of a).place b r)
    (record { ends = by_rule r b f (row_of a).rule (row_of a).place (row_fits a) p; defined = defined_written r b (row_of a).place f.defined })

-- LOCK_CCFILE has no rule
pub ccfile_kept : (r : Registers) (b : ℕ) → registers_in_range r ≡ true → registers_in_range (written_to ccfile_place b r) ≡ true
ccfile_kept r b h =
    let f = fits r h in
    in_range_lem (written_to ccfile_place b r) (record { ends = rw (other_ends r b ccfile_place refl) f.ends; defined = defined_written r b ccfile_place f.defined })

-- ---- RF_MNGT_Dyn written, and reloaded from RF_MNGT
dynamic_is_lem : (r : Registers) (x : RfMngt) → Fits r → only_bits rf_mngt_bits x.bits ≡ true → Fits (with_dynamic x r)
unfolding defined_only put_defined place_bits register_bytes
dynamic_is_lem r x f p =
    record {
      ends = f.ends;
      defined =
          subst (λ (y : ℕ). defined_to register_count (register_bytes (with_dynamic (record { bits = y }) r)) ≡ true) (eqb-true (keep_bits rf_mngt_bits x.bits) x.bits p)
          (put_kept dynamic_place x.bits (register_bytes r) register_count f.defined);
    }

pub dynamic_kept : (r : Registers) (b : ℕ) → registers_in_range r ≡ true → registers_in_range (with_dynamic (rf_mngt b) r) ≡ true
dynamic_kept r b h = in_range_lem (with_dynamic (rf_mngt b) r) (dynamic_is_lem r (rf_mngt b) (fits r h) (only rf_mngt_bits b))

pub reload_kept : (r : Registers) → registers_in_range r ≡ true → registers_in_range (with_dynamic r.mngt r) ≡ true
unfolding defined_only place_bits register_bytes
reload_kept r h =
    let f = fits r h in
    in_range_lem (with_dynamic r.mngt r) (dynamic_is_lem r r.mngt f (defined_at register_count (register_bytes r) f.defined mngt_place (omega arith)))

-- RF_MNGT_Dyn of registers in range, which an open transfer keeps
pub dynamic_defined : (r : Registers) → registers_in_range r ≡ true → only_bits rf_mngt_bits r.dynamic.bits ≡ true
unfolding defined_only place_bits register_bytes
dynamic_defined r h = defined_at register_count (register_bytes r) (fits r h).defined dynamic_place (omega arith)
