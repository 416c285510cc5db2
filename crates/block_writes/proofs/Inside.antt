-- Blocks that do not leave the memory. Assumes nothing.
use mathlib.Core.Path.{◌≡◌, sym, ap, ◌∙◌}
use mathlib.Core.Bool.{Bool, true, false, not, ◌&&◌, ◌||◌}
use Prim.Native.Nat.{ℕ, ◌+◌, ◌<◌}
use native.Mathlib.Omega.{arith}
use lib.Dec.{leb, eqb}
use borrow.Author.Tests.{leb-false, lt-leb, lt-ltb, eq-eqb}
use Rattle.std.specs.Prelude.{is_ok}
use Rattle.registers.specs.declared.Ends.{Ends}
use Rattle.registers.specs.declared.Registers.{Registers}
use Rattle.areas.specs.Ends.{area_of_block}
use Rattle.rights.specs.declared.Side.TheVariants.{Radio}
use Rattle.rights.specs.Rights.{may_write}
use Rattle.tag.specs.declared.Core.{Core}
use Rattle.write_verdict.specs.Passed.{block_situation, write_verdict}
use Rattle.write_verdict.proofs.Passed.{block_allowed}
use Rattle.blocks.specs.Blocks.{leaves_area}
use Rattle.block_writes.specs.Writes.{may_write_all}

neither : (a b : Bool) → (a || b) ≡ false → a ≡ false
neither true b h = h
neither false b h = ap (λ (c : Bool). false) h

pub inside : (e : Ends) (first last : ℕ) → leaves_area e first last ≡ false → last < 128
unfolding leaves_area
inside e first last h = leb-false 128 last (neither (leb 128 last) (not (eqb (area_of_block e first) (area_of_block e last))) h)

-- the verdict on a block of the memory
pub one_block : (c : Core) (session block : ℕ) → block < 128 → is_ok (write_verdict (block_situation c session block)) ≡ may_write c.registers (Radio session) block
one_block c session block l = block_allowed c session block ∙ ap (λ (b : Bool). b && may_write c.registers (Radio session) block) (lt-ltb block 128 l)

-- one block stays in its area
pub stays : (e : Ends) (first last : ℕ) → last ≡ first → last < 128 → leaves_area e first last ≡ false
unfolding leaves_area
stays e first last h l =
    ap (λ (b : Bool). b || not (eqb (area_of_block e first) (area_of_block e last))) (lt-leb 128 last l)
    ∙ ap not (eq-eqb (area_of_block e first) (area_of_block e last) (ap (area_of_block e) (sym h)))

pub write_right_lem : (r : Registers) (session block : ℕ) → may_write_all r session block (0 + 1) ≡ may_write r (Radio session) block
unfolding may_write_all
write_right_lem r session block = ap (λ (n : ℕ). may_write r (Radio session) n) (omega arith)
