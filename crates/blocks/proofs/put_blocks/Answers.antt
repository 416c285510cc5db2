use mathlib.Core.Path.{◌≡◌, refl, sym, ap, subst, ◌∙◌}
use Prim.Native.Nat.{ℕ, ◌+◌, ◌≤◌}
use native.Mathlib.Omega.{arith}
use mathlib.Core.List.{List}
use lib.ListN.{length}
use lib.Seq.{sets}
use Rattle.parts.proofs.Lists.{sets_append}
use Rattle.block_bytes.specs.Block.{block_of}
use Rattle.blocks.specs.Blocks.{blocks_of}
use Rattle.block_bytes.proofs.Block.{block_le}
use Rattle.blocks.proofs.Runs.{blocks_more, blocks_length, blocks_le}
use Rattle.blocks.proofs.put_blocks.Goals as goal

pub loop-k-init : goal.loop-k-init
unfolding blocks_of
loop-k-init c = (refl, refl)

pub overflow_add-at : goal.overflow_add-at
overflow_add-at c =
    let l = c.loop-k in
    let a = c.args in
    let h : c.put_block_at-at.result ≤ 5 = subst (λ (n : ℕ). n ≤ 5) (sym c.put_block_at-at.ensures.value) (block_le _ _ _ _ _) in
    omega (arith, h, l.invariant.0, blocks_le a.c.registers a.session a.m.now a.option a.first l.k)

pub loop-k-preserved : goal.loop-k-preserved
loop-k-preserved c =
    let l = c.loop-k in
    let a = c.args in
    let done = blocks_of a.c.registers a.session a.m.now a.option a.first l.k in
    let next = block_of a.c.registers a.session a.m.now a.option (a.first + l.k) in (
      omega (
        arith,
        l.invariant.0,
        c.put_block_at-at.ensures.value,
        blocks_length a.c.registers a.session a.m.now a.option a.first l.k,
      ),
      c.put_block_at-at.ensures.out_after
          ∙ ap (λ (o : List ℕ). sets o l.at next) l.invariant.1
          ∙ ap (λ (n : ℕ). sets (sets a.out.now 1 done) n next) l.invariant.0
          ∙ sym (sets_append done next a.out.now 1)
          ∙ ap (sets a.out.now 1) (sym (blocks_more a.c.registers a.session a.m.now a.option a.first l.k)),
    )

pub returns : goal.returns
returns c =
    let l = c.loop-k in
    let a = c.args in
    let e : l.k ≡ a.n = omega arith in
    record { value = l.invariant.0 ∙ ap (λ (n : ℕ). 1 + length (blocks_of a.c.registers a.session a.m.now a.option a.first n)) e; out_after = l.invariant.1 ∙ ap (λ (n : ℕ). sets a.out.now 1 (blocks_of a.c.registers a.session a.m.now a.option a.first n)) e }
