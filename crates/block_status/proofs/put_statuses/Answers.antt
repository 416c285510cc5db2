use mathlib.Core.Path.{◌≡◌, refl, sym, ap, ◌∙◌}
use Prim.Native.Nat.{ℕ, ◌+◌, ◌-◌}
use native.Mathlib.Omega.{arith}
use mathlib.Core.List.{List}
use lib.ListN.{set}
use lib.Seq.{sets}
use Rattle.parts.proofs.Lists.{sets_snoc}
use Rattle.block_status.specs.Status.{status_of, statuses_of}
use Rattle.block_status.proofs.Statuses.{statuses_more, length_statuses}
use Rattle.block_status.proofs.put_statuses.Goals as goal

pub loop-k-init : goal.loop-k-init
unfolding statuses_of
loop-k-init c = refl

pub loop-k-preserved : goal.loop-k-preserved
loop-k-preserved c =
    let l = c.loop-k in
    let a = c.args in
    let done = statuses_of a.c.registers a.session a.first l.k in
    let next = status_of a.c.registers a.session (a.first + l.k) in
    c.put_in.ensures
    ∙ ap (set l.out (1 + l.k)) c.status_of-status.ensures
    ∙ ap (λ (o : List ℕ). set o (1 + l.k) next) l.invariant
    ∙ ap (λ (n : ℕ). set (sets a.out.now 1 done) (1 + n) next) (sym (length_statuses a.c.registers a.session a.first l.k))
    ∙ sym (sets_snoc done a.out.now 1 next)
    ∙ ap (sets a.out.now 1) (sym (statuses_more a.c.registers a.session a.first l.k))

pub returns : goal.returns
returns c =
    let l = c.loop-k in
    let a = c.args in
    let e : l.k ≡ a.n = omega arith in
    l.invariant ∙ ap (λ (n : ℕ). sets a.out.now 1 (statuses_of a.c.registers a.session a.first n)) e
