use mathlib.Core.Path.{refl, sym, ap, ◌∙◌}
use Rattle.parts.proofs.Picks.{pick_true, pick_false}
use Rattle.std.specs.Prelude.{Some}
use Rattle.example_states.specs.States.{patch_by}
use Rattle.example_states.proofs.States.{encoded, patched_by}
use Rattle.example_states.proofs.patch.Goals as goal

pub returns-then-not-store : goal.returns-then-not-store
unfolding patch_by
returns-then-not-store c =
    let t = c.args.t in
    let e = c.encode in
    pick_false _ _ _ _ (c.if-not-store.true) refl
    ∙ patched_by t _ _ _ (encoded t _ _ refl e.ensures.t_len e.ensures.s_after) c.store.ensures

pub returns-then-not-decodes : goal.returns-then-not-decodes
unfolding patch_by
returns-then-not-decodes c =
    let t = c.args.t in
    let e = c.encode in
    pick_true _ _ _ _ (c.if-not-store.false) (pick_false _ _ _ _ (sym c.decodes.ensures ∙ c.if-not-decodes.true) refl)
    ∙ patched_by t _ _ _ (encoded t _ _ refl e.ensures.t_len e.ensures.s_after) c.store.ensures

pub returns : goal.returns
unfolding patch_by
returns c =
    let t = c.args.t in
    let e = c.encode in
    pick_true _ _ _ _ (c.if-not-store.false)
    (pick_true _ _ _ _ (sym c.decodes.ensures ∙ c.if-not-decodes.false) (ap Some c.decode.ensures))
    ∙ patched_by t _ _ _ (encoded t _ _ refl e.ensures.t_len e.ensures.s_after) c.store.ensures
