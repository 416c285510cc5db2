use mathlib.Core.Path.{ap, ◌∙◌}
use mathlib.Core.List.{[]}
use Rattle.rack_hear.specs.Hear.{hear_all_of}
use Rattle.collision_search.specs.Slot.{hears_call}
use Rattle.collision_search.proofs.Slots.{first_slot, later_slot}
use Rattle.collision_search.proofs.open_slot.Goals as goal

pub returns-then-slot-eq0 : goal.returns-then-slot-eq0
returns-then-slot-eq0 c =
    let a = c.args in
    c.hear_sixteen.ensures
    ∙ ap (hear_all_of 16 a.tags a.memory.now a.out.now a.frame.now) c.hear_start-heard.ensures
    ∙ ap (hears_call a.tags a.number a.memory.now) (first_slot a.slot a.out.now a.frame.now c.if-slot-eq0.true)

pub returns : goal.returns
returns c =
    let a = c.args in
    c.hear_sixteen-2.ensures
    ∙ ap (hear_all_of 16 a.tags a.memory.now a.out.now []) c.hear_start-heard-2.ensures
    ∙ ap (hears_call a.tags a.number a.memory.now) (later_slot a.slot a.out.now a.frame.now c.if-slot-eq0.false)
