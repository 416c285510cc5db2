-- The order of the rules. Assumes nothing.
use mathlib.Core.Path.{refl}
use Rattle.refusals.specs.Refusals.{number}
use Rattle.rack.specs.Claims.{refusal_numbers}
use Rattle.library_rack_refusals.specs.Claims.{RackStepRefusalsInOrder, RackSearchRefusalsInOrder}

pub rack_step_refusals_in_order : RackStepRefusalsInOrder
unfolding refusal_numbers number
rack_step_refusals_in_order n s m c = refl

pub rack_search_refusals_in_order : RackSearchRefusalsInOrder
unfolding refusal_numbers number
rack_search_refusals_in_order n s m o = refl
