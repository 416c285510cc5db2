-- The silence list in its order. Assumes nothing.
use mathlib.Core.Path.{refl}
use Rattle.rule_list.specs.RuleList.{first_says}
use Rattle.silence_rules.specs.Silence.{silence_holds, silence_number, reception_silences, address_silences, request_silences, first_silence}
use Rattle.silence_rules.specs.Claims.{SilencesInOrder}

pub silences_in_order : SilencesInOrder
unfolding first_silence request_silences reception_silences address_silences first_says silence_holds silence_number
silences_in_order f a u dynamic = refl
