-- What a field change touches, out of the field; and one part of it replaced, the rest as it was. These alone write its record out, so that a field more is one entry in each.
use Rattle.std.specs.Prelude.{Bool, false, ℕ}
use Rattle.air.specs.declared.RadioState.{RadioState}
use Rattle.air.specs.declared.RadioState.TheVariants.{Ready}
use Rattle.air.specs.declared.Air.{Air}

-- Ready, no radio session, no slot awaited
abbrev pub out_of_field : Air
out_of_field = record { field = false; radio = Ready; session = 0; slots = 0 }

abbrev pub with_field : Bool → Air → Air
with_field on a = record { field = on; radio = a.radio; session = a.session; slots = a.slots }

abbrev pub with_state : RadioState → Air → Air
with_state x a = record { field = a.field; radio = x; session = a.session; slots = a.slots }

-- the open radio session: 0 none, 1 to 4 for passwords 0 to 3
abbrev pub with_radio_session : ℕ → Air → Air
with_radio_session n a = record { field = a.field; radio = a.radio; session = n; slots = a.slots }

-- how many ends-of-frame are left to the tag's slot
abbrev pub with_slots : ℕ → Air → Air
with_slots n a = record { field = a.field; radio = a.radio; session = a.session; slots = n }
