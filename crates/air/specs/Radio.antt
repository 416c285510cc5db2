-- "The radio state is Ready, Quiet or Selected", and the field.
use Rattle.std.specs.Prelude.{Bool, true, false}
use Rattle.parts.specs.Pick.{pick}
use Rattle.air.specs.declared.RadioState.{RadioState}
use Rattle.air.specs.declared.RadioState.TheVariants.{Ready, Quiet, Selected}
use Rattle.air.specs.declared.Air.{Air}
use Rattle.air.specs.Parts.{out_of_field, with_field, with_state, with_slots}

unfoldable pub is_quiet : RadioState → Bool
is_quiet Ready = false
is_quiet Quiet = true
is_quiet Selected = false

unfoldable pub is_selected : RadioState → Bool
is_selected Ready = false
is_selected Quiet = false
is_selected Selected = true

-- "own UID Selected"
abbrev pub selected : Air → Air
selected a = with_state Selected a

-- "another UID: Selected becomes Ready"
unfoldable pub deselected : Air → Air
deselected a = pick (is_selected a.radio) (with_state Ready a) a

-- "Stay Quiet: Quiet"; the count of ends-of-frame is "0 when Quiet"
abbrev pub quieted : Air → Air
quieted a = with_state Quiet (with_slots 0 a)

-- "Reset gives Ready"
abbrev pub reset : Air → Air
reset a = with_state Ready a

-- "Field off makes the tag Ready and closes the radio session."; the count is "0 when .. out of the field"
abbrev pub field_off : Air → Air
field_off a = out_of_field

abbrev pub field_on : Air → Air
field_on a = with_field true a

-- the field at a level; "a repeated .. field level .. change[s] nothing (house)"
unfoldable pub field_at : Bool → Air → Air
field_at on a = pick on (pick a.field a (field_on a)) (pick a.field (field_off a) a)
