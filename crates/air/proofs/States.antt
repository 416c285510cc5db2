-- Which radio state it is, by the derived `==`. Assumes nothing.
use Rattle.std.specs.Prelude.{◌≡◌}
use mathlib.Core.Path.{refl}
use denote.Enum.Bare.{sameb}
use Rattle.air.specs.contracts.RadioState.{the_type}
use Rattle.air.specs.declared.RadioState.{RadioState}
use Rattle.air.specs.declared.RadioState.TheVariants.{Ready, Quiet, Selected}
use Rattle.air.specs.Radio.{is_quiet, is_selected}

pub eq_quiet : (x : RadioState) → sameb the_type x Quiet ≡ is_quiet x
unfolding is_quiet
eq_quiet Ready = refl
eq_quiet Quiet = refl
eq_quiet Selected = refl

pub eq_selected : (x : RadioState) → sameb the_type x Selected ≡ is_selected x
unfolding is_selected
eq_selected Ready = refl
eq_selected Quiet = refl
eq_selected Selected = refl
