-- No rule has the number 0. Assumes nothing.
use mathlib.Core.Path.{◌≡◌, refl}
use mathlib.Core.Bool.{false}
use lib.Dec.{eqb}
use Rattle.silence_rules.specs.Silence.{SilenceRule, no_field, rfSleep, badSize, badCrc, bothFlags, otherMaker, otherUid, notSelected, neitherWhenQuiet, notAddressed, silence_number}

pub numbered : (rule : SilenceRule) → eqb (silence_number rule) 0 ≡ false
unfolding silence_number
numbered no_field = refl
numbered rfSleep = refl
numbered badSize = refl
numbered badCrc = refl
numbered bothFlags = refl
numbered otherMaker = refl
numbered otherUid = refl
numbered notSelected = refl
numbered neitherWhenQuiet = refl
numbered notAddressed = refl
