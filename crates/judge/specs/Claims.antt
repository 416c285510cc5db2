-- What is proved of the judge, beside the functions' contracts.
use Rattle.std.specs.Prelude.{◌≡◌, Bool, true, ◌||◌, List, ◌⊎◌, ℕ}
use Rattle.parts.specs.Bits.{is_set}
use Rattle.register_types.specs.declared.RfMngt.{RfMngt}
use Rattle.air.specs.declared.Air.{Air}
use Rattle.keys.specs.declared.Uid.{Uid}
use Rattle.errors.specs.declared.RadioError.TheVariants.{ShutOut}
use Rattle.judge.specs.declared.Verdict.TheVariants.{Silence, Error}
use Rattle.judge.specs.Judge.{shut_out, judge}

-- with RF_MNGT_Dyn b0, a transfer open or programming, the verdict is the one of `shut_out`
abbrev pub ShutOutDecides : Type 0
ShutOutDecides = (f : List ℕ) (a : Air) (u : Uid) (dynamic : RfMngt) (busy : Bool) → (is_set 1 dynamic.bits || busy) ≡ true → judge f a u dynamic busy ≡ shut_out f a u dynamic

-- and that is silence or error 0Fh
abbrev pub ShutOutAnswers : Type 0
ShutOutAnswers = (f : List ℕ) (a : Air) (u : Uid) (dynamic : RfMngt) → (shut_out f a u dynamic ≡ Silence) ⊎ (shut_out f a u dynamic ≡ Error ShutOut)
