-- While shut out a frame's verdict is silence or 0Fh, from the frame, the air side, the UID and RF_MNGT_Dyn. Assumes nothing.
use mathlib.Core.Path.{◌≡◌, refl}
use mathlib.Core.Logic.{◌⊎◌, inl, inr}
use Rattle.parts.specs.Pick.{pick}
use Rattle.parts.proofs.Picks.{pick_case}
use Rattle.errors.specs.declared.RadioError.TheVariants.{ShutOut}
use Rattle.judge.specs.declared.Verdict.{Verdict}
use Rattle.judge.specs.declared.Verdict.TheVariants.{Silence, Error}
use Rattle.judge.specs.Claims.{ShutOutDecides, ShutOutAnswers}
use Rattle.judge.specs.Judge.{is_mute, error_of, shut_out, error_holds, rule_error, error_rules, judge}
use Rattle.rule_list.specs.RuleList.{first_says}
use Rattle.silence_rules.specs.Silence.{is_silent}

pub shut_out_decides : ShutOutDecides
unfolding judge shut_out pick first_says error_holds rule_error error_rules
shut_out_decides s a u d busy h = rw h

quiet_or : Verdict → Type 0
quiet_or v = (v ≡ Silence) ⊎ (v ≡ Error ShutOut)

pub shut_out_answers : ShutOutAnswers
unfolding shut_out error_of quiet_or
shut_out_answers s a u d =
    pick_case quiet_or (is_silent s a u d) Silence _ (λ h. inl refl)
    (λ h. pick_case quiet_or (is_mute s u) Silence (Error ShutOut) (λ k. inl refl) (λ k. inr refl))
