-- While shut out a frame changes nothing, and its answer is silence or 0Fh. Assumes nothing.
use mathlib.Core.Path.{◌≡◌, sym, ap, ◌∙◌}
use mathlib.Core.Logic.{◌⊎◌, inl, inr, ⊎_elim}
use Rattle.parts.proofs.Picks.{pick_case}
use Rattle.errors.specs.declared.RadioError.TheVariants.{ShutOut}
use Rattle.reply.specs.Reply.{nothing, fault}
use Rattle.reply.specs.Outcome.{CommandResult, command_result}
use Rattle.frame.specs.Fields.{inventory_flag}
use Rattle.inventory_reply.proofs.Laws.{inventory_shut, end_shut}
use Rattle.judge.specs.declared.Verdict.{Verdict}
use Rattle.judge.proofs.ShutOut.{shut_out_decides, shut_out_answers}
use Rattle.radio.specs.Claims.{ShutOutChangesNothing, EndOfFrameShutOut}
use Rattle.radio.specs.Radio.{dynamic_now, busy_now, verdict_result, radio_of, next_slot_of}

pub shut_out_lem : ShutOutChangesNothing
unfolding radio_of verdict_result
shut_out_lem t u vcc transfer programming m s h =
    let d = dynamic_now t transfer in
    let busy = busy_now transfer programming in
    let e = shut_out_decides s t.air u d busy h in
    pick_case (λ (r : CommandResult). (r ≡ command_result nothing t m) ⊎ (r ≡ command_result (fault ShutOut) t m)) (inventory_flag s) _ _
    (λ k. inl (sym (inventory_shut t u d busy m s h)))
    (λ k.
    ⊎_elim (λ p. inl (ap (λ (v : Verdict). verdict_result v t u vcc m s) (e ∙ p))) (λ p. inr (ap (λ (v : Verdict). verdict_result v t u vcc m s) (e ∙ p)))
    (shut_out_answers s t.air u d))

pub end_of_frame_shut : EndOfFrameShutOut
unfolding next_slot_of
end_of_frame_shut t u transfer programming m h = sym (end_shut t u (dynamic_now t transfer) (busy_now transfer programming) m h)
