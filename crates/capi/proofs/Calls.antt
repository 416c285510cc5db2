-- What the exported functions leave, from what their parts leave. Assumes nothing.
use mathlib.Core.Path.{◌≡◌, refl, sym, ◌∙◌}
use mathlib.Core.Bool.{true}
use mathlib.Core.List.{List}
use Prim.Native.Nat.{ℕ}
use Rattle.std.specs.Prelude.{Ok}
use Rattle.parts.specs.Pick.{pick}
use Rattle.parts.proofs.Picks.{pick_true}
use Rattle.keys.specs.Keys.{uid_at}
use Rattle.state.specs.Layout.{tag_of}
use Rattle.refusals.specs.Call.{Call}
use Rattle.refusals.specs.Refusals.{judgement, unless_refused}
use Rattle.model.specs.declared.Answer.{Answer}
use Rattle.replies_fit.specs.Claims.{reply_fits}
use Rattle.model.specs.Step.{StepResult, FreshResult, step_of, fresh_of}
use Rattle.capi.specs.Interface.{answer_number, call_result, step_call, fresh_call_result, fresh_call}
use Rattle.next_state.specs.After.{kept_state}
use Rattle.next_state.proofs.Whole.{kept_whole}
use Rattle.library_refusals.specs.Rules.{step_rules, fresh_call_rules}
use Rattle.capi.proofs.Unrefused.{whole, fresh_whole}

-- the number of an answer whose reply fits
pub number_fits : (answer : Answer) (n : ℕ) → reply_fits answer ≡ true → n ≡ pick (reply_fits answer) (answer_number answer) 0 → n ≡ answer_number answer
number_fits answer n h e = e ∙ sym (pick_true _ _ _ _ h refl)

pub stepped : (s m : List ℕ) (c : Call) (e : StepResult) (n : ℕ) (s' : List ℕ)
    → judgement (step_rules s m c) ≡ Ok tt
    → e ≡ step_of (tag_of s) m c → n ≡ answer_number e.answer → s' ≡ kept_state s e.answer e.tag
    → call_result n s' e.memory e.reply ≡ step_call s m c
unfolding step_call unless_refused
stepped s m c e n s' none h p q = rw (p, q ∙ kept_whole s e.answer e.tag (whole s m c none), none, h)

pub freshened : (u m s : List ℕ) (e : FreshResult) (n : ℕ) (s' : List ℕ)
    → judgement (fresh_call_rules u m s) ≡ Ok tt
    → e ≡ fresh_of (uid_at u 0) m → n ≡ answer_number e.answer → s' ≡ kept_state s e.answer e.tag
    → fresh_call_result n s' e.memory ≡ fresh_call u m s
unfolding fresh_call unless_refused
freshened u m s e n s' none h p q = rw (p, q ∙ kept_whole s e.answer e.tag (fresh_whole u m s none), none, h)
