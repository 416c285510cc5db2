-- A refusal leaves every lent byte. Assumes nothing.
use mathlib.Core.Path.{◌≡◌, refl, sym, ◌∙◌}
use mathlib.Core.Bool.{true, false≢true}
use mathlib.Core.List.{List}
use Prim.Native.Nat.{ℕ, ◌<◌}
use native.Mathlib.Omega.{arith}
use Rattle.parts.specs.Pick.{pick}
use Rattle.tag.specs.declared.Tag.{Tag}
use Rattle.keys.specs.declared.Uid.{Uid}
use Rattle.keys.specs.Keys.{uid_at}
use Rattle.state.specs.Layout.{tag_of}
use Rattle.refusals.proofs.Laws.{judged_case}
use Rattle.model.proofs.Acts.{signal_of_call}
use Rattle.model.proofs.Served.{act_served}
use Rattle.model.specs.declared.Answer.{Answer}
use Rattle.model.specs.declared.Answer.TheVariants.{Refused, Nothing, Ack, NoAck, Byte, Silence, Reply}
use Rattle.refusals.specs.Call.{Call}
use Rattle.model.specs.Step.{StepResult, FreshResult, step_of, fresh_of, is_refused}
use Rattle.capi.specs.Interface.{answer_number, CallResult, call_result, step_call, FreshCallResult, fresh_call_result, fresh_call}
use Rattle.next_state.specs.After.{state_after}
use Rattle.capi.specs.Claims.{RefusedStepKeeps, RefusedFreshKeeps}

-- a number below 0x100 is a refusal's
pub number_refused : (a : Answer) → answer_number a < 0x100 → is_refused a ≡ true
unfolding answer_number is_refused
number_refused (Refused r) h = refl
number_refused Nothing h = absurd (omega arith)
number_refused Ack h = absurd (omega arith)
number_refused NoAck h = absurd (omega arith)
number_refused (Byte x) h = absurd (omega arith)
number_refused Silence h = absurd (omega arith)
number_refused (Reply n) h = absurd (omega arith)

-- ---- one call
abbrev Keeps : List ℕ → List ℕ → StepResult → Type 0
Keeps m o e = is_refused e.answer ≡ true → (e.memory ≡ m) × (e.reply ≡ o)

step_keeps : (t : Tag) (m : List ℕ) (c : Call) → Keeps m c.buffer (step_of t m c)
unfolding step_of
step_keeps t m c =
    judged_case (Keeps m c.buffer) _ _ _ (λ _ _ _. (refl, refl)) (λ _ r. absurd (false≢true (sym (act_served (signal_of_call c) t m c.buffer c.frame) ∙ r)))

abbrev Still : List ℕ → List ℕ → List ℕ → CallResult → Type 0
Still s m o c = c.number < 0x100 → c ≡ call_result c.number s m o

stepped : (s m o : List ℕ) (e : StepResult) → Keeps m o e
    → Still s m o (call_result (answer_number e.answer) (state_after s e.answer e.tag) e.memory e.reply)
unfolding state_after pick
stepped s m o e k h =
    let r = number_refused e.answer h in
    rw (r, (k r).0, (k r).1)

pub refused_step_keeps : RefusedStepKeeps
unfolding step_call
refused_step_keeps s m c =
    judged_case (Still s m c.buffer) _ _ _ (λ _ _ _. refl) (λ _. stepped s m c.buffer (step_of (tag_of s) m c) (step_keeps (tag_of s) m c))

-- ---- the fresh tag
abbrev KeepsMemory : List ℕ → FreshResult → Type 0
KeepsMemory m e = is_refused e.answer ≡ true → e.memory ≡ m

fresh_keeps : (u : Uid) (m : List ℕ) → KeepsMemory m (fresh_of u m)
unfolding fresh_of is_refused
fresh_keeps u m = judged_case (KeepsMemory m) _ _ _ (λ _ _ _. refl) (λ _ r. absurd (false≢true r))

abbrev StillMade : List ℕ → List ℕ → FreshCallResult → Type 0
StillMade s m c = c.number < 0x100 → c ≡ fresh_call_result c.number s m

freshly : (s m : List ℕ) (e : FreshResult) → KeepsMemory m e
    → StillMade s m (fresh_call_result (answer_number e.answer) (state_after s e.answer e.tag) e.memory)
unfolding state_after pick
freshly s m e k h =
    let r = number_refused e.answer h in
    rw (r, k r)

pub refused_fresh_keeps : RefusedFreshKeeps
unfolding fresh_call
refused_fresh_keeps u m s =
    judged_case (StillMade s m) _ _ _ (λ _ _ _. refl) (λ _. freshly s m (fresh_of (uid_at u 0) m) (fresh_keeps (uid_at u 0) m))
