-- What is proved of the exported functions, beside their contracts.
use Rattle.std.specs.Prelude.{◌≡◌, List, ℕ, ◌<◌}
use Rattle.tag.specs.declared.Tag.{Tag}
use Rattle.state.specs.Layout.{bytes_of}
use Rattle.state.specs.Claims.{Fits}
use Rattle.refusals.specs.Call.{Call}
use Rattle.model.specs.Step.{step_of}
use Rattle.capi.specs.Interface.{answer_number, call_result, step_call, fresh_call_result, fresh_call}
use Rattle.next_state.specs.After.{state_after}

-- a number below 0x100 is a refusal: every byte of every lent buffer is as before
abbrev pub RefusedStepKeeps : Type 0
RefusedStepKeeps = (s m : List ℕ) (call : Call) → let result = step_call s m call in
    result.number < 0x100 → result ≡ call_result result.number s m call.buffer

abbrev pub RefusedFreshKeeps : Type 0
RefusedFreshKeeps = (uid m s : List ℕ) → let result = fresh_call uid m s in
    result.number < 0x100 → result ≡ fresh_call_result result.number s m

-- a call over a tag's bytes is the model's call of that tag
abbrev pub StepsTheTag : Type 0
StepsTheTag = (t : Tag) (m : List ℕ) (call : Call) → Fits t → step_call (bytes_of t) m call
    ≡ (let result = step_of t m call in call_result (answer_number result.answer) (state_after (bytes_of t) result.answer result.tag) result.memory result.reply)
