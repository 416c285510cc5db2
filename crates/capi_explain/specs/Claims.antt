-- What is proved of the exported function, beside its contract.
use Rattle.std.specs.Prelude.{◌≡◌, List, ℕ, ◌≤◌, ◌<◌}
use Rattle.tag.specs.declared.Tag.{Tag}
use Rattle.state.specs.Layout.{bytes_of}
use Rattle.state.specs.Claims.{Fits}
use Rattle.refusals.specs.Call.{Call}
use Rattle.capi.specs.Interface.{step_call}
use Rattle.capi_explain.specs.Explain.{explain_of, explain_call}

-- an explanation is refused exactly where the step is, by the same number
abbrev pub ExplainRefusesAlike : Type 0
ExplainRefusesAlike = (s m : List ℕ) (call : Call) → let n = (step_call s m call).number in
    (n < 0x100 → explain_call s m call ≡ n) × (0x100 ≤ n → 0x100 ≤ explain_call s m call)

-- and over a tag's bytes it is that tag's
abbrev pub ExplainsTheTag : Type 0
ExplainsTheTag = (t : Tag) (m : List ℕ) (call : Call) → Fits t → explain_call (bytes_of t) m call ≡ explain_of t m call
