-- What a list of calls is, in terms of its calls.
use Rattle.std.specs.Prelude.{◌≡◌, List, [], ◌∷◌, ◌++◌}
use Rattle.model.specs.Step.{step_result, step_of}
use Rattle.model.specs.Passed.{Call}
use Rattle.calls.specs.Calls.{Device, Step, entry, run_result, run_by}

-- the entry point's result has all that its contract gives: the answer, the tag and both lent buffers
abbrev pub EntryTells : Type 0
EntryTells = (d : Device) (call : Call) → let result = entry d call in
    step_result result.says.answer result.device.tag result.device.memory result.says.buffer ≡ step_of d.tag d.memory call

-- each call gets the tag and memory that the last one left
abbrev pub RunsOn : Type 0
RunsOn = (step : Step) (d : Device) (calls : List Call) (call : Call) → let rest = run_by step d calls in let result = step rest.device call in
    run_by step d (calls ++ call ∷ []) ≡ run_result (rest.answers ++ result.says ∷ []) result.device
