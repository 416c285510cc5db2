-- What a call leaves can be handed to the next one.
use Rattle.std.specs.Prelude.{◌≡◌, true, List, ℕ}
use Rattle.parts.specs.Bytes.{are_bytes}
use Rattle.tag.specs.declared.Tag.{Tag}
use Rattle.state.specs.Claims.{Fits}
use Rattle.refusals.specs.Call.{Call}
use Rattle.model.specs.Step.{step_of}

-- every call keeps it that each number of the tag fits its type and the memory's bytes are bytes
abbrev pub KeepsFits : Type 0
KeepsFits = (t : Tag) (m : List ℕ) (call : Call) → Fits t → are_bytes m ≡ true → are_bytes call.frame ≡ true
    → (Fits (step_of t m call).tag) × (are_bytes (step_of t m call).memory ≡ true)
