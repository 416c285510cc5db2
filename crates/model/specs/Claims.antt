-- What is proved of the entry points, beside their contracts.
use Rattle.std.specs.Prelude.{◌≡◌, true, List, ℕ, length, replicate}
use Rattle.parts.specs.Bytes.{are_bytes}
use Rattle.keys.specs.declared.Uid.{Uid}
use Rattle.tag.specs.declared.Tag.{Tag}
use Rattle.tag.specs.Layout.{memory_bytes}
use Rattle.tag.specs.Supply.{fresh_tag}
use Rattle.refusals.specs.Call.{Call}
use Rattle.refusals.specs.Refusals.{tag_in_range}
use Rattle.model.specs.Step.{step_of}

-- the tag is in range, with 1,024 bytes
pub record Fit (t : Tag) (m : List ℕ) : Type 0 where
  pub range : tag_in_range t m ≡ true
  pub size : length m ≡ memory_bytes

-- every call keeps that
abbrev pub StepKeepsFit : Type 0
StepKeepsFit = (t : Tag) (m : List ℕ) (call : Call) → are_bytes call.frame ≡ true → Fit t m
    → Fit (step_of t m call).tag (step_of t m call).memory

-- the fresh tag has it
abbrev pub FreshFits : Type 0
FreshFits = (u : Uid) → Fit (fresh_tag u) (replicate memory_bytes 0)
