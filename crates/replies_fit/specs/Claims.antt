-- What is proved of every answer's reply.
use Rattle.std.specs.Prelude.{◌≡◌, Bool, true, List, ℕ, leb}
use Rattle.tag.specs.declared.Tag.{Tag}
use Rattle.tag.specs.Layout.{reply_bytes}
use Rattle.refusals.specs.Call.{Call}
use Rattle.model.specs.declared.Answer.{Answer}
use Rattle.model.specs.declared.Answer.TheVariants.{Refused, Nothing, Ack, NoAck, Byte, Silence, Reply}
use Rattle.model.specs.Step.{step_of}

-- a reply has at most 643 bytes
unfoldable pub reply_fits : Answer → Bool
reply_fits (Refused why) = true
reply_fits Nothing = true
reply_fits Ack = true
reply_fits NoAck = true
reply_fits (Byte x) = true
reply_fits Silence = true
reply_fits (Reply n) = leb n reply_bytes

-- every answer's reply fits the 643 bytes
abbrev pub StepRepliesFit : Type 0
StepRepliesFit = (t : Tag) (m : List ℕ) (call : Call) → reply_fits (step_of t m call).answer ≡ true
