-- Lists of calls, each of which gets the state and memory that the last one left.
use Rattle.std.specs.Prelude.{Bool, true, ◌&&◌, List, [], ◌∷◌, ℕ}
use Rattle.parts.specs.Bytes.{are_bytes}
use Rattle.tag.specs.declared.Tag.{Tag}
use Rattle.reply.specs.Reply.{ReplyBody, answer_of, buffer_of}
use Rattle.model.specs.Passed.{Call}
use Rattle.model.specs.declared.Answer.{Answer}
use Rattle.model.specs.Step.{StepResult, from_radio, step_of}

-- the answer to a call: the refusal number or 01's answer, with the whole reply buffer as the call leaves it
pub record CallAnswer : Type 0 where
  pub answer : Answer
  pub buffer : List ℕ

abbrev pub call_answer : Answer → List ℕ → CallAnswer
call_answer answer o = record { answer = answer; buffer = o }

-- to a frame: a reply stands in the buffer that was handed in
abbrev pub call_reply : ReplyBody → List ℕ → CallAnswer
call_reply reply o = call_answer (from_radio (answer_of reply)) (buffer_of reply o)

-- a tag and its memory
pub record Device : Type 0 where
  pub tag : Tag
  pub memory : List ℕ

abbrev pub device : Tag → List ℕ → Device
device t m = record { tag = t; memory = m }

-- what a call leaves
pub record DeviceResult : Type 0 where
  pub says : CallAnswer
  pub device : Device

abbrev pub device_result : CallAnswer → Device → DeviceResult
device_result answer d = record { says = answer; device = d }

abbrev pub Step : Type 0
Step = Device → Call → DeviceResult

-- the entry point, as the contract of its code has it
abbrev pub device_result_of : StepResult → DeviceResult
device_result_of result = device_result (call_answer result.answer result.reply) (device result.tag result.memory)

unfoldable pub entry : Device → Call → DeviceResult
entry d call = device_result_of (step_of d.tag d.memory call)

-- each number fits its type: a frame's bytes are bytes; no other number needs it
unfoldable pub frames_fit : List Call → Bool
frames_fit [] = true
frames_fit (call ∷ calls) = are_bytes call.frame && frames_fit calls

-- the answers to a list of calls, in their order, and what is left at its end
pub record RunResult : Type 0 where
  pub answers : List CallAnswer
  pub device : Device

abbrev pub run_result : List CallAnswer → Device → RunResult
run_result answers d = record { answers = answers; device = d }

unfoldable pub run_by : Step → Device → List Call → RunResult
run_by step d [] = run_result [] d
run_by step d (call ∷ calls) =
    let result = step d call in
    let rest = run_by step result.device calls in
    run_result (result.says ∷ rest.answers) rest.device
