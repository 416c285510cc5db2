-- Racks that are right but for one thing each.
use Rattle.std.specs.Prelude.{Bool, not, ◌&&◌, ◌||◌, List, [], ◌∷◌, ◌++◌, ℕ, suc, ◌+◌, eqb, take, drop}
use Rattle.parts.specs.Pick.{pick}
use Rattle.refusals.specs.declared.Refusal.{Refusal}
use Rattle.refusals.specs.declared.Refusal.TheVariants.{ReplyShort}
use Rattle.refusals.specs.Call.{Call}
use Rattle.refusals.specs.Refusals.{judgement, unless_refused}
use Rattle.air.specs.declared.RadioState.TheVariants.{Ready, Quiet}
use Rattle.air.specs.Radio.{is_quiet}
use Rattle.frame.specs.Fields.{inventory_flag}
use Rattle.model.specs.declared.Answer.{Answer}
use Rattle.model.specs.declared.Answer.TheVariants.{Refused, Nothing, Ack, NoAck, Byte, Silence, Reply}
use Rattle.model.specs.Step.{is_reply}
use Rattle.calls.specs.Calls.{CallAnswer, call_answer, Device, DeviceResult, device_result, entry}
use Rattle.calls.specs.Examples.{◌but◌, radio_state}
use Rattle.rack.specs.Rack.{Rack, rack_of, RackCall, no_tag, devices, racked, goes_to}
use Rattle.rack.specs.Rules.{rack_rules}
use Rattle.rack.specs.Step.{unreached, turns_of, left_by, said_by, RackAnswer, rack_answer, no_reply, rack_refused, RackResult, rack_result, RackStep, gathered, rack_step, rack_entry}
use Rattle.wrong_racks.specs.Told.{by_tags, by_number, by_size, by_answers, WrongRack, rack_told_by, AllRacksTold}

-- ---- another test says whom a call reaches
unfoldable pub turns_where : (RackCall → ℕ → Bool) → RackCall → ℕ → List Device → List DeviceResult
turns_where reaches call i [] = []
turns_where reaches call i (d ∷ rest) =
    pick (reaches call i) (entry d call.handed) (unreached call.handed d) ∷ turns_where reaches call (suc i) rest

unfoldable pub reaching : (RackCall → ℕ → Bool) → Rack → RackCall → RackResult
reaching reaches rack call =
    unless_refused (judgement (rack_rules rack call)) (λ (refusal : Refusal). rack_result (rack_refused refusal call.handed) rack)
    (gathered call (turns_where reaches call 0 (devices rack)))

-- "a frame that reaches only the first tag"
abbrev pub frame_to_first : RackStep
frame_to_first = reaching (λ (call : RackCall) (i : ℕ). goes_to call i && (not (eqb call.handed.code 8) || eqb i 0))

-- an end-of-frame that does
abbrev pub end_to_first : RackStep
end_to_first = reaching (λ (call : RackCall) (i : ℕ). goes_to call i && (not (eqb call.handed.code 9) || eqb i 0))

-- "a field change that misses a tag": the second
abbrev pub field_misses : RackStep
field_misses = reaching (λ (call : RackCall) (i : ℕ). goes_to call i && not (eqb call.handed.code 2 && eqb i 1))

-- "one tag's wire signal that moves another": the next one
abbrev pub moves_next : RackStep
moves_next = reaching (λ (call : RackCall) (i : ℕ). goes_to call i || eqb i (call.to + 1))

-- "a refused call that steps some tags": the first, handed a call that it may serve
unfoldable pub refused_steps : Rack → RackCall → RackResult
refused_steps rack call =
    unless_refused (judgement (rack_rules rack call))
    (λ (refusal : Refusal). rack_result (rack_refused refusal call.handed) (racked (left_by (turns_where (λ (call : RackCall) (i : ℕ). eqb i 0) call 0 (devices rack)))))
    (rack_entry rack call)

-- ---- another step of each tag: "an inventory frame that sets the count of a Quiet tag", which is silent
unfoldable pub counts_when_quiet : Device → Call → DeviceResult
counts_when_quiet d call =
    let result = entry (d but radio_state Ready) call in
    pick (is_quiet d.tag.air.radio && eqb call.code 8 && inventory_flag call.frame)
    (device_result (call_answer Silence call.buffer) (result.device but radio_state Quiet))
    (entry d call)

abbrev pub quiet_counts : RackStep
quiet_counts = rack_step counts_when_quiet

-- ---- another answer is made of the tags' answers to a frame
unfoldable pub replying : (RackCall → List CallAnswer → CallAnswer) → Rack → RackCall → RackResult
replying says rack call =
    let result = rack_entry rack call in
    unless_refused (judgement (rack_rules rack call)) (λ (refusal : Refusal). result)
    (rack_result (rack_answer (pick (eqb call.handed.code 8) (says call (said_by (turns_of entry call 0 (devices rack)))) result.says.says) result.says.report) result.rack)

-- "the highest-numbered reply"
unfoldable pub highest_reply : CallAnswer → List CallAnswer → CallAnswer
highest_reply other [] = other
highest_reply other (answer ∷ answers) = highest_reply (pick (is_reply answer.answer) answer other) answers

abbrev pub highest_answers : RackStep
highest_answers = replying (λ (call : RackCall) (answers : List CallAnswer). highest_reply (no_reply call.handed) answers)

-- "a higher-numbered tag's longer reply seen past the first one's error": the first reply's bytes, and past them another's
unfoldable pub reply_length : Answer → ℕ
reply_length (Refused why) = 0
reply_length Nothing = 0
reply_length Ack = 0
reply_length NoAck = 0
reply_length (Byte x) = 0
reply_length Silence = 0
reply_length (Reply n) = n

unfoldable pub overlaid : CallAnswer → List CallAnswer → CallAnswer
overlaid other [] = other
overlaid other (answer ∷ answers) =
    pick (is_reply answer.answer)
    (let n = reply_length answer.answer in call_answer answer.answer (take n answer.buffer ++ drop n (highest_reply other answers).buffer))
    (overlaid other answers)

abbrev pub seen_past : RackStep
seen_past = replying (λ (call : RackCall) (answers : List CallAnswer). overlaid (no_reply call.handed) answers)

-- ---- the report, and a refusal's number
unfoldable pub misreporting : (RackAnswer → RackAnswer) → Rack → RackCall → RackResult
misreporting change rack call = let result = rack_entry rack call in rack_result (change result.says) result.rack

-- nobody answered, ever
abbrev pub reports_none : RackStep
reports_none = misreporting (λ (answer : RackAnswer). rack_answer answer.says [])

-- each refusal is 2
unfoldable pub by_two : Answer → Answer
by_two (Refused why) = Refused ReplyShort
by_two Nothing = Nothing
by_two Ack = Ack
by_two NoAck = NoAck
by_two (Byte x) = Byte x
by_two Silence = Silence
by_two (Reply n) = Reply n

abbrev pub refuses_by_two : RackStep
refuses_by_two = misreporting (λ (answer : RackAnswer). rack_answer (call_answer (by_two answer.says.answer) answer.says.buffer) answer.report)

-- ---- more than the rack had
unfoldable pub leaving : (Rack → Rack) → Rack → RackCall → RackResult
leaving change rack call = let result = rack_entry rack call in rack_result result.says (change result.rack)

abbrev pub adds_tag : RackStep
adds_tag = leaving (λ (rack : Rack). rack_of (rack.tags ++ no_tag ∷ []) rack.memory)

abbrev pub adds_byte : RackStep
adds_byte = leaving (λ (rack : Rack). rack_of rack.tags (rack.memory ++ 0 ∷ []))

-- ---- all of them, each with the part that tells it
abbrev pub wrong_racks : List WrongRack
wrong_racks = rack_told_by by_tags frame_to_first ∷ rack_told_by by_tags end_to_first ∷ rack_told_by by_tags field_misses ∷ rack_told_by by_tags moves_next
    ∷ rack_told_by by_tags refused_steps ∷ rack_told_by by_tags quiet_counts
    ∷ rack_told_by by_answers highest_answers ∷ rack_told_by by_answers seen_past ∷ rack_told_by by_answers reports_none ∷ rack_told_by by_answers refuses_by_two
    ∷ rack_told_by by_number adds_tag ∷ rack_told_by by_size adds_byte ∷ []

abbrev pub WrongRacksTold : Type 0
WrongRacksTold = AllRacksTold wrong_racks
