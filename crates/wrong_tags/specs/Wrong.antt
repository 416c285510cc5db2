-- Tags that demand 3 shuts out: each is the entry point with one thing changed. Code 1 with value 0 is VCC off, 6 a Stop, 8 a frame, 9 an end-of-frame.
use Rattle.std.specs.Prelude.{Bool, true, not, ◌&&◌, List, [], ◌∷◌, ℕ, eqb, take, Some, None}
use Rattle.parts.specs.Pick.{pick}
use Rattle.bus.specs.declared.Bus.TheVariants.{Idle, Started}
use Rattle.bus.specs.Bus.{kept_of}
use Rattle.tag.specs.declared.Core.{Core}
use Rattle.tag.specs.declared.Tag.{Tag}
use Rattle.tag.specs.Layout.{user_bytes}
use Rattle.air.specs.Radio.{deselected}
use Rattle.tag.specs.Parts.{with_tag_air}
use Rattle.commands.specs.Table.{select_code}
use Rattle.frame.specs.Fields.{command, inventory_flag, own_uid}
use Rattle.silence_rules.specs.Silence.{is_silent}
use Rattle.model.specs.declared.Answer.TheVariants.{NoAck}
use Rattle.signal_table.specs.declared.Signal.TheVariants.{Frame}
use Rattle.model.specs.Step.{act_of}
use Rattle.refusals.specs.Call.{Call}
use Rattle.calls.specs.Calls.{call_answer, Device, device, DeviceResult, device_result, device_result_of, entry}
use Rattle.calls.specs.Examples.{on_core, on_bus}
use Rattle.demand3.specs.Demand3.{struck}

-- ---- "one that serves the first transfer and feigns the rest"
-- A step has no other memory than the tag's: a later transfer is one that finds a byte written.
unfoldable pub is_blank : List ℕ → Bool
is_blank [] = true
is_blank (x ∷ s) = eqb x 0 && is_blank s

-- a later Stop says and leaves what it should, and programming starts, but no byte is written
unfoldable pub feigning : Device → Call → DeviceResult
feigning d call =
    let result = entry d call in
    let later = not (is_blank (take user_bytes d.memory)) in
    device_result result.says (device result.device.tag (pick (later && eqb call.code 6) d.memory result.device.memory))

-- ---- one that serves a frame in a transfer as if none were open
unfoldable pub reads_half : Device → Call → DeviceResult
reads_half d call =
    let result = entry (on_bus Idle d) call in
    pick (eqb call.code 8) (device_result result.says (on_bus d.tag.host.bus result.device))
    (entry d call)

-- ---- "Letting a shut-out Select deselect the tag."
-- a Select with another UID, judged past silence
unfoldable pub other_select : List ℕ → Tag → Bool
other_select f t = eqb (command f) select_code && not (own_uid f t.uid) && not (is_silent f t.air t.uid t.core.registers.dynamic)

unfoldable pub deselects : Device → Call → DeviceResult
deselects d call =
    let result = entry d call in
    pick (struck entry d call && other_select call.frame d.tag)
    (device_result result.says (device (with_tag_air (deselected d.tag.air) d.tag) d.memory))
    result

-- ---- one that, inside a transfer, takes the ends-of-frame to its slot from a signal as if none were open
unfoldable pub counts_inside : (Call → Bool) → Device → Call → DeviceResult
counts_inside when d call =
    let result = entry d call in
    let counts = (entry (on_bus Idle d) call).device.tag.air in
    pick (struck entry d call && when call) (device_result result.says (device (with_tag_air counts d.tag) d.memory))
    result

-- from an end-of-frame
abbrev pub counts_down : Device → Call → DeviceResult
counts_down = counts_inside (λ (call : Call). eqb call.code 9)

-- from an inventory frame
abbrev pub counts_anew : Device → Call → DeviceResult
counts_anew = counts_inside (λ (call : Call). eqb call.code 8 && inventory_flag call.frame)

-- a transfer open that would have begun with the registers as they stand
abbrev pub as_it_stands : Device → Device
as_it_stands d = on_bus (Started (Some (kept_of None d.tag.core.registers.dynamic))) d

-- the call with a Stop for its signal
abbrev pub stopping : Call → Call
stopping call = record { buffer = call.buffer; code = 6; value = 0; frame = call.frame }

-- ---- one whose VCC off writes the leg's bytes, as a Stop does, and then acts
unfoldable pub commits_at_off : Device → Call → DeviceResult
commits_at_off d call =
    pick (eqb call.code 1 && eqb call.value 0) (entry (entry d (stopping call)).device call)
    (entry d call)

-- ---- one that answers a frame in a transfer by the registers as the leg's bytes so far would leave them
unfoldable pub answers_from_leg : Device → Call → DeviceResult
answers_from_leg d call =
    let t = (as_it_stands (on_core (λ (c : Core). (entry d (stopping call)).device.tag.core) d)).tag in
    pick (struck entry d call) (device_result (device_result_of (act_of Frame t d.memory call.buffer call.frame)).says d)
    (entry d call)

-- ---- one that NoAcks everything and never ends its transfer
unfoldable pub never_closes : Device → Call → DeviceResult
never_closes d call = device_result (call_answer NoAck call.buffer) (as_it_stands d)
