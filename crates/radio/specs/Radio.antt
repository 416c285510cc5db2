-- A frame answered: an inventory, or judged, and if it is a request, served; and an end-of-frame.
use Rattle.std.specs.Prelude.{Bool, ◌||◌, List, ℕ, Option}
use Rattle.bus.specs.declared.OpenTransfer.{OpenTransfer}
use Rattle.register_types.specs.declared.RfMngt.{RfMngt}
use Rattle.keys.specs.declared.Uid.{Uid}
use Rattle.parts.specs.Pick.{pick}
use Rattle.bus.specs.Bus.{is_open_transfer, counted_dynamic}
use Rattle.frame.specs.Fields.{inventory_flag}
use Rattle.inventory_reply.specs.Answers.{inventory_of, end_of_frame_of}
use Rattle.reply.specs.declared.RadioSide.{RadioSide}
use Rattle.reply.specs.Reply.{nothing}
use Rattle.reply.specs.Outcome.{CommandResult, command_result, fails}
use Rattle.judge.specs.declared.Verdict.{Verdict}
use Rattle.judge.specs.declared.Verdict.TheVariants.{Silence, Error, Request}
use Rattle.judge.specs.Judge.{judge}
use Rattle.request.specs.Request.{request_of}
use Rattle.serve.specs.Commands.{serve_of}

-- what each verdict comes to: silence, 01h and the code, or the command
unfoldable pub verdict_result : Verdict → RadioSide → Uid → Bool → List ℕ → List ℕ → CommandResult
verdict_result Silence v u vcc m f = command_result nothing v m
verdict_result (Error error) v u vcc m f = fails error v m
verdict_result Request v u vcc m f = serve_of (request_of f u) v vcc m f

-- RF_MNGT_Dyn as it counts, and "a transfer open or programming"
abbrev pub dynamic_now : RadioSide → Option OpenTransfer → RfMngt
dynamic_now v transfer = counted_dynamic transfer v.core.registers.dynamic

abbrev pub busy_now : Option OpenTransfer → Bool → Bool
busy_now transfer programming = is_open_transfer transfer || programming

-- what the frame is judged to be
abbrev pub verdict_of : RadioSide → Uid → Option OpenTransfer → Bool → List ℕ → Verdict
verdict_of v u transfer programming f = judge f v.air u (dynamic_now v transfer) (busy_now transfer programming)

-- the frame f, for the tag's radio side v with UID u, VCC, the transfer open or not, programming, and memory m.
-- It holds for memory of every length: a byte past its end reads 0, a store past it changes nothing.
unfoldable pub radio_of : RadioSide → Uid → Bool → Option OpenTransfer → Bool → List ℕ → List ℕ → CommandResult
radio_of v u vcc transfer programming m f =
    pick (inventory_flag f) (inventory_of v u (dynamic_now v transfer) (busy_now transfer programming) m f)
    (verdict_result (verdict_of v u transfer programming f) v u vcc m f)

-- an end-of-frame
unfoldable pub next_slot_of : RadioSide → Uid → Option OpenTransfer → Bool → List ℕ → CommandResult
next_slot_of v u transfer programming m = end_of_frame_of v u (dynamic_now v transfer) (busy_now transfer programming) m
