-- What must hold of the tag and the signal for each rule that explains an answer (02, Ask 3). No condition mentions another rule.
use Rattle.std.specs.Prelude.{Bool, true, false, not, ◌&&◌, ◌||◌, List, ℕ, eqb}
use Rattle.register_types.specs.declared.RfMngt.{RfMngt}
use Rattle.bus.specs.declared.Space.TheVariants.{User}
use Rattle.bus.specs.declared.Bus.{Bus}
use Rattle.bus.specs.declared.Bus.TheVariants.{Idle, Started, ReadLeg, WriteLeg, LowAddress, DataLeg}
use Rattle.bus.specs.Bus.{is_open_transfer, counted_dynamic, transfer_at}
use Rattle.tag.specs.declared.Host.{Host}
use Rattle.tag.specs.declared.Tag.{Tag}
use Rattle.select.specs.Select.{first_of}
use Rattle.signal_table.specs.declared.Signal.{Signal}
use Rattle.signal_table.specs.declared.Signal.TheVariants.{Wire, Field, Frame, EndOfFrame}
use Rattle.signal_table.specs.Table.{sent_byte}
use Rattle.write_reasons.specs.declared.WriteAsked.{WriteAsked}
use Rattle.write_reasons.specs.Asked.{asked_byte}
use Rattle.write_rules.specs.Situation.{Situation, situation_of}
use Rattle.write_rules.specs.Verdict.{forbids}
use Rattle.frame.specs.Fields.{inventory_flag}
use Rattle.inventory.specs.Inventory.{inventory_silent}
use Rattle.silence_rules.specs.Silence.{silence_holds}
use Rattle.judge.specs.Judge.{is_mute}
use Rattle.reply.specs.Outcome.{radio_side}
use Rattle.row_rules.specs.RowErrors.{error_applies}
use Rattle.rule_names.specs.Rules.{Rule, byte_forbidden, noVcc, noStart, inReadLeg, otherSelectByte, programmingNow, silent, inventory_silence, own_silence, failed}

-- ---- the bus
-- no Start has come: "A send with no Start is NoAcked."
unfoldable pub is_idle : Bus → Bool
is_idle Idle = true
is_idle (Started transfer) = false
is_idle (ReadLeg kept space over last) = false
is_idle (WriteLeg kept space) = false
is_idle (LowAddress kept space high) = false
is_idle (DataLeg kept space count spoiled) = false

-- the next byte sent is a select
unfoldable pub awaits_select : Bus → Bool
awaits_select Idle = false
awaits_select (Started transfer) = true
awaits_select (ReadLeg kept space over last) = false
awaits_select (WriteLeg kept space) = false
awaits_select (LowAddress kept space high) = false
awaits_select (DataLeg kept space count spoiled) = false

unfoldable pub is_read_leg : Bus → Bool
is_read_leg Idle = false
is_read_leg (Started transfer) = false
is_read_leg (ReadLeg kept space over last) = true
is_read_leg (WriteLeg kept space) = false
is_read_leg (LowAddress kept space high) = false
is_read_leg (DataLeg kept space count spoiled) = false

-- "A6h/A7h select user space for write/read, AEh/AFh system space."
unfoldable pub is_select_byte : ℕ → Bool
is_select_byte x = eqb x 0xA6 || eqb x 0xA7 || eqb x 0xAE || eqb x 0xAF

-- ---- the byte sent
-- of a signal; of one that sends none, 0
unfoldable pub signal_byte : Signal → ℕ
signal_byte (Wire signal) = sent_byte signal
signal_byte (Field on) = 0
signal_byte Frame = 0
signal_byte EndOfFrame = 0

-- the byte as data byte of the leg under way; where that takes none, no rule on data bytes is asked
unfoldable pub data_byte_in : Bus → Host → ℕ → WriteAsked
data_byte_in Idle h x = asked_byte h.session false User h.counter 0 x
data_byte_in (Started transfer) h x = asked_byte h.session false User h.counter 0 x
data_byte_in (ReadLeg kept space over last) h x = asked_byte h.session false space h.counter 0 x
data_byte_in (WriteLeg kept space) h x = asked_byte h.session false space h.counter 0 x
data_byte_in (LowAddress kept space high) h x = asked_byte h.session false space h.counter 0 x
data_byte_in (DataLeg kept space count spoiled) h x = asked_byte h.session spoiled space (first_of h.counter count) count x

abbrev pub sent_situation : Tag → List ℕ → ℕ → Situation
sent_situation t m x = situation_of t.core m (data_byte_in t.host.bus t.host x)

-- ---- the frame
-- "Inside a transfer RF_MNGT_Dyn counts as at the transfer's start (house)."
abbrev pub dynamic_of : Tag → RfMngt
dynamic_of t = counted_dynamic (transfer_at t.host.bus) t.core.registers.dynamic

-- "a transfer open or programming"
abbrev pub is_busy : Tag → Bool
is_busy t = is_open_transfer (transfer_at t.host.bus) || t.host.programming

-- ---- the conditions; f is the frame
unfoldable pub rule_holds : Tag → List ℕ → Signal → List ℕ → Rule → Bool
-- Ask 2's reasons
rule_holds t m signal f (byte_forbidden reason) = forbids (sent_situation t m (signal_byte signal)) reason
-- "no VCC"
rule_holds t m signal f noVcc = not t.host.vcc
-- "no Start"
rule_holds t m signal f noStart = is_idle t.host.bus
-- "read leg"
rule_holds t m signal f inReadLeg = is_read_leg t.host.bus
-- "other select byte"
rule_holds t m signal f otherSelectByte = awaits_select t.host.bus && not (is_select_byte (signal_byte signal))
-- "programming"
rule_holds t m signal f programmingNow = t.host.programming
-- 01's silence list
rule_holds t m signal f (silent rule) = silence_holds f t.air t.uid (dynamic_of t) rule
-- its rule "inventory flag", as Ask 4 amends it
rule_holds t m signal f inventory_silence =
    inventory_flag f && inventory_silent f t.air t.uid t.core.registers.afi (dynamic_of t) (is_busy t)
-- "own silence (any Stay Quiet or Select of another UID)"
rule_holds t m signal f own_silence = is_mute f t.uid
-- "shut out, the errors"
rule_holds t m signal f (failed error) = error_applies (dynamic_of t) (is_busy t) (radio_side t) f error
