-- The rule that explains a signal's answer: the first of its list whose condition holds (02, Ask 3).
use Rattle.std.specs.Prelude.{List, [], ◌∷◌, ◌++◌, map, ℕ, None}
use Rattle.parts.specs.Pick.{pick}
use Rattle.rule_list.specs.RuleList.{first_says}
use Rattle.bus.specs.declared.Bus.{Bus}
use Rattle.bus.specs.declared.Bus.TheVariants.{Idle, Started, ReadLeg, WriteLeg, LowAddress, DataLeg}
use Rattle.tag.specs.declared.Tag.{Tag}
use Rattle.signal_table.specs.declared.WireSignal.{WireSignal}
use Rattle.signal_table.specs.declared.WireSignal.TheVariants.{Start, Send, Fetch, Stop, Vcc, ProgrammingEnd}
use Rattle.signal_table.specs.declared.Signal.{Signal}
use Rattle.signal_table.specs.declared.Signal.TheVariants.{Wire, Field, Frame, EndOfFrame}
use Rattle.signal_table.specs.Table.{signal_by}
use Rattle.write_rules.specs.Verdict.{write_reasons}
use Rattle.errors.specs.declared.RadioError.{RadioError}
use Rattle.commands.specs.Table.{command_of}
use Rattle.frame.specs.Fields.{command, inventory_flag}
use Rattle.silence_rules.specs.Silence.{reception_silences, request_silences}
use Rattle.judge.specs.Judge.{rule_error, error_rules}
use Rattle.row_rules.specs.RowErrors.{row_errors}
use Rattle.rule_names.specs.Rules.{Rule, byte_forbidden, noVcc, noStart, inReadLeg, otherSelectByte, programmingNow, silent, inventory_silence, own_silence, failed, rule_number}
use Rattle.explanation_rules.specs.Conditions.{rule_holds}

-- ---- the order
-- "Ask 2's for an N on a data byte"; the wire's session has no number
unfoldable pub data_byte_rules : List Rule
data_byte_rules = map byte_forbidden (write_reasons None)

-- "any other N takes the first of no VCC, no Start, read leg, other select byte, programming"
unfoldable pub other_byte_rules : List Rule
other_byte_rules = noVcc ∷ noStart ∷ inReadLeg ∷ otherSelectByte ∷ programmingNow ∷ []

-- a byte of a write leg past its address is a data byte
unfoldable pub byte_rules : Bus → List Rule
byte_rules Idle = other_byte_rules
byte_rules (Started transfer) = other_byte_rules
byte_rules (ReadLeg kept space over last) = other_byte_rules
byte_rules (WriteLeg kept space) = other_byte_rules
byte_rules (LowAddress kept space high) = other_byte_rules
byte_rules (DataLeg kept space count spoiled) = data_byte_rules

unfoldable pub wire_rules : Bus → WireSignal → List Rule
wire_rules b Start = []
wire_rules b (Send x) = byte_rules b
wire_rules b (Fetch ack) = []
wire_rules b Stop = []
wire_rules b (Vcc on) = []
wire_rules b ProgrammingEnd = []

-- shut out, 01h, 03h, 02h, then the row's
unfoldable pub frame_errors : List ℕ → List RadioError
frame_errors f = map rule_error error_rules ++ row_errors (command_of (command f))

-- "01's silence list, own silence .., shut out, the errors"
unfoldable pub request_rules : List ℕ → List Rule
request_rules f = map silent request_silences ++ own_silence ∷ map failed (frame_errors f)

-- 01's silence list up to the rule "inventory flag", the last one of a frame that has it
unfoldable pub inventory_rules : List Rule
inventory_rules = map silent reception_silences ++ inventory_silence ∷ []

unfoldable pub frame_rules : List ℕ → List Rule
frame_rules f = pick (inventory_flag f) inventory_rules (request_rules f)

-- no other signal has a NoAck, an error or a silent frame
unfoldable pub rules_for : Bus → Signal → List ℕ → List Rule
rules_for b (Wire signal) f = wire_rules b signal
rules_for b (Field on) f = []
rules_for b Frame f = frame_rules f
rules_for b EndOfFrame f = []

-- ---- the rule that is named
pub data Explained : Type 0 where
  unexplained : Explained
  explained_by : Rule → Explained

unfoldable pub explained : Tag → List ℕ → Signal → List ℕ → Explained
explained t m signal f = first_says (rule_holds t m signal f) explained_by unexplained (rules_for t.host.bus signal f)

-- its number, or 0
unfoldable pub explained_number : Explained → ℕ
explained_number unexplained = 0
explained_number (explained_by rule) = rule_number rule

-- of a call's code, value and frame
unfoldable pub rule_at : Tag → List ℕ → ℕ → ℕ → List ℕ → ℕ
rule_at t m code value f = explained_number (explained t m (signal_by code value) f)
