-- What is proved of explanations: every NoAck, error reply and silence has one, and it is the first rule that holds.
use Rattle.std.specs.Prelude.{◌≡◌, Bool, true, false, List, ℕ, eqb, get_or, Ok}
use Rattle.parts.specs.Pick.{pick}
use Rattle.rule_list.specs.RuleList.{IsFirst}
use Rattle.tag.specs.declared.Tag.{Tag}
use Rattle.signal_table.specs.declared.Signal.{Signal}
use Rattle.signal_table.specs.declared.Signal.TheVariants.{Wire, Field, Frame, EndOfFrame}
use Rattle.signal_table.specs.Table.{signal_by}
use Rattle.errors.specs.Errors.{error_code}
use Rattle.refusals.specs.Call.{Call}
use Rattle.refusals.specs.Refusals.{entry_rules, judgement}
use Rattle.model.specs.declared.Answer.{Answer}
use Rattle.model.specs.declared.Answer.TheVariants.{Refused, Nothing, Ack, NoAck, Byte, Silence, Reply}
use Rattle.model.specs.Step.{StepResult, step_of}
use Rattle.rule_names.specs.Rules.{Rule, byte_forbidden, noVcc, noStart, inReadLeg, otherSelectByte, programmingNow, silent, inventory_silence, own_silence, failed}
use Rattle.explanation_rules.specs.Conditions.{rule_holds}
use Rattle.explanation_rules.specs.Explanation.{rules_for, Explained, unexplained, explained_by, explained}

-- ---- the answers that are explained
-- "01h and the code": a reply's first byte, of the reply buffer o after the call
abbrev pub is_error_reply : List ℕ → Bool
is_error_reply o = eqb (get_or o 0 0) 0x01

-- an end-of-frame that is not answered is no silent frame
unfoldable pub is_frame : Signal → Bool
is_frame (Wire signal) = false
is_frame (Field on) = false
is_frame Frame = true
is_frame EndOfFrame = false

-- "each N, error code or silent frame"
unfoldable pub asks_rule : Signal → Answer → List ℕ → Bool
asks_rule signal (Refused refusal) o = false
asks_rule signal Nothing o = false
asks_rule signal Ack o = false
asks_rule signal NoAck o = true
asks_rule signal (Byte x) o = false
asks_rule signal Silence o = is_frame signal
asks_rule signal (Reply n) o = is_error_reply o

-- the code of an error reply; of every other answer 0
unfoldable pub code_in : Answer → List ℕ → ℕ
code_in (Refused refusal) o = 0
code_in Nothing o = 0
code_in Ack o = 0
code_in NoAck o = 0
code_in (Byte x) o = 0
code_in Silence o = 0
code_in (Reply n) o = pick (is_error_reply o) (get_or o 1 0) 0

-- ---- the explanation
unfoldable pub is_explained : Explained → Bool
is_explained unexplained = false
is_explained (explained_by rule) = true

-- the code of the rule that explains it, or 0
unfoldable pub rule_code : Rule → ℕ
rule_code (byte_forbidden reason) = 0
rule_code noVcc = 0
rule_code noStart = 0
rule_code inReadLeg = 0
rule_code otherSelectByte = 0
rule_code programmingNow = 0
rule_code (silent rule) = 0
rule_code inventory_silence = 0
rule_code own_silence = 0
rule_code (failed error) = error_code error

unfoldable pub explained_code : Explained → ℕ
explained_code unexplained = 0
explained_code (explained_by rule) = rule_code rule

-- ---- of one signal, with the explanation `found` and what the call then left
pub record Explanation (t : Tag) (m : List ℕ) (signal : Signal) (f : List ℕ) (found : Explained) (result : StepResult) : Type 0 where
  -- "a name is given exactly when the tag gave such an answer"
  pub exactly : is_explained found ≡ asks_rule signal result.answer result.reply
  -- "the named rule's condition holds of the tag and signal", "no earlier rule's does"
  pub first : (rule : Rule) → found ≡ explained_by rule → IsFirst (rule_holds t m signal f) (rules_for t.host.bus signal f) rule
  -- an error's rule has the code that the reply has
  pub code : explained_code found ≡ code_in result.answer result.reply

-- every call that is not refused, asked of the tag and the memory before it
abbrev pub Explains : Type 0
Explains = (t : Tag) (m : List ℕ) (call : Call) → judgement (entry_rules t m call) ≡ Ok tt
    → let signal = signal_by call.code call.value in
    Explanation t m signal call.frame (explained t m signal call.frame) (step_of t m call)
