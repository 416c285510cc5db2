-- "One signal a call: VCC 0/1, field 0/1, Start, byte sent, byte fetched (host Ack or not), Stop, programming end, radio frame."
use Rattle.std.specs.Prelude.{Bool, true, false, ◌&&◌, List, [], ◌∷◌, ℕ, leb, eqb, Option, Some, None}
use Rattle.rule_list.specs.RuleList.{first_says}
use Rattle.signal_table.specs.declared.WireSignal.{WireSignal}
use Rattle.signal_table.specs.declared.WireSignal.TheVariants.{Start, Send, Fetch, Stop, Vcc, ProgrammingEnd}
use Rattle.signal_table.specs.declared.Signal.{Signal}
use Rattle.signal_table.specs.declared.Signal.TheVariants.{Wire, Field, Frame, EndOfFrame}

-- a code, its highest value, and the signal of a value
pub record SignalRow : Type 0 where
  pub code : ℕ
  pub top : ℕ
  pub signal : ℕ → Signal

abbrev pub signal_row : ℕ → ℕ → (ℕ → Signal) → SignalRow
signal_row code top signal = record { code = code; top = top; signal = signal }

-- the codes in this order; the value is a byte for the byte sent, 0 or 1 for VCC, the field and the byte fetched, 0 for those that have none
unfoldable pub signal_table : List SignalRow
signal_table =
    signal_row 1 1 (λ value. Wire (Vcc (eqb value 1)))
    ∷ signal_row 2 1 (λ value. Field (eqb value 1))
    ∷ signal_row 3 0 (λ value. Wire Start)
    ∷ signal_row 4 255 (λ value. Wire (Send value))
    ∷ signal_row 5 1 (λ value. Wire (Fetch (eqb value 1)))
    ∷ signal_row 6 0 (λ value. Wire Stop)
    ∷ signal_row 7 0 (λ value. Wire ProgrammingEnd)
    ∷ signal_row 8 0 (λ value. Frame)
    -- "The lone end-of-frame that opens the next slot becomes a signal."
    ∷ signal_row 9 0 (λ value. EndOfFrame)
    ∷ []

-- what a code and a value stand for
unfoldable pub signal_found : ℕ → ℕ → Option Signal
signal_found code value =
    first_says (λ (row : SignalRow). eqb code row.code && leb value row.top) (λ (row : SignalRow). Some (row.signal value)) None signal_table

unfoldable pub is_found : Option Signal → Bool
is_found None = false
is_found (Some signal) = true

-- not "signal code unknown, or its value out of range"
unfoldable pub signal_in_range : ℕ → ℕ → Bool
signal_in_range code value = is_found (signal_found code value)

-- the signal; where there is none, which is refused, any
unfoldable pub signal_in : Option Signal → Signal
signal_in None = Frame
signal_in (Some signal) = signal

unfoldable pub signal_by : ℕ → ℕ → Signal
signal_by code value = signal_in (signal_found code value)

-- the byte that a wire signal sends, or 0
unfoldable pub sent_byte : WireSignal → ℕ
sent_byte Start = 0
sent_byte (Send x) = x
sent_byte (Fetch ack) = 0
sent_byte Stop = 0
sent_byte (Vcc on) = 0
sent_byte ProgrammingEnd = 0
