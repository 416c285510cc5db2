-- Laws of the table of signals. Assumes nothing.
use mathlib.Core.Path.{◌≡◌, refl, sym, ap, ◌∙◌}
use mathlib.Core.Bool.{Bool, true, false, not, ◌&&◌, false≢true}
use Prim.Native.Nat.{ℕ, ◌<◌}
use native.Mathlib.Omega.{arith}
use lib.Dec.{leb, eqb}
use borrow.Author.Tests.{le-leb, leb-true, not-false}
use Rattle.parts.specs.Pick.{pick}
use Rattle.parts.proofs.Bools.{and_left, and_right}
use Rattle.rule_list.specs.RuleList.{any_holds, first_says}
use Rattle.rule_list.proofs.Laws.{says_passes}
use Rattle.signal_table.specs.declared.WireSignal.TheVariants.{Send}
use Rattle.signal_table.specs.declared.Signal.{Signal}
use Rattle.signal_table.specs.declared.Signal.TheVariants.{Wire, Field, Frame, EndOfFrame}
use Rattle.std.specs.Prelude.{Option, Some, None}
use Rattle.signal_table.specs.Table.{SignalRow, signal_table, signal_found, is_found, signal_in_range, signal_in, signal_by, sent_byte}

-- ---- the byte that a signal sends is a byte
unfoldable pub sent : Signal → ℕ
sent (Wire x) = sent_byte x
sent (Field on) = 0
sent Frame = 0
sent EndOfFrame = 0

-- no row has a signal that sends more than its value, or a value that is no byte
sends_more : ℕ → SignalRow → Bool
sends_more value row = not (leb (sent (row.signal value)) value && leb row.top 255)

none_sends_more : (value : ℕ) → any_holds (sends_more value) signal_table ≡ false
unfolding any_holds signal_table sends_more sent sent_byte
none_sends_more value = rw (le-leb 0 value (omega arith), le-leb value value (omega arith))

pub sent_below : (code value : ℕ) → sent (signal_by code value) < 256
unfolding signal_by signal_in signal_found sends_more sent
sent_below code value =
    says_passes (λ (row : SignalRow). eqb code row.code && leb value row.top) (sends_more value) (λ (row : SignalRow). Some (row.signal value)) None
    (λ (found : Option Signal). sent (signal_in found) < 256) signal_table (none_sends_more value)
    (λ row h k.
    let both : (leb (sent (row.signal value)) value && leb row.top 255) ≡ true = not-false _ k in
    omega (arith, leb-true value row.top (and_right (eqb code row.code) _ h), leb-true (sent (row.signal value)) value (and_left _ _ both), leb-true row.top 255 (and_right (leb (sent (row.signal value)) value) _ both)))
    (omega arith)

-- ---- code 4 with a byte is the byte sent
byte_found : (x : ℕ) → leb x 255 ≡ true → signal_found 4 x ≡ Some (Wire (Send x))
unfolding signal_found signal_table first_says pick
byte_found x h = rw h

no_byte_found : (x : ℕ) → leb x 255 ≡ false → signal_found 4 x ≡ None
unfolding signal_found signal_table first_says pick
no_byte_found x h = rw h

pub byte_known : (x : ℕ) → leb x 255 ≡ true → signal_in_range 4 x ≡ true
unfolding signal_in_range is_found
byte_known x h = ap is_found (byte_found x h)

pub byte_code : (x : ℕ) → signal_in_range 4 x ≡ true → signal_by 4 x ≡ Wire (Send x)
unfolding signal_in_range is_found signal_by signal_in
byte_code x h = by_test (leb x 255) refl
  where
    by_test : (b : Bool) → leb x 255 ≡ b → signal_by 4 x ≡ Wire (Send x)
    by_test true e = ap signal_in (byte_found x e)
    by_test false e = absurd (false≢true (sym (ap is_found (no_byte_found x e)) ∙ h))

-- ---- code 8 with value 0 is the frame
pub frame_known : signal_in_range 8 0 ≡ true
unfolding signal_in_range is_found signal_found signal_table first_says pick
frame_known = refl

pub frame_code : signal_by 8 0 ≡ Frame
unfolding signal_by signal_in signal_found signal_table first_says pick
frame_code = refl
