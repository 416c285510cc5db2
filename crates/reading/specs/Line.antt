-- "The bench program reads tab-parted lines": a line, without its line feed, and what it says.
use Rattle.std.specs.Prelude.{Option, Some, None, Bool, ◌&&◌, ◌||◌, List, ℕ, ◌-◌, ◌%◌, leb, ltb, eqb, length, get_or, drop}
use Rattle.parts.specs.Pick.{pick}
use Rattle.reading.specs.declared.Reading.{Reading}
use Rattle.reading.specs.declared.Reading.TheVariants.{Signal, Frame}
use Rattle.hexadecimal.specs.Hex.{all_hex, hex_byte, hex_bytes}

-- a bad line, a signal's code and value, or a frame without CRC
pub data ScriptLine : Type 0 where
  bad_line : ScriptLine
  signal_line : ℕ → ℕ → ScriptLine
  frame_line : List ℕ → ScriptLine

-- "? for a bad line (no change; also one over 1,200 characters)"
abbrev pub longest : ℕ
longest = 1200

-- a letter alone: S Start, P Stop, D programming end, E end-of-frame
unfoldable pub alone : ℕ → ScriptLine
alone x =
    pick (eqb x 0x53) (signal_line 3 0)
    (pick (eqb x 0x50) (signal_line 6 0)
    (pick (eqb x 0x44) (signal_line 7 0)
    (pick (eqb x 0x45) (signal_line 9 0)
    bad_line)))

-- "0/1"
unfoldable pub level : ℕ → List ℕ → ScriptLine
level code s = pick (eqb (length s) 1 && (eqb (get_or s 0 0) 0x30 || eqb (get_or s 0 0) 0x31)) (signal_line code (get_or s 0 0 - 0x30)) bad_line

-- "two hex digits"
unfoldable pub byte_sent : List ℕ → ScriptLine
byte_sent s = pick (eqb (length s) 2 && all_hex s) (signal_line 4 (hex_byte (get_or s 0 0) (get_or s 1 0))) bad_line

-- "the frame, a byte or more, without CRC"
unfoldable pub frame_sent : List ℕ → ScriptLine
frame_sent s = pick (leb 2 (length s) && eqb (length s % 2) 0 && all_hex s) (frame_line (hex_bytes s)) bad_line

-- a letter, a tab and s: V VCC, F field, B byte sent, G byte fetched, R frame
unfoldable pub tabbed : ℕ → List ℕ → ScriptLine
tabbed x s =
    pick (eqb x 0x56) (level 1 s)
    (pick (eqb x 0x46) (level 2 s)
    (pick (eqb x 0x42) (byte_sent s)
    (pick (eqb x 0x47) (level 5 s)
    (pick (eqb x 0x52) (frame_sent s)
    bad_line))))

unfoldable pub line_of : List ℕ → ScriptLine
line_of s =
    pick (ltb longest (length s)) bad_line
    (pick (eqb (length s) 1) (alone (get_or s 0 0))
    (pick (eqb (get_or s 1 0) 0x09) (tabbed (get_or s 0 0) (drop 2 s))
    bad_line))

-- ---- what the program's reading of a line says; s is what follows the tab
unfoldable pub line_by : Option Reading → List ℕ → ScriptLine
line_by None s = bad_line
line_by (Some (Signal code value)) s = signal_line code value
line_by (Some Frame) s = frame_line (hex_bytes s)
