-- The lines of `rack_bench`: "Lines as in `bench`, and" three of its own. A line, without its line feed, and what it says.
use Rattle.std.specs.Prelude.{Option, Some, None, Bool, true, not, ◌&&◌, ◌||◌, List, [], ◌∷◌, ℕ, ◌+◌, ◌-◌, ◌*◌, leb, ltb, eqb, length, get_or, drop}
use Rattle.parts.specs.Pick.{pick}
use Rattle.hexadecimal.specs.Hex.{hex_bytes}
use Rattle.lines.specs.Line.{has_bytes}
use Rattle.keys.specs.declared.Uid.{Uid}
use Rattle.keys.specs.Keys.{uid_at}
use Rattle.reading.specs.Line.{ScriptLine, bad_line, signal_line, frame_line, longest, line_of}
use Rattle.rack_reading.specs.declared.RackReading.{RackReading}
use Rattle.rack_reading.specs.declared.RackReading.TheVariants.{Signal, Frame, Add, Name, Search}

pub data RackLine : Type 0 where
  -- as in `bench`: a bad line, a signal's code and value, or a frame without CRC
  bench_line : ScriptLine → RackLine
  -- a tag with that UID is added
  add_line : Uid → RackLine
  -- the tag of that number is named
  name_line : ℕ → RackLine
  -- a search with that frame, without CRC
  search_line : List ℕ → RackLine

abbrev pub bad_rack_line : RackLine
bad_rack_line = bench_line bad_line

-- ---- "`U` tab 16 hex digits adds a fresh tag with that UID (bytes as 01 writes the bench's UID)": two digits a byte, byte 0 first
abbrev pub uid_of : List ℕ → Uid
uid_of s = uid_at (hex_bytes s) 0

unfoldable pub add_sent : List ℕ → RackLine
add_sent s = pick (eqb (length s) 18 && has_bytes s) (add_line (uid_of (drop 2 s))) bad_rack_line

-- ---- "`T` tab a decimal number 0 to 255 without leading zeros names the tag"
unfoldable pub is_digit : ℕ → Bool
is_digit x = leb 0x30 x && leb x 0x39

unfoldable pub all_digits : List ℕ → Bool
all_digits [] = true
all_digits (x ∷ s) = is_digit x && all_digits s

-- the number that digits say, behind those that said n
unfoldable pub number_from : ℕ → List ℕ → ℕ
number_from n [] = n
number_from n (x ∷ s) = number_from (10 * n + (x - 0x30)) s

abbrev pub number_of : List ℕ → ℕ
number_of s = number_from 0 s

abbrev pub most_number : ℕ
most_number = 255

-- no digit, or a zero with another digit behind it
abbrev pub badly_begun : List ℕ → Bool
badly_begun s = eqb (length s) 0 || (ltb 1 (length s) && eqb (get_or s 0 0) 0x30)

unfoldable pub number_sent : List ℕ → RackLine
number_sent s =
    pick (badly_begun s) bad_rack_line
    (pick (not (all_digits s)) bad_rack_line
    (pick (ltb most_number (number_of s)) bad_rack_line
    (name_line (number_of s))))

unfoldable pub name_sent : List ℕ → RackLine
name_sent s = pick (eqb (get_or s 1 0) 0x09) (number_sent (drop 2 s)) bad_rack_line

-- ---- "`L` tab frame (hex, no CRC) is the search": a byte or more, as in an R line
unfoldable pub search_sent : List ℕ → RackLine
search_sent s = pick (has_bytes s) (search_line (hex_bytes (drop 2 s))) bad_rack_line

-- ---- by the letter; no line is longer than one of `bench`
unfoldable pub own_line : List ℕ → RackLine
own_line s =
    pick (ltb longest (length s)) bad_rack_line
    (pick (eqb (get_or s 0 0) 0x55) (add_sent s)
    (pick (eqb (get_or s 0 0) 0x54) (name_sent s)
    (pick (eqb (get_or s 0 0) 0x4C) (search_sent s)
    bad_rack_line)))

-- what is bad in `bench` may be a line of a rack's own
unfoldable pub or_own : ScriptLine → List ℕ → RackLine
or_own bad_line s = own_line s
or_own (signal_line code value) s = bench_line (signal_line code value)
or_own (frame_line f) s = bench_line (frame_line f)

unfoldable pub rack_line_of : List ℕ → RackLine
rack_line_of s = or_own (line_of s) s

-- ---- what the program's reading of a line says; s is what follows the tab
unfoldable pub rack_line_by : Option RackReading → List ℕ → RackLine
rack_line_by None s = bad_rack_line
rack_line_by (Some (Signal code value)) s = bench_line (signal_line code value)
rack_line_by (Some Frame) s = bench_line (frame_line (hex_bytes s))
rack_line_by (Some Add) s = add_line (uid_of s)
rack_line_by (Some (Name n)) s = name_line n
rack_line_by (Some Search) s = search_line (hex_bytes s)
