-- Worked examples of lines: no byte, a line feed alone, a last line without line feed, an empty line in between.
use mathlib.Core.Path.{◌≡◌, refl}
use mathlib.Core.List.{[], ◌∷◌}
use Rattle.parts.specs.Pick.{pick}
use Rattle.line_stream.specs.Lines.{byte_before, lines_of, byte_before_full, full_lines_of}

pub no_byte : lines_of [] ≡ []
unfolding lines_of
no_byte = refl

pub line_feed_alone : lines_of (10 ∷ []) ≡ [] ∷ []
unfolding lines_of pick
line_feed_alone = refl

pub last_without : lines_of (65 ∷ 10 ∷ 10 ∷ 66 ∷ []) ≡ (65 ∷ []) ∷ [] ∷ (66 ∷ []) ∷ []
unfolding lines_of byte_before pick
last_without = refl

pub not_yet : full_lines_of (65 ∷ 10 ∷ 10 ∷ 66 ∷ []) ≡ (65 ∷ []) ∷ [] ∷ []
unfolding full_lines_of byte_before_full pick
not_yet = refl
