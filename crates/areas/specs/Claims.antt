-- What is proved of these definitions, beside the functions' contracts.
use Rattle.std.specs.Prelude.{◌≡◌, true, ℕ, ◌/◌}
use Rattle.registers.specs.declared.Ends.{Ends}
use Rattle.register_table.specs.Passed.{end_a}
use Rattle.registers.specs.Map.{with_end}
use Rattle.areas.specs.Ends.{area_of_block, area_of_byte, ends_in_range, end_accepted}

-- an accepted ENDAi keeps the ends in range
abbrev pub EndKept : Type 0
EndKept = (e : Ends) (i x : ℕ) → ends_in_range e ≡ true → end_accepted e i x ≡ true → ends_in_range (with_end i (end_a x) e) ≡ true

-- the two ways to say an area's end agree: a byte lies in the area of its block
abbrev pub ByteInBlocksArea : Type 0
ByteInBlocksArea = (e : Ends) (n : ℕ) → area_of_byte e n ≡ area_of_block e (n / 4)
