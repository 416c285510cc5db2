-- The registers' part of the state, at any place: its length, its bytes, there and back. Assumes nothing.
use mathlib.Core.Path.{◌≡◌, sym, ap, ◌∙◌}
use mathlib.Core.Bool.{true}
use mathlib.Core.List.{List}
use Prim.Native.Nat.{ℕ}
use lib.ListN.{length}
use Rattle.parts.specs.Bytes.{bytes_at, are_bytes}
use Rattle.parts.proofs.Below.{Below, are_run}
use Rattle.parts.proofs.Lists.{length_bytes_at}
use Rattle.registers.specs.declared.Registers.{Registers}
use Rattle.registers.specs.Map.{register_bytes, registers_of}
use Rattle.registers.proofs.Bytes.{bytes_count, of_bytes, bytes_of}
use Rattle.state.specs.Layout.{registers_part_length, registers_at}
use Rattle.state.proofs.Places.{bytes_at_whole}

pub registers_length : (r : Registers) → length (register_bytes r) ≡ registers_part_length
registers_length r = bytes_count r

pub registers_back : (r : Registers) → registers_at (register_bytes r) 0 ≡ r
unfolding registers_at
registers_back r = ap registers_of (bytes_at_whole (register_bytes r) registers_part_length (bytes_count r)) ∙ of_bytes r

module _ (s : List ℕ) (at : ℕ) where
  -- it looks only at its own bytes
  pub registers_own : registers_at s at ≡ registers_at (bytes_at s at registers_part_length) 0
  unfolding registers_at
  registers_own = ap registers_of (sym (bytes_at_whole (bytes_at s at registers_part_length) registers_part_length (length_bytes_at s at registers_part_length)))

  pub registers_again : register_bytes (registers_at s at) ≡ bytes_at s at registers_part_length
  unfolding registers_at
  registers_again = bytes_of (bytes_at s at registers_part_length) (length_bytes_at s at registers_part_length)

  pub registers_fit : Below s → are_bytes (register_bytes (registers_at s at)) ≡ true
  registers_fit h = rw registers_again (are_run s at registers_part_length h)
