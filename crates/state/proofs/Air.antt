-- The air side's part of the state, at any place: its length, its bytes, there and back. No field is named that is a flag, so that a flag more changes nothing here. Assumes nothing.
use mathlib.Core.Path.{◌≡◌, refl}
use mathlib.Core.Bool.{true}
use mathlib.Core.List.{List}
use Prim.Native.Nat.{ℕ}
use lib.ListN.{length}
use Rattle.parts.specs.Bytes.{bytes_at, are_bytes}
use Rattle.parts.proofs.Below.{Below}
use Rattle.parts.proofs.Bools.{and_left, and_right}
use Rattle.air.specs.declared.Air.{Air}
use Rattle.state.specs.Layout.{air_part_length, air_bytes, air_decodes, air_at}
use Rattle.state.specs.Claims.{is_byte}
use Rattle.state.proofs.Places.{same_head}
use Rattle.state.proofs.Numbers.{flag_byte_lem, radio_byte, byte_fits, flag_fits, flag_back, flag_again, radio_fits, radio_back, radio_again}

pub air_length : (a : Air) → length (air_bytes a) ≡ air_part_length
unfolding air_bytes
air_length a = refl

pub air_bytes_lem : (a : Air) → is_byte a.session ≡ true → is_byte a.slots ≡ true → are_bytes (air_bytes a) ≡ true
unfolding are_bytes air_bytes
air_bytes_lem a h k = simp (flag_byte_lem, radio_byte, h, k)

pub air_decodes_lem : (a : Air) → air_decodes (air_bytes a) 0 ≡ true
unfolding air_decodes air_bytes
air_decodes_lem a = simp (flag_fits, radio_fits)

pub air_back : (a : Air) → air_at (air_bytes a) 0 ≡ a
unfolding air_at air_bytes
air_back a = simp (flag_back, radio_back)

module _ (s : List ℕ) (at : ℕ) where
  -- it looks only at its own bytes
  pub air_own : (air_decodes s at ≡ air_decodes (bytes_at s at air_part_length) 0) × (air_at s at ≡ air_at (bytes_at s at air_part_length) 0)
  unfolding air_decodes air_at bytes_at
  air_own = (refl, refl)

  pub air_again : air_decodes s at ≡ true → air_bytes (air_at s at) ≡ bytes_at s at air_part_length
  unfolding air_decodes air_bytes air_at bytes_at
  air_again d = search (same_head, flag_again, radio_again, and_left, and_right, d) depth 20

  pub air_fits : Below s → (is_byte (air_at s at).session ≡ true) × (is_byte (air_at s at).slots ≡ true)
  unfolding air_at
  air_fits h = (byte_fits s h _, byte_fits s h _)
