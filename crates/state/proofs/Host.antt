-- The host's part of the state, at any place: its length, its bytes, there and back. Assumes nothing.
use mathlib.Core.Path.{◌≡◌, sym, ap, ◌∙◌}
use mathlib.Core.Bool.{true}
use mathlib.Core.List.{List}
use Prim.Native.Nat.{ℕ, ◌+◌}
use native.Mathlib.Omega.{arith}
use lib.ListN.{length}
use Rattle.parts.specs.Bytes.{bytes_at, are_bytes}
use Rattle.parts.proofs.Below.{Below}
use Rattle.parts.proofs.Bools.{and_left, and_right}
use Rattle.tag.specs.declared.Host.{Host}
use Rattle.state.specs.Layout.{bus_offset, bus_length, host_part_length, bus_decodes, bus_at, host_bytes, host_decodes, host_at}
use Rattle.state.specs.Claims.{is_word, bus_fits}
use Rattle.state.proofs.Places.{same_head, bytes_at_join, bytes_at_within}
use Rattle.state.proofs.Numbers.{flag_byte_lem, low_byte_lem, high_byte_lem, word_fits, flag_fits, flag_back, flag_again, word_back, low_again, high_again}
use Rattle.state.proofs.Bus.{bus_length_lem, are_bus, bus_decodes_lem, bus_back, bus_own, bus_again, bus_fits_lem}

pub host_length : (h : Host) → length (host_bytes h) ≡ host_part_length
unfolding host_bytes
host_length h = rw (bus_length_lem h.bus)

pub host_bytes_lem : (h : Host) → is_word h.counter ≡ true → bus_fits h.bus ≡ true → are_bytes (host_bytes h) ≡ true
unfolding are_bytes host_bytes
host_bytes_lem h c b =
    simp (flag_byte_lem, low_byte_lem, high_byte_lem h.counter c, are_bus h.bus b)

pub host_decodes_lem : (h : Host) → host_decodes (host_bytes h) 0 ≡ true
unfolding host_decodes host_bytes bus_decodes
host_decodes_lem h = simp flag_fits (bus_decodes_lem h.bus)

host_bus : (h : Host) → bus_at (host_bytes h) bus_offset ≡ h.bus
unfolding host_bytes bus_at
host_bus h = bus_back h.bus

pub host_back : (h : Host) → host_at (host_bytes h) 0 ≡ h
unfolding host_at host_bytes
host_back h = simp (flag_back, word_back, host_bus h)

module _ (s : List ℕ) (at : ℕ) where
  -- the bus by the host's bytes
  bus_within : (bus_decodes s (at + bus_offset) ≡ bus_decodes (bytes_at s at host_part_length) bus_offset) × (bus_at s (at + bus_offset) ≡ bus_at (bytes_at s at host_part_length) bus_offset)
  bus_within =
      let part = bytes_at s at host_part_length in
      let e = bytes_at_within s at host_part_length bus_offset bus_length (omega arith) in
      ((bus_own s (at + bus_offset)).0 ∙ ap (λ (b : List ℕ). bus_decodes b 0) (sym e) ∙ sym (bus_own part bus_offset).0, (bus_own s (at + bus_offset)).1 ∙ ap (λ (b : List ℕ). bus_at b 0) (sym e) ∙ sym (bus_own part bus_offset).1)

  -- it looks only at its own bytes
  pub host_own : (host_decodes s at ≡ host_decodes (bytes_at s at host_part_length) 0) × (host_at s at ≡ host_at (bytes_at s at host_part_length) 0)
  unfolding host_decodes host_at bytes_at
  host_own = (rw bus_within.0, rw bus_within.1)

  pub host_again : Below s → host_decodes s at ≡ true → host_bytes (host_at s at) ≡ bytes_at s at host_part_length
  unfolding host_decodes host_bytes host_at bytes_at
  host_again h d =
      search (same_head, flag_again, low_again, high_again, bus_again s (at + bus_offset) h, h, and_left, and_right, d) depth 30
      ∙ bytes_at_join s at bus_offset bus_length

  pub counter_fits : Below s → is_word (host_at s at).counter ≡ true
  unfolding host_at
  counter_fits h = word_fits s h _ _

  pub host_bus_fits : Below s → bus_fits (host_at s at).bus ≡ true
  unfolding host_at
  host_bus_fits h = bus_fits_lem s (at + bus_offset) h
