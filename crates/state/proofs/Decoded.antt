-- The tag of bytes fits. Assumes nothing.
use mathlib.Core.Path.{◌≡◌}
use mathlib.Core.Bool.{true}
use mathlib.Core.List.{List}
use Prim.Native.Nat.{ℕ}
use lib.Dec.{eqb}
use lib.ListN.{length}
use borrow.Author.Tests.{eq-eqb}
use Rattle.parts.specs.Bytes.{bytes_at, are_bytes}
use Rattle.parts.proofs.Below.{Below, bytes_below, are_run}
use Rattle.parts.proofs.Bools.{and_both}
use Rattle.parts.proofs.Lists.{length_bytes_at}
use Rattle.state.specs.Layout.{passwords_at, tag_of}
use Rattle.state.specs.Claims.{are_eight, DecodedFits}
use Rattle.state.proofs.Air.{air_fits}
use Rattle.state.proofs.Host.{counter_fits, host_bus_fits}
use Rattle.state.proofs.Registers.{registers_fit}
use Rattle.state.proofs.Mailbox.{message_fits}

-- eight bytes of a list are a password or a UID
pub eight_run : (s : List ℕ) (at : ℕ) → Below s → are_eight (bytes_at s at 8) ≡ true
eight_run s at h =
    and_both (eqb (length (bytes_at s at 8)) 8) (are_bytes (bytes_at s at 8)) (eq-eqb (length (bytes_at s at 8)) 8 (length_bytes_at s at 8)) (are_run s at 8 h)

pub decoded_fits : DecodedFits
unfolding tag_of passwords_at
decoded_fits s are =
    let h : Below s = bytes_below s are in
    record {
      session = (air_fits s _ h).0;
      slots = (air_fits s _ h).1;
      counter = counter_fits s _ h;
      bus = host_bus_fits s _ h;
      registers = registers_fit s _ h;
      message = message_fits s _ h;
      passwords = record { i2c = eight_run s _ h; rf0 = eight_run s _ h; rf1 = eight_run s _ h; rf2 = eight_run s _ h; rf3 = eight_run s _ h };
      uid = eight_run s _ h;
    }
