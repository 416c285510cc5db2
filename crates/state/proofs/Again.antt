-- Bytes that decode are the bytes of the tag that they decode to. Assumes nothing.
use mathlib.Core.Path.{◌≡◌}
use mathlib.Core.Bool.{true, ◌&&◌}
use mathlib.Core.List.{List}
use Prim.Native.Nat.{ℕ, ◌+◌}
use lib.Dec.{eqb}
use lib.ListN.{length}
use borrow.Author.Tests.{eqb-true}
use Rattle.parts.proofs.Below.{bytes_below}
use Rattle.parts.proofs.Bools.{and_left, and_right}
use Rattle.state.specs.Layout.{air_part_length, host_part_length, registers_part_length, mailbox_part_length, passwords_part_length, uid_part_length, air_part_place, host_part_place, registers_part_place, mailbox_part_place, passwords_part_place, state_bytes, air_decodes, host_decodes, mailbox_decodes, bytes_of, decodes, tag_of}
use Rattle.state.specs.Claims.{EncodesDecoded}
use Rattle.state.proofs.Places.{bytes_at_whole, bytes_at_join}
use Rattle.state.proofs.Air.{air_again}
use Rattle.state.proofs.Host.{host_again}
use Rattle.state.proofs.Registers.{registers_again}
use Rattle.state.proofs.Mailbox.{mailbox_again}
use Rattle.state.proofs.Passwords.{passwords_again}

-- the parts of bytes that decode
pub record Parted (s : List ℕ) : Type 0 where
  pub long : eqb (length s) state_bytes ≡ true
  pub air : air_decodes s air_part_place ≡ true
  pub host : host_decodes s host_part_place ≡ true
  pub mailbox : mailbox_decodes s mailbox_part_place ≡ true

pub parted : (s : List ℕ) → decodes s ≡ true → Parted s
unfolding decodes
parted s d =
    let n = eqb (length s) state_bytes in
    let a = air_decodes s air_part_place in
    let h = host_decodes s host_part_place in
    let m = mailbox_decodes s mailbox_part_place in
    let d2 = and_left (n && a && h) m d in
    let d1 = and_left (n && a) h d2 in
    record {
      long = and_left n a d1;
      air = and_right n a d1;
      host = and_right (n && a) h d2;
      mailbox = and_right (n && a && h) m d;
    }

pub encodes_decoded : EncodesDecoded
unfolding bytes_of tag_of
encodes_decoded s are d =
    let p = parted s d in
    let h = bytes_below s are in
    let past_mailbox = passwords_part_length + uid_part_length in
    let past_registers = mailbox_part_length + past_mailbox in
    let past_host = registers_part_length + past_registers in
    let past_air = host_part_length + past_host in
    rw (air_again s air_part_place p.air, host_again s host_part_place h p.host, registers_again s registers_part_place, mailbox_again s mailbox_part_place h p.mailbox, passwords_again s passwords_part_place, bytes_at_join s passwords_part_place passwords_part_length uid_part_length, bytes_at_join s mailbox_part_place mailbox_part_length past_mailbox, bytes_at_join s registers_part_place registers_part_length past_registers, bytes_at_join s host_part_place host_part_length past_host, bytes_at_join s air_part_place air_part_length past_air) (bytes_at_whole s state_bytes (eqb-true (length s) state_bytes p.long))
