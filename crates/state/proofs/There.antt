-- A tag's bytes decode, and to that tag. Assumes nothing.
use mathlib.Core.Path.{◌≡◌, ◌∙◌}
use mathlib.Core.Bool.{true}
use mathlib.Core.List.{List, ◌++◌}
use Prim.Native.Nat.{ℕ, ◌+◌}
use lib.ListN.{length, length-append}
use Rattle.parts.specs.Bytes.{bytes_at}
use Rattle.tag.specs.declared.Tag.{Tag}
use Rattle.registers.specs.Map.{register_bytes}
use Rattle.state.specs.Layout.{air_part_length, host_part_length, registers_part_length, mailbox_part_length, passwords_part_length, uid_part_length, air_part_place, host_part_place, registers_part_place, mailbox_part_place, passwords_part_place, uid_part_place, state_bytes, air_bytes, host_bytes, mailbox_bytes, password_bytes, bytes_of, decodes, tag_of}
use Rattle.state.specs.Claims.{Fits, DecodesEncoded}
use Rattle.state.proofs.Places.{bytes_at_skip, bytes_at_head, bytes_at_whole}
use Rattle.state.proofs.Air.{air_length, air_decodes_lem, air_back, air_own}
use Rattle.state.proofs.Host.{host_length, host_decodes_lem, host_back, host_own}
use Rattle.state.proofs.Registers.{registers_length, registers_back, registers_own}
use Rattle.state.proofs.Mailbox.{mailbox_length, mailbox_decodes_lem, mailbox_back, mailbox_own}
use Rattle.state.proofs.Passwords.{eight_long, eights, passwords_length, passwords_back, passwords_own}

pub bytes_length : (t : Tag) → length (password_bytes t.core.passwords) ≡ passwords_part_length → length t.uid.bytes ≡ uid_part_length → length (bytes_of t) ≡ state_bytes
unfolding bytes_of
bytes_length t p u =
    rw (length-append (air_bytes t.air), length-append (host_bytes t.host), length-append (register_bytes t.core.registers), length-append (mailbox_bytes t.core.mailbox), length-append (password_bytes t.core.passwords), air_length t.air, host_length t.host, registers_length t.core.registers, mailbox_length t.core.mailbox, p, u)

module _ (t : Tag) where
  abbrev a : List ℕ
  a = air_bytes t.air

  abbrev h : List ℕ
  h = host_bytes t.host

  abbrev r : List ℕ
  r = register_bytes t.core.registers

  abbrev m : List ℕ
  m = mailbox_bytes t.core.mailbox

  abbrev p : List ℕ
  p = password_bytes t.core.passwords

  abbrev u : List ℕ
  u = t.uid.bytes

  -- ---- what is read past a part
  past_air : (at n : ℕ) → bytes_at (bytes_of t) (air_part_length + at) n ≡ bytes_at (h ++ (r ++ (m ++ (p ++ u)))) at n
  unfolding bytes_of
  past_air at n = bytes_at_skip a _ air_part_length at n (air_length t.air)

  past_host : (at n : ℕ) → bytes_at (h ++ (r ++ (m ++ (p ++ u)))) (host_part_length + at) n ≡ bytes_at (r ++ (m ++ (p ++ u))) at n
  past_host at n = bytes_at_skip h _ host_part_length at n (host_length t.host)

  past_registers : (at n : ℕ) → bytes_at (r ++ (m ++ (p ++ u))) (registers_part_length + at) n ≡ bytes_at (m ++ (p ++ u)) at n
  past_registers at n = bytes_at_skip r _ registers_part_length at n (registers_length t.core.registers)

  past_mailbox : (at n : ℕ) → bytes_at (m ++ (p ++ u)) (mailbox_part_length + at) n ≡ bytes_at (p ++ u) at n
  past_mailbox at n = bytes_at_skip m _ mailbox_part_length at n (mailbox_length t.core.mailbox)

  -- ---- each part stands at its place
  air_there : bytes_at (bytes_of t) air_part_place air_part_length ≡ a
  unfolding bytes_of
  air_there = bytes_at_head a _ air_part_length (air_length t.air)

  host_there : bytes_at (bytes_of t) host_part_place host_part_length ≡ h
  host_there = past_air 0 host_part_length ∙ bytes_at_head h _ host_part_length (host_length t.host)

  registers_there : bytes_at (bytes_of t) registers_part_place registers_part_length ≡ r
  registers_there =
      past_air host_part_length registers_part_length
      ∙ past_host 0 registers_part_length
      ∙ bytes_at_head r _ registers_part_length (registers_length t.core.registers)

  mailbox_there : bytes_at (bytes_of t) mailbox_part_place mailbox_part_length ≡ m
  mailbox_there =
      past_air (host_part_length + registers_part_length) mailbox_part_length
      ∙ past_host registers_part_length mailbox_part_length
      ∙ past_registers 0 mailbox_part_length
      ∙ bytes_at_head m _ mailbox_part_length (mailbox_length t.core.mailbox)

  module _ (f : Fits t) where
    passwords_long : length p ≡ passwords_part_length
    passwords_long = passwords_length t.core.passwords (eights t.core.passwords f.passwords)

    passwords_there : bytes_at (bytes_of t) passwords_part_place passwords_part_length ≡ p
    passwords_there =
        past_air (host_part_length + registers_part_length + mailbox_part_length) passwords_part_length
        ∙ past_host (registers_part_length + mailbox_part_length) passwords_part_length
        ∙ past_registers mailbox_part_length passwords_part_length
        ∙ past_mailbox 0 passwords_part_length
        ∙ bytes_at_head p u passwords_part_length passwords_long

    uid_there : bytes_at (bytes_of t) uid_part_place uid_part_length ≡ u
    uid_there =
        past_air (host_part_length + registers_part_length + mailbox_part_length + passwords_part_length) uid_part_length
        ∙ past_host (registers_part_length + mailbox_part_length + passwords_part_length) uid_part_length
        ∙ past_registers (mailbox_part_length + passwords_part_length) uid_part_length
        ∙ past_mailbox passwords_part_length uid_part_length
        ∙ bytes_at_skip p u passwords_part_length 0 uid_part_length passwords_long
        ∙ bytes_at_whole u uid_part_length (eight_long u f.uid)

    all_decodes : decodes (bytes_of t) ≡ true
    unfolding decodes
    all_decodes =
        let s = bytes_of t in
        rw (bytes_length t passwords_long (eight_long u f.uid), (air_own s air_part_place).0, air_there, air_decodes_lem t.air, (host_own s host_part_place).0, host_there, host_decodes_lem t.host, (mailbox_own s mailbox_part_place).0, mailbox_there, mailbox_decodes_lem t.core.mailbox)

    all_back : tag_of (bytes_of t) ≡ t
    unfolding tag_of
    all_back =
        let s = bytes_of t in
        rw ((air_own s air_part_place).1, air_there, air_back t.air, (host_own s host_part_place).1, host_there, host_back t.host, registers_own s registers_part_place, registers_there, registers_back t.core.registers, (mailbox_own s mailbox_part_place).1, mailbox_there, mailbox_back t.core.mailbox, ← passwords_own s passwords_part_place, passwords_there, passwords_back t.core.passwords (eights t.core.passwords f.passwords), uid_there)

pub decodes_encoded : DecodesEncoded
decodes_encoded t f = (all_decodes t f, all_back t f)
