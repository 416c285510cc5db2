-- Parts stored one after the other are the whole stored. Assumes nothing.
use mathlib.Core.Path.{◌≡◌, refl, ap, ◌∙◌}
use mathlib.Core.Bool.{Bool, true, false}
use mir.Val.{bool_byte}
use Rattle.parts.specs.Pick.{pick}
use mathlib.Core.List.{List, ◌++◌}
use Prim.Native.Nat.{ℕ, ◌+◌, ◌<◌}
use native.Mathlib.Omega.{arith}
use lib.ListN.{length, get_or}
use Rattle.std.specs.Int.{to_le_bytes, w16}
use lib.Seq.{sets}
use Rattle.parts.specs.Bytes.{bytes_at}
use Rattle.keys.specs.declared.Passwords.{Passwords}
use Rattle.tag.specs.declared.Host.{Host}
use Rattle.tag.specs.declared.Tag.{Tag}
use Rattle.registers.specs.Map.{register_bytes}
use Rattle.state.specs.Layout.{flag_byte, low_byte, high_byte, bus_offset, bus_length, air_part_length, host_part_length, registers_part_length, mailbox_part_length, passwords_part_length, air_part_place, host_part_place, registers_part_place, mailbox_part_place, passwords_part_place, uid_part_place, air_bytes, bus_bytes, host_bytes, mailbox_bytes, password_bytes, bytes_of}
use Rattle.state.proofs.Places.{bytes_at_whole, sets_then, sets_next}
use Rattle.state.proofs.Air.{air_length}
use Rattle.state.proofs.Bus.{bus_length_lem}
use Rattle.state.proofs.Host.{host_length}
use Rattle.state.proofs.Registers.{registers_length}
use Rattle.state.proofs.Mailbox.{mailbox_length}
use Rattle.state.proofs.Passwords.{Eights}

-- the host's bytes before the bus, and the bus
pub host_stored : (h : Host) (s : List ℕ) (at : ℕ) (front leg r₁ r₂ : List ℕ) → front ++ bus_bytes h.bus ≡ host_bytes h → length front ≡ bus_offset → leg ≡ bus_bytes h.bus
    → r₁ ≡ sets s at (bytes_at front 0 bus_offset) → r₂ ≡ sets r₁ (at + bus_offset) (bytes_at leg 0 bus_length) → r₂ ≡ sets s at (host_bytes h)
host_stored h s at front leg r₁ r₂ e n el e₁ e₂ =
    e₂
    ∙ ap (λ (b : List ℕ). sets r₁ (at + bus_offset) b) (bytes_at_whole leg bus_length (ap length el ∙ bus_length_lem h.bus) ∙ el)
    ∙ ap (λ (m : List ℕ). sets m (at + bus_offset) (bus_bytes h.bus)) (e₁ ∙ ap (sets s at) (bytes_at_whole front bus_offset n))
    ∙ sets_then front (bus_bytes h.bus) s at bus_offset n
    ∙ ap (sets s at) e

-- the five passwords
pub passwords_stored : (p : Passwords) (s : List ℕ) (at : ℕ) (r₁ r₂ r₃ r₄ r₅ : List ℕ) → Eights p → r₁ ≡ sets s at p.i2c.bytes
    → r₂ ≡ sets r₁ (at + 8) p.rf0.bytes → r₃ ≡ sets r₂ (at + 16) p.rf1.bytes → r₄ ≡ sets r₃ (at + 24) p.rf2.bytes → r₅ ≡ sets r₄ (at + 32) p.rf3.bytes
    → r₅ ≡ sets s at (password_bytes p)
unfolding password_bytes
passwords_stored p s at r₁ r₂ r₃ r₄ r₅ e e₁ e₂ e₃ e₄ e₅ =
    let i = p.i2c.bytes in
    let a = p.rf0.bytes in
    let b = p.rf1.bytes in
    let c = p.rf2.bytes in
    let d = p.rf3.bytes in
    e₅
    ∙ ap (λ (m : List ℕ). sets m (at + 32) d) e₄
    ∙ sets_next c d r₃ (at + 24) (at + 32) 8 e.rf2 (omega arith)
    ∙ ap (λ (m : List ℕ). sets m (at + 24) (c ++ d)) e₃
    ∙ sets_next b (c ++ d) r₂ (at + 16) (at + 24) 8 e.rf1 (omega arith)
    ∙ ap (λ (m : List ℕ). sets m (at + 16) (b ++ (c ++ d))) e₂
    ∙ sets_next a (b ++ (c ++ d)) r₁ (at + 8) (at + 16) 8 e.rf0 (omega arith)
    ∙ ap (λ (m : List ℕ). sets m (at + 8) (a ++ (b ++ (c ++ d)))) e₁
    ∙ sets_then i (a ++ (b ++ (c ++ d))) s at 8 e.i2c

-- all parts
pub tag_stored : (t : Tag) (s r₁ r₂ r₃ r₄ r₅ r₆ : List ℕ) → length (password_bytes t.core.passwords) ≡ passwords_part_length → r₁ ≡ sets s air_part_place (air_bytes t.air) → r₂ ≡ sets r₁ host_part_place (host_bytes t.host)
    → r₃ ≡ sets r₂ registers_part_place (register_bytes t.core.registers) → r₄ ≡ sets r₃ mailbox_part_place (mailbox_bytes t.core.mailbox)
    → r₅ ≡ sets r₄ passwords_part_place (password_bytes t.core.passwords) → r₆ ≡ sets r₅ uid_part_place t.uid.bytes → r₆ ≡ sets s air_part_place (bytes_of t)
unfolding bytes_of
tag_stored t s r₁ r₂ r₃ r₄ r₅ r₆ e e₁ e₂ e₃ e₄ e₅ e₆ =
    let h = host_bytes t.host in
    let r = register_bytes t.core.registers in
    let m = mailbox_bytes t.core.mailbox in
    let p = password_bytes t.core.passwords in
    let u = t.uid.bytes in
    e₆
    ∙ ap (λ (o : List ℕ). sets o uid_part_place u) e₅
    ∙ sets_then p u r₄ passwords_part_place passwords_part_length e
    ∙ ap (λ (o : List ℕ). sets o passwords_part_place (p ++ u)) e₄
    ∙ sets_then m (p ++ u) r₃ mailbox_part_place mailbox_part_length (mailbox_length t.core.mailbox)
    ∙ ap (λ (o : List ℕ). sets o mailbox_part_place (m ++ (p ++ u))) e₃
    ∙ sets_then r (m ++ (p ++ u)) r₂ registers_part_place registers_part_length (registers_length t.core.registers)
    ∙ ap (λ (o : List ℕ). sets o registers_part_place (r ++ (m ++ (p ++ u)))) e₂
    ∙ sets_then h (r ++ (m ++ (p ++ u))) r₁ host_part_place host_part_length (host_length t.host)
    ∙ ap (λ (o : List ℕ). sets o host_part_place (h ++ (r ++ (m ++ (p ++ u))))) e₁
    ∙ sets_then (air_bytes t.air) (h ++ (r ++ (m ++ (p ++ u)))) s air_part_place air_part_length (air_length t.air)

-- a flag as a byte
pub byte_of_flag : (on : Bool) → bool_byte on ≡ flag_byte on
unfolding flag_byte pick
byte_of_flag true = refl
byte_of_flag false = refl

-- a number of two bytes, lowest first
pub first_of_le : (n : ℕ) → get_or (to_le_bytes w16 n) 0 0 ≡ low_byte n
first_of_le n = omega arith

pub second_of_le : (n : ℕ) → n < 65536 → get_or (to_le_bytes w16 n) 1 0 ≡ high_byte n
second_of_le n h = omega arith
