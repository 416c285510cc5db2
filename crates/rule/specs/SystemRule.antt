-- Whether a data byte is Acked in system space: byte x, the leg's data byte k (from 0), of a write leg from a first address, after its earlier bytes.
use Rattle.std.specs.Prelude.{Bool, not, ◌&&◌, ◌||◌, List, ℕ, ◌+◌, ltb, eqb}
use Rattle.parts.specs.Pick.{pick}
use Rattle.register_table.specs.Table.{is_writable}
use Rattle.write_rules.specs.Passed.{written_all, end_allows, Core}

-- "system, MB_EN is 0, session open, register writable, ENDA rule met with the leg's earlier bytes taken as written"
unfoldable pub register_acked : Core → Bool → ℕ → ℕ → List ℕ → ℕ → Bool
register_acked c session first k earlier x =
    not c.mailbox.enabled
    && session
    && is_writable (first + k)
    && end_allows (written_all c.registers first earlier).ends (first + k) x

-- "Password leg, AEh, 0900h, 17 bytes: eight, a code, eight again. Code 09h presents .. Code 07h writes: Acked only with the session open and MB_EN 0
-- .. Another code, or an 18th byte, is NoAcked."
unfoldable pub password_acked : Core → Bool → ℕ → ℕ → Bool
password_acked c session k x =
    pick (eqb k 8) (eqb x 0x09 || (eqb x 0x07 && session && not c.mailbox.enabled))
    (ltb k 17)

unfoldable pub system_acked : Core → Bool → ℕ → ℕ → List ℕ → ℕ → Bool
system_acked c session first k earlier x =
    pick (eqb first 0x0900) (password_acked c session k x)
    (register_acked c session first k earlier x)
