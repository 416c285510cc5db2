-- Selects and addresses.
use Rattle.std.specs.Prelude.{ℕ, ◌+◌, ◌-◌, ◌*◌, ◌%◌, Bool, not, ◌||◌, ◌==◌}
use Rattle.parts.specs.Pick.{pick}
use Rattle.bus.specs.declared.Space.TheVariants.{User, System}
use Rattle.select.specs.declared.Choice.{Choice}
use Rattle.select.specs.declared.Choice.TheVariants.{NotAcked, Reading, Writing}

-- "A6h/A7h select user space for write/read, AEh/AFh system space. Another select byte .. NoAck."
unfoldable pub select_of : ℕ → Choice
select_of x =
    pick (x == 0xA6) (Writing User)
    (pick (x == 0xA7) (Reading User)
    (pick (x == 0xAE) (Writing System)
    (pick (x == 0xAF) (Reading System)
    NotAcked)))

-- "or programming under way, or no VCC: NoAck"
unfoldable pub choose : Bool → Bool → ℕ → Choice
choose vcc programming x = pick (programming || not vcc) NotAcked (select_of x)

-- "two address bytes, high first .. which set the counter"
abbrev pub address : ℕ → ℕ → ℕ
address high low = (high * 256 + low) % 65536

-- the first address of a write leg whose page has k bytes, by its counter
unfoldable pub first_of : ℕ → ℕ → ℕ
first_of counter k = (counter + 65536 - k) % 65536
