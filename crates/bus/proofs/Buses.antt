-- What a pattern says of a bus. Assumes nothing.
use Rattle.std.specs.Prelude.{◌≡◌, Bool, true, ℕ, Some}
use mathlib.Core.Path.{refl}
use mathlib.Core.Logic.{◌⊎◌, inl, inr}
use Rattle.bus.specs.declared.Space.{Space}
use Rattle.bus.specs.declared.OpenTransfer.{OpenTransfer}
use Rattle.bus.specs.declared.Bus.{Bus}
use Rattle.bus.specs.declared.Bus.TheVariants.{Idle, Started, ReadLeg, WriteLeg, LowAddress, DataLeg}
use Rattle.bus.specs.Bus.{transfer_at, is_active, page_bytes}

-- in each of the four legs a transfer is open
abbrev pub IsLeg : Bus → OpenTransfer → Type 0
IsLeg b kept =
    ((space : Space) × (over : Bool) × (last : Bool) × (b ≡ ReadLeg kept space over last))
    ⊎ (((space : Space) × (b ≡ WriteLeg kept space))
    ⊎ (((space : Space) × (high : ℕ) × (b ≡ LowAddress kept space high))
    ⊎ ((space : Space) × (count : ℕ) × (spoiled : Bool) × (b ≡ DataLeg kept space count spoiled))))

pub leg_open : (b : Bus) (kept : OpenTransfer) → IsLeg b kept → Some kept ≡ transfer_at b
unfolding transfer_at
leg_open b kept (inl (space, over, last, e)) = rw e
leg_open b kept (inr (inl (space, e))) = rw e
leg_open b kept (inr (inr (inl (space, high, e)))) = rw e
leg_open b kept (inr (inr (inr (space, count, spoiled, e)))) = rw e

-- any bus but an idle one is active
pub active : (b : Bus) → (b ≡ Idle → ⊥) → true ≡ is_active b
unfolding is_active
active Idle h = absurd (h refl)
active (Started transfer) h = refl
active (ReadLeg kept space over last) h = refl
active (WriteLeg kept space) h = refl
active (LowAddress kept space high) h = refl
active (DataLeg kept space count spoiled) h = refl

-- only a write leg past its address has page bytes
pub no_page : (b : Bus) → ((kept : OpenTransfer) (space : Space) (count : ℕ) (spoiled : Bool) → b ≡ DataLeg kept space count spoiled → ⊥) → 0 ≡ page_bytes b
unfolding page_bytes
no_page Idle h = refl
no_page (Started transfer) h = refl
no_page (ReadLeg kept space over last) h = refl
no_page (WriteLeg kept space) h = refl
no_page (LowAddress kept space high) h = refl
no_page (DataLeg kept space count spoiled) h = absurd (h kept space count spoiled refl)
