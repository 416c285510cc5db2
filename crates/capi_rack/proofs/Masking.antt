-- The bits of the tags that answered, one after the other. Assumes nothing.
use mathlib.Core.Path.{◌≡◌, refl, sym, ap, ◌∙◌}
use mathlib.Core.Bool.{Bool, true, false}
use mathlib.Core.List.{List, [], ◌∷◌}
use Prim.Native.Nat.{ℕ, suc, ◌+◌, ◌*◌, ◌^◌, ◌<◌, ◌≤◌}
use native.Mathlib.Omega.{arith}
use lib.ListN.{length, get_or, drop}
use lib.Seq.{drop-cons, drop-length}
use lib.Pow.{pow_mono, pow-add}
use Rattle.parts.specs.Pick.{pick}
use Rattle.rack.specs.Step.{numbers_from}
use Rattle.capi_rack.specs.RackInterface.{mask_of}

-- i of them are noted in the mask, and the next one's bit is known
pub record Masking (flags : List Bool) (mask bit i : ℕ) : Type 0 where
  pub left : mask + mask_of (numbers_from i (drop i flags)) ≡ mask_of (numbers_from 0 flags)
  pub power : bit ≡ 2 ^ i
  pub below : mask < bit
  pub few : i ≤ 16

pub masking_starts : (flags : List Bool) → Masking flags 0 1 0
masking_starts flags = record { left = omega arith; power = refl; below = omega arith; few = omega arith }

-- no bit is above the sixteenth
pub small : (flags : List Bool) (mask bit i : ℕ) → Masking flags mask bit i → bit ≤ 65536
small flags mask bit i h =
    let most : 2 ^ i ≤ 65536 = pow_mono {i = i} {j = 16} h.few in
    omega (arith, h.power, most)

one_more : (on : Bool) (i : ℕ) (flags : List Bool) → mask_of (numbers_from i (on ∷ flags)) ≡ pick on (2 ^ i) 0 + mask_of (numbers_from (suc i) flags)
unfolding numbers_from mask_of pick
one_more true i flags = refl
one_more false i flags = omega arith

pub picked : (on : Bool) (bit : ℕ) → pick on bit 0 ≤ bit
unfolding pick
picked true bit = omega arith
picked false bit = omega arith

pub masking_more : (flags : List Bool) (mask bit i n : ℕ) (z : Bool) → Masking flags mask bit i → i < length flags → length flags ≡ 16 → n ≡ pick (get_or flags i z) bit 0
    → Masking flags (mask + n) (bit * 2) (i + 1)
masking_more flags mask bit i n z h l number f =
    let on = get_or flags i z in
    let next : i + 1 ≡ suc i = omega arith in
    let split = ap (λ (x : List Bool). mask_of (numbers_from i x)) (drop-cons flags i z l) ∙ one_more on i (drop (suc i) flags) in
    let this : n ≡ pick on (2 ^ i) 0 = f ∙ ap (λ (k : ℕ). pick on k 0) h.power in
    let rest : mask_of (numbers_from (i + 1) (drop (i + 1) flags)) ≡ mask_of (numbers_from (suc i) (drop (suc i) flags)) = ap (λ (k : ℕ). mask_of (numbers_from k (drop k flags))) next in
    let most = picked on bit in
    record {
      left = omega (arith, h.left, split, this, rest);
      power = ap (λ (k : ℕ). k * 2) h.power ∙ sym (pow-add 2 i 1);
      below = omega (arith, h.below, most, f);
      few = omega arith;
    }

pub masking_ends : (flags : List Bool) (mask bit i : ℕ) → Masking flags mask bit i → i ≡ length flags → mask ≡ mask_of (numbers_from 0 flags)
unfolding numbers_from mask_of
masking_ends flags mask bit i h e =
    let none : mask_of (numbers_from i (drop i flags)) ≡ 0 = ap (λ (k : ℕ). mask_of (numbers_from i (drop k flags))) e ∙ ap (λ (x : List Bool). mask_of (numbers_from i x)) (drop-length flags) in
    omega (arith, h.left, none)
