-- The bus in the state, at any place: its length, its bytes, there and back. Assumes nothing.
use Rattle.std.specs.Prelude.{Option, Some, None}
use Rattle.bus.specs.declared.OpenTransfer.{OpenTransfer}
use mathlib.Core.Path.{◌≡◌, refl, ◌∙◌}
use mathlib.Core.Bool.{Bool, true, false, ◌&&◌, ◌||◌}
use mathlib.Core.List.{List, [], ◌∷◌}
use Prim.Native.Nat.{ℕ, zero, suc, ◌+◌, ◌<◌}
use native.Mathlib.Omega.{arith}
use lib.Dec.{eqb, leb}
use lib.ListN.{length, get_or}
use borrow.Author.Tests.{eqb-true, leb-true}
use Rattle.parts.specs.Pick.{pick}
use Rattle.parts.specs.Bytes.{bytes_at, are_bytes}
use Rattle.parts.proofs.Below.{Below}
use Rattle.parts.proofs.Bools.{and_left, and_right}
use Rattle.parts.proofs.Picks.{pick_case}
use Rattle.bus.specs.declared.Bus.{Bus}
use Rattle.bus.specs.declared.Bus.TheVariants.{Idle, Started, ReadLeg, WriteLeg, LowAddress, DataLeg}
use Rattle.bus.specs.Bus.{is_open_transfer, transfer_at}
use Rattle.state.specs.Layout.{bus_length, flag_byte, is_flag, flag_of, word_of, space_of, transfer_byte, bus_bytes, used_or0, is_bus, open_transfer_of, bus_of, bus_decodes, bus_at}
use Rattle.state.specs.Claims.{is_byte, is_word, transfer_fits, leg_fits, bus_fits}
use Rattle.state.proofs.Numbers.{flag_byte_lem, space_byte, low_byte_lem, high_byte_lem, byte_fits, word_fits, flag_fits, flag_back, flag_again, space_fits, space_back, space_again, word_back, low_again, high_again}

pub bus_length_lem : (b : Bus) → length (bus_bytes b) ≡ bus_length
unfolding bus_bytes
bus_length_lem Idle = refl
bus_length_lem (Started transfer) = refl
bus_length_lem (ReadLeg kept space over last) = refl
bus_length_lem (WriteLeg kept space) = refl
bus_length_lem (LowAddress kept space high) = refl
bus_length_lem (DataLeg kept space count spoiled) = refl

pub bus_decodes_lem : (b : Bus) → bus_decodes (bus_bytes b) 0 ≡ true
unfolding bus_decodes bus_bytes transfer_byte is_open_transfer flag_byte pick is_bus
bus_decodes_lem Idle = refl
bus_decodes_lem (Started None) = refl
bus_decodes_lem (Started (Some kept)) = refl
bus_decodes_lem (ReadLeg kept space over last) = rw (space_fits space, flag_fits over, flag_fits last)
bus_decodes_lem (WriteLeg kept space) = rw (space_fits space)
bus_decodes_lem (LowAddress kept space high) = rw (space_fits space)
bus_decodes_lem (DataLeg kept space count spoiled) = rw (space_fits space, flag_fits spoiled)

pub bus_back : (b : Bus) → bus_at (bus_bytes b) 0 ≡ b
unfolding bus_at bus_bytes transfer_byte is_open_transfer bus_of flag_byte pick
bus_back Idle = refl
bus_back (Started None) = refl
bus_back (Started (Some kept)) = refl
bus_back (ReadLeg kept space over last) = rw (space_back space, flag_back over, flag_back last)
bus_back (WriteLeg kept space) = rw (space_back space)
bus_back (LowAddress kept space high) = rw (space_back space)
bus_back (DataLeg kept space count spoiled) = rw (space_back space, flag_back spoiled, word_back count)

transfer_byte_lem : (transfer : Option OpenTransfer) → transfer_fits transfer ≡ true → is_byte (transfer_byte transfer) ≡ true
unfolding transfer_fits transfer_byte
transfer_byte_lem None h = refl
transfer_byte_lem (Some kept) h = h

pub are_bus : (b : Bus) → bus_fits b ≡ true → are_bytes (bus_bytes b) ≡ true
unfolding are_bytes bus_bytes transfer_fits leg_fits bus_fits transfer_at
are_bus Idle h = refl
are_bus (Started transfer) h = rw (flag_byte_lem (is_open_transfer transfer), transfer_byte_lem transfer (and_left (transfer_fits transfer) true h))
are_bus (ReadLeg kept space over last) h = rw (space_byte space, flag_byte_lem over, flag_byte_lem last, and_left (is_byte kept.dynamic.bits) true h)
are_bus (WriteLeg kept space) h = rw (space_byte space, and_left (is_byte kept.dynamic.bits) true h)
are_bus (LowAddress kept space high) h = rw (space_byte space, and_left (is_byte kept.dynamic.bits) (is_byte high) h, and_right (is_byte kept.dynamic.bits) (is_byte high) h)
are_bus (DataLeg kept space count spoiled) h =
    rw (space_byte space, flag_byte_lem spoiled, low_byte_lem count, and_left (is_byte kept.dynamic.bits) (is_word count) h, high_byte_lem count (and_right (is_byte kept.dynamic.bits) (is_word count) h))

-- ---- from its bytes
record Bused (kind space flag last high low top dynamic : ℕ) : Type 0 where
  number : leb kind 5 ≡ true
  space_is : is_flag space ≡ true
  space_used : used_or0 (leb 2 kind) space ≡ true
  flag_is : is_flag flag ≡ true
  flag_used : used_or0 (eqb kind 1 || eqb kind 2 || eqb kind 5) flag ≡ true
  last_is : is_flag last ≡ true
  last_used : used_or0 (eqb kind 2) last ≡ true
  high_used : used_or0 (eqb kind 4) high ≡ true
  low_used : used_or0 (eqb kind 5) low ≡ true
  top_used : used_or0 (eqb kind 5) top ≡ true
  dynamic_used : used_or0 (leb 2 kind || (eqb kind 1 && flag_of flag)) dynamic ≡ true

bused : (kind space flag last high low top dynamic : ℕ) → is_bus kind space flag last high low top dynamic ≡ true → Bused kind space flag last high low top dynamic
unfolding is_bus
bused kind space flag last high low top dynamic h =
    let n = leb kind 5 in
    let s = is_flag space && used_or0 (leb 2 kind) space in
    let f = is_flag flag && used_or0 (eqb kind 1 || eqb kind 2 || eqb kind 5) flag in
    let l = is_flag last && used_or0 (eqb kind 2) last in
    let h4 = used_or0 (eqb kind 4) high in
    let h5 = used_or0 (eqb kind 5) low in
    let h6 = used_or0 (eqb kind 5) top in
    let h7 = used_or0 (leb 2 kind || (eqb kind 1 && flag_of flag)) dynamic in
    let p7 = and_left (n && s && f && l && h4 && h5 && h6) h7 h in
    let p6 = and_left (n && s && f && l && h4 && h5) h6 p7 in
    let p5 = and_left (n && s && f && l && h4) h5 p6 in
    let p4 = and_left (n && s && f && l) h4 p5 in
    let p3 = and_left (n && s && f) l p4 in
    let p2 = and_left (n && s) f p3 in
    let is = and_right n s p2 in
    let if- = and_right (n && s) f p3 in
    let il = and_right (n && s && f) l p4 in
    record {
      number = and_left n s p2;
      space_is = and_left (is_flag space) _ is;
      space_used = and_right (is_flag space) _ is;
      flag_is = and_left (is_flag flag) _ if-;
      flag_used = and_right (is_flag flag) _ if-;
      last_is = and_left (is_flag last) _ il;
      last_used = and_right (is_flag last) _ il;
      high_used = and_right (n && s && f && l) h4 p5;
      low_used = and_right (n && s && f && l && h4) h5 p6;
      top_used = and_right (n && s && f && l && h4 && h5) h6 p7;
      dynamic_used = and_right (n && s && f && l && h4 && h5 && h6) h7 h;
    }

-- the eight bytes again, kind by kind
module _ (space flag last high low top dynamic : ℕ) (l : low < 256) where
  abbrev Again : ℕ → Type 0
  Again kind = bus_bytes (bus_of kind (open_transfer_of dynamic) (space_of space) (flag_of flag) (flag_of last) high (word_of low top)) ≡ kind ∷ space ∷ flag ∷ last ∷ high ∷ low ∷ top ∷ dynamic ∷ []

  again_0 : Bused 0 space flag last high low top dynamic → Again 0
  unfolding bus_bytes bus_of pick
  again_0 b = rw (eqb-true space 0 b.space_used, eqb-true flag 0 b.flag_used, eqb-true last 0 b.last_used, eqb-true high 0 b.high_used, eqb-true low 0 b.low_used, eqb-true top 0 b.top_used, eqb-true dynamic 0 b.dynamic_used)

  -- a started bus keeps the byte only with a transfer open
  started_again : (open- : Bool) → used_or0 open- dynamic ≡ true → bus_bytes (Started (pick open- (Some (open_transfer_of dynamic)) None)) ≡ 1 ∷ 0 ∷ flag_byte open- ∷ 0 ∷ 0 ∷ 0 ∷ 0 ∷ dynamic ∷ []
  unfolding bus_bytes transfer_byte is_open_transfer pick
  started_again true h = refl
  started_again false h = rw (eqb-true dynamic 0 h)

  again_1 : Bused 1 space flag last high low top dynamic → Again 1
  unfolding bus_of pick
  again_1 b =
      started_again (flag_of flag) b.dynamic_used
      ∙ rw (eqb-true space 0 b.space_used, flag_again flag b.flag_is, eqb-true last 0 b.last_used, eqb-true high 0 b.high_used, eqb-true low 0 b.low_used, eqb-true top 0 b.top_used)

  again_2 : Bused 2 space flag last high low top dynamic → Again 2
  unfolding bus_bytes bus_of pick
  again_2 b = rw (space_again space b.space_is, flag_again flag b.flag_is, flag_again last b.last_is, eqb-true high 0 b.high_used, eqb-true low 0 b.low_used, eqb-true top 0 b.top_used)

  again_3 : Bused 3 space flag last high low top dynamic → Again 3
  unfolding bus_bytes bus_of pick
  again_3 b = rw (space_again space b.space_is, eqb-true flag 0 b.flag_used, eqb-true last 0 b.last_used, eqb-true high 0 b.high_used, eqb-true low 0 b.low_used, eqb-true top 0 b.top_used)

  again_4 : Bused 4 space flag last high low top dynamic → Again 4
  unfolding bus_bytes bus_of pick
  again_4 b = rw (space_again space b.space_is, eqb-true flag 0 b.flag_used, eqb-true last 0 b.last_used, eqb-true low 0 b.low_used, eqb-true top 0 b.top_used)

  again_5 : Bused 5 space flag last high low top dynamic → Again 5
  unfolding bus_bytes bus_of pick
  again_5 b = rw (space_again space b.space_is, flag_again flag b.flag_is, eqb-true last 0 b.last_used, eqb-true high 0 b.high_used, low_again low top l, high_again low top l)

  again : (kind : ℕ) → Bused kind space flag last high low top dynamic → Again kind
  again zero b = again_0 b
  again (suc zero) b = again_1 b
  again (suc (suc zero)) b = again_2 b
  again (suc (suc (suc zero))) b = again_3 b
  again (suc (suc (suc (suc zero)))) b = again_4 b
  again (suc (suc (suc (suc (suc zero))))) b = again_5 b
  again (suc (suc (suc (suc (suc (suc k)))))) b = absurd (omega (arith, leb-true (suc (suc (suc (suc (suc (suc k)))))) 5 b.number))

module _ (s : List ℕ) (at : ℕ) where
  -- it looks only at its own bytes
  pub bus_own : (bus_decodes s at ≡ bus_decodes (bytes_at s at bus_length) 0) × (bus_at s at ≡ bus_at (bytes_at s at bus_length) 0)
  unfolding bus_decodes bus_at bytes_at
  bus_own = (refl, refl)

  pub bus_again : Below s → bus_decodes s at ≡ true → bus_bytes (bus_at s at) ≡ bytes_at s at bus_length
  unfolding bus_decodes bus_at bytes_at
  bus_again h d =
      again (get_or s (at + 1) 0) (get_or s (at + 2) 0) (get_or s (at + 3) 0) (get_or s (at + 4) 0) (get_or s (at + 5) 0) (get_or s (at + 6) 0) (get_or s (at + 7) 0) (h (at + 5)) (get_or s (at + 0) 0) (bused (get_or s (at + 0) 0) (get_or s (at + 1) 0) (get_or s (at + 2) 0) (get_or s (at + 3) 0) (get_or s (at + 4) 0) (get_or s (at + 5) 0) (get_or s (at + 6) 0) (get_or s (at + 7) 0) d)

  pub bus_fits_lem : Below s → bus_fits (bus_at s at) ≡ true
  unfolding bus_at bus_of transfer_fits leg_fits bus_fits transfer_at
  bus_fits_lem h =
      let P : Bus → Type 0 = λ b. bus_fits b ≡ true in
      let kept = byte_fits s h (at + 7) in
      pick_case P _ _ _ (λ _. pick_case (λ (x : Option OpenTransfer). P (Started x)) _ _ _ (λ _. rw kept) (λ _. refl))
      (λ _. pick_case P _ _ _ (λ _. rw kept)
      (λ _. pick_case P _ _ _ (λ _. rw kept)
      (λ _. pick_case P _ _ _ (λ _. rw (kept, byte_fits s h (at + 4))) (λ _. pick_case P _ _ _ (λ _. rw (kept, word_fits s h (at + 5) (at + 6))) (λ _. refl)))))
