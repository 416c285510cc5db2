-- Which reasons each side can be given, and that a block by radio is allowed as its rights say. Assumes nothing.
use mathlib.Core.Path.{◌≡◌, refl, ap}
use mathlib.Core.Bool.{Bool, true, false, not, ◌&&◌, ◌||◌}
use mathlib.Core.List.{List}
use Prim.Native.Nat.{ℕ, ◌*◌, ◌<◌}
use native.Mathlib.Omega.{arith}
use lib.Dec.{ltb, eqb}
use borrow.Author.Tests.{lt-leb, le-leb, ltb-true, ltb-false, eqb-true, eqb-false}
use Rattle.std.specs.Prelude.{⊤, Result, Err, is_ok}
use Rattle.parts.specs.Pick.{pick}
use Rattle.parts.proofs.Picks.{pick_case}
use Rattle.written_registers.specs.Passed.{is_pointer, Core, page}
use Rattle.rights.specs.Passed.{area_of_block}
use Rattle.rights.specs.declared.Side.TheVariants.{Radio}
use Rattle.rights.specs.Rights.{security_of, setting, radio_writes, is_locked, write_right, may_write}
use Rattle.write_reasons.specs.declared.WritePlace.{WritePlace}
use Rattle.write_reasons.specs.declared.WritePlace.TheVariants.{Unmapped, UserMemory, DynamicByte, MailboxByte, SystemRegister, PasswordByte}
use Rattle.write_reasons.specs.declared.WriteReason.{WriteReason}
use Rattle.write_reasons.specs.declared.WriteAsked.TheVariants.{DataByte, Block, Pointer, PasswordOf}
use Rattle.write_reasons.proofs.Laws.{allowed_pick}
use Rattle.write_rules.specs.Situation.{byte_at, radio_at, byte_place, block_place, block_situation, pointer_place, password_place}
use Rattle.write_rules.specs.Conditions.{needs_session}
use Rattle.write_rules.specs.Verdict.{write_verdict}
use Rattle.write_rules.specs.Claims.{of_radio, of_wire, gives_only, side_gives, EachSideItsReasons, BlockAllowed}
use Rattle.write_rules.proofs.Chain.{spoiled_chain, unmapped_chain, memory_chain, dynamic_chain, mailbox_chain, register_chain, password_chain, radio_unmapped, block_chain, pointer_chain, password_number_chain}

-- a choice between a reason that passes and what passes
gives : (test : WriteReason → Bool) (b : Bool) (reason : WriteReason) (v : Result ⊤ WriteReason) → test reason ≡ true → gives_only test v ≡ true → gives_only test (pick b (Err reason) v) ≡ true
unfolding pick
gives test true reason v h g = h
gives test false reason v h g = g

-- ---- by the wire, place by place
module _ (c : Core) (session : Bool) (first k : ℕ) (earlier : List ℕ) (x : ℕ) where
  wire_gives : (spoiled : Bool) (place : WritePlace) → gives_only of_wire (write_verdict (byte_at place c session spoiled first k earlier x)) ≡ true
  wire_gives true place = rw (spoiled_chain c session first k earlier x place)
  wire_gives false Unmapped = rw unmapped_chain
  wire_gives false UserMemory = rw memory_chain (gives of_wire _ _ _ refl (gives of_wire _ _ _ refl (gives of_wire _ _ _ refl (gives of_wire _ _ _ refl (gives of_wire _ _ _ refl refl)))))
  wire_gives false DynamicByte = rw dynamic_chain (gives of_wire _ _ _ refl (gives of_wire _ _ _ refl refl))
  wire_gives false MailboxByte = rw mailbox_chain (gives of_wire _ _ _ refl (gives of_wire _ _ _ refl (gives of_wire _ _ _ refl (gives of_wire _ _ _ refl refl))))
  wire_gives false SystemRegister = rw register_chain (gives of_wire _ _ _ refl (gives of_wire _ _ _ refl (gives of_wire _ _ _ refl (gives of_wire _ _ _ refl (gives of_wire _ _ _ refl refl)))))
  wire_gives false PasswordByte = rw password_chain (gives of_wire _ _ _ refl (gives of_wire _ _ _ refl (gives of_wire _ _ _ refl (gives of_wire _ _ _ refl refl))))

-- ---- by radio
module _ (c : Core) (session : ℕ) where
  block_gives : (block : ℕ) → gives_only of_radio (write_verdict (radio_at UserMemory c session (4 * block) block 0)) ≡ true
  block_gives block =
      rw (block_chain c session (4 * block) block 0 _ refl) (gives of_radio _ _ _ refl (gives of_radio _ _ _ refl (gives of_radio _ _ _ refl refl)))

  pointer_gives : (pointer x : ℕ) → is_pointer pointer ≡ true → gives_only of_radio (write_verdict (radio_at SystemRegister c session pointer 0 x)) ≡ true
  pointer_gives pointer x h =
      rw (pointer_chain c session pointer 0 x h) (gives of_radio _ _ _ refl (gives of_radio _ _ _ refl (gives of_radio _ _ _ refl refl)))

  radio_place : (address block x : ℕ) (b : Bool) (p q : WritePlace) → (b ≡ true → gives_only of_radio (write_verdict (radio_at p c session address block x)) ≡ true)
      → (b ≡ false → gives_only of_radio (write_verdict (radio_at q c session address block x)) ≡ true) → gives_only of_radio (write_verdict (radio_at (pick b p q) c session address block x)) ≡ true
  radio_place address block x b p q f g =
      pick_case (λ (place : WritePlace). gives_only of_radio (write_verdict (radio_at place c session address block x)) ≡ true) b p q f g

pub each_side_its_reasons : EachSideItsReasons
unfolding side_gives block_place pointer_place password_place
each_side_its_reasons c m (DataByte b) = wire_gives c b.session b.first b.k (page b.k m) b.x b.spoiled (byte_place b.space b.first b.k)
each_side_its_reasons c m (Block session block) =
    radio_place c session (4 * block) block 0 _ Unmapped UserMemory (λ h. rw radio_unmapped) (λ h. block_gives c session block)
each_side_its_reasons c m (Pointer session pointer x) =
    radio_place c session pointer 0 x _ SystemRegister Unmapped (λ h. pointer_gives c session pointer x h) (λ h. rw radio_unmapped)
each_side_its_reasons c m (PasswordOf session n) =
    radio_place c session n 0 0 _ Unmapped PasswordByte (λ h. rw radio_unmapped) (λ h. rw password_number_chain (gives of_radio _ _ _ refl refl))

-- ---- a block of the memory
-- "0 read and write free; 1 write needs the session; 2 read and write need it; 3 .. write never", n being one of the four
settings : (n : ℕ) (s0 s1 s2 s3 opened : Bool) → n < 4 → eqb n 0 ≡ s0 → eqb n 1 ≡ s1 → eqb n 2 ≡ s2 → eqb n 3 ≡ s3
    → (not s3 && (not ((s1 || s2) && not opened) && true)) ≡ pick s0 true (pick s3 false opened)
unfolding pick
settings n true s1 s2 true opened l e0 e1 e2 e3 = absurd (omega (arith, eqb-true n 0 e0, eqb-true n 3 e3))
settings n false s1 s2 true opened l e0 e1 e2 e3 = refl
settings n true true s2 false opened l e0 e1 e2 e3 = absurd (omega (arith, eqb-true n 0 e0, eqb-true n 1 e1))
settings n true false true false opened l e0 e1 e2 e3 = absurd (omega (arith, eqb-true n 0 e0, eqb-true n 2 e2))
settings n true false false false opened l e0 e1 e2 e3 = refl
settings n false true s2 false true l e0 e1 e2 e3 = refl
settings n false true s2 false false l e0 e1 e2 e3 = refl
settings n false false true false true l e0 e1 e2 e3 = refl
settings n false false true false false l e0 e1 e2 e3 = refl
settings n false false false false opened l e0 e1 e2 e3 =
    absurd (four n l (eqb-false n 0 e0) (eqb-false n 1 e1) (eqb-false n 2 e2) (eqb-false n 3 e3))
  where
    four : (n : ℕ) → n < 4 → (n ≡ 0 → ⊥) → (n ≡ 1 → ⊥) → (n ≡ 2 → ⊥) → (n ≡ 3 → ⊥) → ⊥
    four n l a b c d = omega arith

block_more : (c : Core) (session block : ℕ) (b : Bool) → ltb block 128 ≡ b
    → is_ok (write_verdict (block_situation c session block)) ≡ (b && may_write c.registers (Radio session) block)
unfolding block_place pick may_write write_right radio_writes needs_session
block_more c session block true h =
    let n = setting (security_of c.registers.security (area_of_block c.registers.ends block)) in
    rw (lt-leb 128 block (ltb-true block 128 h), block_chain c session (4 * block) block 0 _ refl, allowed_pick, allowed_pick, allowed_pick)
    (ap (λ (b : Bool). not (is_locked c.registers.ccfile block) && b) (settings n _ _ _ _ _ (omega arith) refl refl refl refl))
block_more c session block false h = rw (le-leb 128 block (ltb-false block 128 h), radio_unmapped)

pub block_allowed : BlockAllowed
block_allowed c session block = block_more c session block (ltb block 128) refl
