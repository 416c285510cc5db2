-- The rule on a data byte is the verdict's yes or no. Assumes nothing.
use mathlib.Core.Path.{◌≡◌, refl, sym, ap, ◌∙◌}
use mathlib.Core.Bool.{Bool, true, false, not, ◌&&◌, ◌||◌, and-true, and-false, and_comm, and_assoc, or-false, false≢true, not-not}
use mathlib.Core.List.{List}
use Prim.Native.Nat.{ℕ, ◌+◌, ◌/◌, ◌≤◌, ◌<◌}
use native.Mathlib.Omega.{arith}
use lib.Dec.{leb, ltb, eqb}
use borrow.Author.Tests.{lt-ltb, lt-leb, le-leb, ltb-true, ltb-false, leb-true, eqb-true, eqb-false, ne_eqb}
use Rattle.std.specs.Prelude.{is_ok}
use Rattle.parts.specs.Pick.{pick}
use Rattle.parts.proofs.Bools.{and_left, and_both}
use Rattle.parts.proofs.Picks.{pick_same}
use Rattle.dynamic.specs.Dynamic.{mailbox_first, mailbox_last, host_writes}
use Rattle.write_rules.specs.Passed.{area_of_byte, Wire, wire_writes, write_right, may_write, Core}
use Rattle.bus.specs.declared.Space.{Space}
use Rattle.bus.specs.declared.Space.TheVariants.{User, System}
use Rattle.write_reasons.specs.declared.WritePlace.{WritePlace}
use Rattle.write_reasons.specs.declared.WritePlace.TheVariants.{Unmapped, UserMemory, DynamicByte, MailboxByte, SystemRegister, PasswordByte}
use Rattle.write_reasons.proofs.Laws.{allowed_pick}
use Rattle.write_rules.specs.Situation.{is_dynamic, is_system, user_place, system_place, byte_place, byte_at, byte_situation}
use Rattle.write_rules.specs.Verdict.{write_verdict}
use Rattle.write_rules.proofs.Rows.{unmapped_writable}
use Rattle.write_rules.proofs.Chain.{spoiled_chain, unmapped_chain, memory_chain, dynamic_chain, mailbox_chain, register_chain, password_chain}
use Rattle.rule.specs.UserRule.{memory_acked, mailbox_acked, user_acked}
use Rattle.rule.specs.SystemRule.{register_acked, password_acked, system_acked}
use Rattle.rule.specs.Rule.{space_acked, acked}
use Rattle.rule.specs.Claims.{AckedWhenAllowed, SpoiledNever}

-- ---- tests turned round
not_and_not : (a b : Bool) → not (a && not b) ≡ (b || not a)
not_and_not true true = refl
not_and_not true false = refl
not_and_not false true = refl
not_and_not false false = refl

not_and : (a b : Bool) → not (a && b) ≡ (not a || not b)
not_and true b = refl
not_and false b = refl

not_or : (a b : Bool) → not (a || b) ≡ (not a && not b)
not_or true b = refl
not_or false b = refl

not_leb_more : (m n : ℕ) (b : Bool) → ltb n m ≡ b → not (leb m n) ≡ b
not_leb_more m n true h = rw (lt-leb m n (ltb-true n m h))
not_leb_more m n false h = rw (le-leb m n (ltb-false n m h))

not_leb : (m n : ℕ) → not (leb m n) ≡ ltb n m
not_leb m n = not_leb_more m n (ltb n m) refl

narrower : (k : ℕ) (b : Bool) → ltb k 17 ≡ b → b ≡ (ltb k 256 && b)
narrower k true h = rw (lt-ltb k 256 (omega (arith, ltb-true k 17 h)))
narrower k false h = sym (and-false (ltb k 256))

turn : (a b c d e : Bool) → (b && (c && (d && (a && e)))) ≡ (e && (a && (b && (c && d))))
turn true b c d true = rw (and-true d)
turn true b c d false = rw (and-false d, and-false c, and-false b)
turn false b c d e = rw (and-false d, and-false c, and-false b, and-false e)

-- ---- addresses
range_more : (a : ℕ) (p q r s : Bool) → eqb a 0x2003 ≡ p → eqb a 0x2004 ≡ q → eqb a 0x2006 ≡ r → eqb a 0x2007 ≡ s → (p || q || r || s) ≡ true → (0x2003 ≤ a) × (a ≤ 0x2007)
range_more a true q r s e f g h i = let n : a ≡ 0x2003 = eqb-true a 0x2003 e in (omega arith, omega arith)
range_more a false true r s e f g h i = let n : a ≡ 0x2004 = eqb-true a 0x2004 f in (omega arith, omega arith)
range_more a false false true s e f g h i = let n : a ≡ 0x2006 = eqb-true a 0x2006 g in (omega arith, omega arith)
range_more a false false false true e f g h i = let n : a ≡ 0x2007 = eqb-true a 0x2007 h in (omega arith, omega arith)
range_more a false false false false e f g h i = absurd (false≢true i)

dynamic_range : (a : ℕ) → is_dynamic a ≡ true → (0x2003 ≤ a) × (a ≤ 0x2007)
unfolding is_dynamic
dynamic_range a h = range_more a _ _ _ _ refl refl refl refl h

host_more : (a : ℕ) (p r : Bool) → eqb a 0x2003 ≡ p → eqb a 0x2006 ≡ r → (p || r) ≡ true → (0x2003 ≤ a) × (a ≤ 0x2006)
host_more a true r e g i = let n : a ≡ 0x2003 = eqb-true a 0x2003 e in (omega arith, omega arith)
host_more a false true e g i = let n : a ≡ 0x2006 = eqb-true a 0x2006 g in (omega arith, omega arith)
host_more a false false e g i = absurd (false≢true i)

host_range : (a : ℕ) → host_writes a ≡ true → (0x2003 ≤ a) × (a ≤ 0x2006)
host_range a h = host_more a _ _ refl refl h

wider : (p q r s : Bool) → (p || r) ≡ true → (p || q || r || s) ≡ true
wider true q r s h = refl
wider false true r s h = refl
wider false false true s h = refl
wider false false false s h = absurd (false≢true h)

host_dynamic : (a : ℕ) → host_writes a ≡ true → is_dynamic a ≡ true
unfolding is_dynamic
host_dynamic a h = wider (eqb a 0x2003) (eqb a 0x2004) (eqb a 0x2006) (eqb a 0x2007) h

positive : (k : ℕ) → (k ≡ 0 → ⊥) → 1 ≤ k
positive k h = omega arith

both_ways : (b : Bool) → (b && true) ≡ pick b true false
unfolding pick
both_ways true = refl
both_ways false = refl

ruleset bools = (allowed_pick, not_and_not, not_and, not_or, not-not, and-true, and_assoc)

module _ (c : Core) (session : Bool) (first k : ℕ) (earlier : List ℕ) (x : ℕ) where
  yes : WritePlace → Bool
  yes place = is_ok (write_verdict (byte_at place c session false first k earlier x))

  -- ---- place by place
  unmapped_yes : yes Unmapped ≡ false
  unfolding yes
  unmapped_yes = rw unmapped_chain

  memory_yes : yes UserMemory ≡ (ltb k 256 && (not c.mailbox.enabled && eqb (area_of_byte c.registers.ends first) (area_of_byte c.registers.ends (first + k))
      && may_write c.registers (Wire session) ((first + k) / 4)))
  unfolding yes may_write write_right wire_writes
  memory_yes = rw (memory_chain, ← not_leb 256 k, and_comm (not (leb 256 k)) _) (simp bools)

  dynamic_yes : yes DynamicByte ≡ (host_writes (first + k) && not (leb 1 k))
  unfolding yes
  dynamic_yes = rw (dynamic_chain, allowed_pick, allowed_pick, not-not, and-true)

  mailbox_yes : yes MailboxByte ≡ (ltb k 256 && mailbox_acked c.mailbox first)
  unfolding yes mailbox_acked
  mailbox_yes =
      rw (mailbox_chain, ← not_leb 256 k)
      (simp bools (turn (eqb first mailbox_first) c.mailbox.enabled (not c.mailbox.host.put) (not c.mailbox.rf.put) (not (leb 256 k))))

  register_yes : yes SystemRegister ≡ (ltb k 256 && register_acked c session first k earlier x)
  unfolding yes register_acked
  register_yes = rw (register_chain, ← not_leb 256 k, and_comm (not (leb 256 k)) _) (simp bools)

  password_more : (b d e : Bool) → eqb k 8 ≡ b → eqb x 0x07 ≡ d → eqb x 0x09 ≡ e → yes PasswordByte ≡ (ltb k 256 && password_acked c session k x)
  unfolding yes password_acked pick
  password_more true true true h g i = absurd (omega (arith, eqb-true x 0x07 g, eqb-true x 0x09 i))
  password_more true true false h g i =
      let n : k ≡ 8 = eqb-true k 8 h in
      rw (password_chain, h, g, i, lt-leb 17 k (omega arith), lt-ltb k 256 (omega arith)) (simp bools (rw or-false (and_comm (not c.mailbox.enabled) session)))
  password_more true false e h g i =
      let n : k ≡ 8 = eqb-true k 8 h in
      rw (password_chain, h, g, i, lt-leb 17 k (omega arith), lt-ltb k 256 (omega arith)) (simp bools (sym (or-false e)))
  password_more false d e h g i = rw (password_chain, h) (simp bools (not_leb 17 k ∙ narrower k (ltb k 17) refl))

  -- ---- user space past the memory
  beyond : Bool
  beyond = ltb k 256 && pick (host_writes first) (eqb k 0) (mailbox_acked c.mailbox first)

  same_place : k ≡ 0 → first + k ≡ first
  same_place z = omega arith

  not_2008 : (eqb first mailbox_first ≡ false) → mailbox_acked c.mailbox first ≡ false
  unfolding mailbox_acked
  not_2008 h = rw h

  past_dynamic : (b d : Bool) → eqb k 0 ≡ b → host_writes first ≡ d → is_dynamic (first + k) ≡ true → yes DynamicByte ≡ beyond
  unfolding beyond pick
  past_dynamic true d h g i =
      let z : k ≡ 0 = eqb-true k 0 h in
      let r = dynamic_range (first + k) i in
      let e : first + k ≡ first = omega arith in
      rw (dynamic_yes, e, lt-leb 1 k (omega arith), lt-ltb k 256 (omega arith), h, not_2008 (ne_eqb first mailbox_first (λ y. omega (arith, r.0, r.1)))) (both_ways (host_writes first))
  past_dynamic false d h g i =
      let r = dynamic_range (first + k) i in
      rw (dynamic_yes, le-leb 1 k (positive k (eqb-false k 0 h)), h, not_2008 (ne_eqb first mailbox_first (λ y. omega (arith, r.0, r.1))), pick_same (host_writes first) false, and-false, and-false)

  past_mailbox : (d : Bool) → host_writes first ≡ d → (leb mailbox_first (first + k) && leb (first + k) mailbox_last) ≡ true → yes MailboxByte ≡ beyond
  unfolding beyond pick
  past_mailbox true g i =
      let r = host_range first g in
      let l : 0x2008 ≤ first + k = leb-true mailbox_first (first + k) (and_left _ _ i) in
      rw (mailbox_yes, g, ne_eqb k 0 (λ y. omega (arith, r.1)), not_2008 (ne_eqb first mailbox_first (λ y. omega (arith, r.1))))
  past_mailbox false g i = rw (mailbox_yes, g)

  past_unmapped : (b d e l : Bool) → eqb k 0 ≡ b → host_writes first ≡ d → eqb first mailbox_first ≡ e → ltb k 256 ≡ l → is_dynamic (first + k) ≡ false
      → (leb mailbox_first (first + k) && leb (first + k) mailbox_last) ≡ false → yes Unmapped ≡ beyond
  unfolding beyond pick
  past_unmapped true true e l z g j h i r = absurd (false≢true (sym i ∙ host_dynamic (first + k) (ap host_writes (same_place (eqb-true k 0 z)) ∙ g)))
  past_unmapped false true e l z g j h i r = rw (unmapped_yes, g, z, and-false)
  past_unmapped b false false l z g j h i r = rw (unmapped_yes, g, not_2008 j, and-false)
  past_unmapped b false true true z g j h i r =
      let f : first ≡ 0x2008 = eqb-true first mailbox_first j in
      let n : k < 256 = ltb-true k 256 h in
      absurd (false≢true (sym r ∙ and_both _ _ (le-leb mailbox_first (first + k) (omega arith)) (le-leb (first + k) mailbox_last (omega arith))))
  past_unmapped b false true false z g j h i r = rw (unmapped_yes, h)

  past : (d m : Bool) → is_dynamic (first + k) ≡ d → (leb mailbox_first (first + k) && leb (first + k) mailbox_last) ≡ m
      → yes (pick d DynamicByte (pick m MailboxByte Unmapped)) ≡ beyond
  unfolding pick
  past true m h g = past_dynamic (eqb k 0) (host_writes first) refl refl h
  past false true h g = past_mailbox (host_writes first) refl g
  past false false h g = past_unmapped (eqb k 0) (host_writes first) (eqb first mailbox_first) (ltb k 256) refl refl refl refl h g

  opened : beyond ≡ (ltb k 256 && pick (host_writes first) (eqb k 0) (mailbox_acked c.mailbox first))
  unfolding beyond
  opened = refl

  -- a leg from the memory on
  low : (d : Bool) → host_writes first ≡ d → first < 512 → beyond ≡ (ltb k 256 && false)
  unfolding beyond pick
  low true g l = absurd (omega (arith, (host_range first g).0))
  low false g l = rw (g, not_2008 (ne_eqb first mailbox_first (λ y. omega arith)))

  -- ---- user space
  user : (b d : Bool) → ltb (first + k) 512 ≡ b → ltb first 512 ≡ d → yes (user_place (first + k)) ≡ (ltb k 256 && user_acked c session first k)
  unfolding user_place user_acked memory_acked pick
  user true true h g = rw (h, g, lt-leb 512 (first + k) (ltb-true (first + k) 512 h)) memory_yes
  user true false h g = absurd (omega (arith, ltb-true (first + k) 512 h, ltb-false first 512 g))
  user false true h g =
      let l : first < 512 = ltb-true first 512 g in
      let n : 512 ≤ first + k = ltb-false (first + k) 512 h in
      rw (h, g, le-leb 512 (first + k) n, past (is_dynamic (first + k)) _ refl refl) (low (host_writes first) refl l)
  user false false h g = rw (h, g) (past (is_dynamic (first + k)) _ refl refl ∙ opened)

  -- ---- system space
  both : (b : Bool) (p q : WritePlace) (u v : Bool) → (b ≡ true → yes p ≡ (ltb k 256 && u)) → (b ≡ false → yes q ≡ (ltb k 256 && v)) → yes (pick b p q) ≡ (ltb k 256 && pick b u v)
  unfolding pick
  both true p q u v h g = h refl
  both false p q u v h g = g refl

  no_register : is_system (first + k) ≡ false → yes Unmapped ≡ (ltb k 256 && register_acked c session first k earlier x)
  unfolding register_acked
  no_register h = rw (unmapped_yes, unmapped_writable (first + k) h, and-false, and-false)

  system : yes (system_place first (first + k)) ≡ (ltb k 256 && system_acked c session first k earlier x)
  unfolding system_place system_acked
  system =
      both (eqb first 0x0900) PasswordByte _ _ _ (λ h. password_more (eqb k 8) (eqb x 0x07) (eqb x 0x09) refl refl refl)
      (λ g. both (is_system (first + k)) SystemRegister Unmapped _ _ (λ h. register_yes) no_register ∙ ap (λ (b : Bool). ltb k 256 && b) (pick_same (is_system (first + k)) _))

  agree : (space : Space) → is_ok (write_verdict (byte_situation space c session false first k earlier x)) ≡ acked space c session first k earlier x
  unfolding yes byte_place acked space_acked
  agree User = user (ltb (first + k) 512) (ltb first 512) refl refl
  agree System = system

pub acked_when_allowed : AckedWhenAllowed
acked_when_allowed space c session first k earlier x = sym (agree c session first k earlier x space)

pub spoiled_never : SpoiledNever
spoiled_never space c session first k earlier x = spoiled_chain c session first k earlier x (byte_place space first k)

-- both at once
pub byte_agrees : (space : Space) (c : Core) (session spoiled : Bool) (first k : ℕ) (earlier : List ℕ) (x : ℕ)
    → is_ok (write_verdict (byte_situation space c session spoiled first k earlier x)) ≡ (not spoiled && acked space c session first k earlier x)
byte_agrees space c session true first k earlier x = ap is_ok (spoiled_never space c session first k earlier x)
byte_agrees space c session false first k earlier x = agree c session first k earlier x space
