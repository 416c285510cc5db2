-- The passwords' part of the state, at any place, and the UID: their lengths, their bytes, there and back. Assumes nothing.
use mathlib.Core.Path.{◌≡◌, ◌∙◌}
use mathlib.Core.Bool.{true}
use mathlib.Core.List.{List, ◌++◌}
use Prim.Native.Nat.{ℕ, ◌+◌}
use native.Mathlib.Omega.{arith}
use native.Mathlib.Nat.{add-zero}
use lib.Dec.{eqb}
use lib.ListN.{length, length-append}
use borrow.Author.Tests.{eqb-true}
use Rattle.parts.specs.Bytes.{bytes_at, are_bytes}
use Rattle.parts.proofs.Below.{are_append}
use Rattle.parts.proofs.Bools.{and_left, and_right}
use Rattle.keys.specs.declared.Passwords.{Passwords}
use Rattle.state.specs.Layout.{passwords_part_length, password_bytes, passwords_at}
use Rattle.state.specs.Claims.{are_eight, PasswordsFit}
use Rattle.state.proofs.Places.{bytes_at_skip, bytes_at_head, bytes_at_whole, bytes_at_joined, bytes_at_within}

pub eight_bytes : (s : List ℕ) → are_eight s ≡ true → are_bytes s ≡ true
eight_bytes s h = and_right (eqb (length s) 8) (are_bytes s) h

-- eight bytes have length 8
pub eight_long : (s : List ℕ) → are_eight s ≡ true → length s ≡ 8
eight_long s h = eqb-true (length s) 8 (and_left (eqb (length s) 8) (are_bytes s) h)

-- five parts of eight, one after the other
module _ (i a b c d : List ℕ) (li : length i ≡ 8) (la : length a ≡ 8) (lb : length b ≡ 8) (lc : length c ≡ 8) (ld : length d ≡ 8) where
  pub five_length : length (i ++ (a ++ (b ++ (c ++ d)))) ≡ passwords_part_length
  five_length = rw (length-append, length-append, length-append, length-append, li, la, lb, lc, ld)

  five_1 : bytes_at (i ++ (a ++ (b ++ (c ++ d)))) 0 8 ≡ i
  five_1 = bytes_at_head i (a ++ (b ++ (c ++ d))) 8 li

  five_2 : bytes_at (i ++ (a ++ (b ++ (c ++ d)))) 8 8 ≡ a
  five_2 = bytes_at_skip i (a ++ (b ++ (c ++ d))) 8 0 8 li ∙ bytes_at_head a (b ++ (c ++ d)) 8 la

  five_3 : bytes_at (i ++ (a ++ (b ++ (c ++ d)))) 16 8 ≡ b
  five_3 = bytes_at_skip i (a ++ (b ++ (c ++ d))) 8 8 8 li ∙ bytes_at_skip a (b ++ (c ++ d)) 8 0 8 la ∙ bytes_at_head b (c ++ d) 8 lb

  five_4 : bytes_at (i ++ (a ++ (b ++ (c ++ d)))) 24 8 ≡ c
  five_4 =
      bytes_at_skip i (a ++ (b ++ (c ++ d))) 8 16 8 li
      ∙ bytes_at_skip a (b ++ (c ++ d)) 8 8 8 la
      ∙ bytes_at_skip b (c ++ d) 8 0 8 lb
      ∙ bytes_at_head c d 8 lc

  five_5 : bytes_at (i ++ (a ++ (b ++ (c ++ d)))) 32 8 ≡ d
  five_5 =
      bytes_at_skip i (a ++ (b ++ (c ++ d))) 8 24 8 li
      ∙ bytes_at_skip a (b ++ (c ++ d)) 8 16 8 la
      ∙ bytes_at_skip b (c ++ d) 8 8 8 lb
      ∙ bytes_at_skip c d 8 0 8 lc
      ∙ bytes_at_whole d 8 ld

-- each password has its eight bytes
pub record Eights (p : Passwords) : Type 0 where
  pub i2c : length p.i2c.bytes ≡ 8
  pub rf0 : length p.rf0.bytes ≡ 8
  pub rf1 : length p.rf1.bytes ≡ 8
  pub rf2 : length p.rf2.bytes ≡ 8
  pub rf3 : length p.rf3.bytes ≡ 8

pub eights : (p : Passwords) → PasswordsFit p → Eights p
eights p f =
    record {
      i2c = eight_long p.i2c.bytes f.i2c;
      rf0 = eight_long p.rf0.bytes f.rf0;
      rf1 = eight_long p.rf1.bytes f.rf1;
      rf2 = eight_long p.rf2.bytes f.rf2;
      rf3 = eight_long p.rf3.bytes f.rf3;
    }

pub passwords_length : (p : Passwords) → Eights p → length (password_bytes p) ≡ passwords_part_length
unfolding password_bytes
passwords_length p e = five_length p.i2c.bytes p.rf0.bytes p.rf1.bytes p.rf2.bytes p.rf3.bytes e.i2c e.rf0 e.rf1 e.rf2 e.rf3

pub passwords_back : (p : Passwords) → Eights p → passwords_at (password_bytes p) 0 ≡ p
unfolding passwords_at password_bytes
passwords_back p e =
    let i = p.i2c.bytes in
    let a = p.rf0.bytes in
    let b = p.rf1.bytes in
    let c = p.rf2.bytes in
    let d = p.rf3.bytes in
    rw (five_1 i a b c d e.i2c e.rf0 e.rf1 e.rf2 e.rf3, five_2 i a b c d e.i2c e.rf0 e.rf1 e.rf2 e.rf3, five_3 i a b c d e.i2c e.rf0 e.rf1 e.rf2 e.rf3, five_4 i a b c d e.i2c e.rf0 e.rf1 e.rf2 e.rf3, five_5 i a b c d e.i2c e.rf0 e.rf1 e.rf2 e.rf3)

pub password_bytes_lem : (p : Passwords) → PasswordsFit p → are_bytes (password_bytes p) ≡ true
unfolding password_bytes
password_bytes_lem p f =
    are_append p.i2c.bytes _ (eight_bytes p.i2c.bytes f.i2c)
    (are_append p.rf0.bytes _ (eight_bytes p.rf0.bytes f.rf0)
    (are_append p.rf1.bytes _ (eight_bytes p.rf1.bytes f.rf1)
    (are_append p.rf2.bytes p.rf3.bytes (eight_bytes p.rf2.bytes f.rf2) (eight_bytes p.rf3.bytes f.rf3))))

module _ (s : List ℕ) (at : ℕ) where
  -- they look only at their own bytes
  pub passwords_own : passwords_at (bytes_at s at passwords_part_length) 0 ≡ passwords_at s at
  unfolding passwords_at
  passwords_own =
      rw (bytes_at_within s at passwords_part_length 0 8 (omega arith), bytes_at_within s at passwords_part_length 8 8 (omega arith), bytes_at_within s at passwords_part_length 16 8 (omega arith), bytes_at_within s at passwords_part_length 24 8 (omega arith), bytes_at_within s at passwords_part_length 32 8 (omega arith))

  pub passwords_again : password_bytes (passwords_at s at) ≡ bytes_at s at passwords_part_length
  unfolding password_bytes passwords_at
  passwords_again =
      rw (bytes_at_joined s (at + 24) (at + 32) 8 8 (omega arith), bytes_at_joined s (at + 16) (at + 24) 8 16 (omega arith), bytes_at_joined s (at + 8) (at + 16) 8 24 (omega arith), add-zero at, bytes_at_joined s at (at + 8) 8 32 (omega arith))
