-- The mailbox's part of the state, at any place: its length, its bytes, there and back. Assumes nothing.
use mathlib.Core.Path.{◌≡◌, refl}
use mathlib.Core.Bool.{true}
use mathlib.Core.List.{List}
use Prim.Native.Nat.{ℕ}
use lib.ListN.{length}
use Rattle.parts.specs.Bytes.{bytes_at, are_bytes}
use Rattle.parts.proofs.Below.{Below}
use Rattle.parts.proofs.Bools.{and_left, and_right}
use Rattle.mailbox.specs.declared.Mailbox.{Mailbox}
use Rattle.state.specs.Layout.{mailbox_part_length, mailbox_bytes, mailbox_decodes, mailbox_at}
use Rattle.state.specs.Claims.{is_word}
use Rattle.state.proofs.Places.{same_head}
use Rattle.state.proofs.Numbers.{flag_byte_lem, low_byte_lem, high_byte_lem, word_fits, flag_fits, flag_back, flag_again, word_back, low_again, high_again}

pub mailbox_length : (m : Mailbox) → length (mailbox_bytes m) ≡ mailbox_part_length
unfolding mailbox_bytes
mailbox_length m = refl

pub mailbox_bytes_lem : (m : Mailbox) → is_word m.length ≡ true → are_bytes (mailbox_bytes m) ≡ true
unfolding are_bytes mailbox_bytes
mailbox_bytes_lem m h = simp (flag_byte_lem, low_byte_lem, high_byte_lem m.length h)

pub mailbox_decodes_lem : (m : Mailbox) → mailbox_decodes (mailbox_bytes m) 0 ≡ true
unfolding mailbox_decodes mailbox_bytes
mailbox_decodes_lem m = simp flag_fits

pub mailbox_back : (m : Mailbox) → mailbox_at (mailbox_bytes m) 0 ≡ m
unfolding mailbox_at mailbox_bytes
mailbox_back m = simp (flag_back, word_back)

module _ (s : List ℕ) (at : ℕ) where
  -- it looks only at its own bytes
  pub mailbox_own : (mailbox_decodes s at ≡ mailbox_decodes (bytes_at s at mailbox_part_length) 0) × (mailbox_at s at ≡ mailbox_at (bytes_at s at mailbox_part_length) 0)
  unfolding mailbox_decodes mailbox_at bytes_at
  mailbox_own = (refl, refl)

  pub mailbox_again : Below s → mailbox_decodes s at ≡ true → mailbox_bytes (mailbox_at s at) ≡ bytes_at s at mailbox_part_length
  unfolding mailbox_decodes mailbox_bytes mailbox_at bytes_at
  mailbox_again h d = search (same_head, flag_again, low_again, high_again, h, and_left, and_right, d) depth 30

  pub message_fits : Below s → is_word (mailbox_at s at).length ≡ true
  unfolding mailbox_at
  message_fits h = word_fits s h _ _
