-- Situations on either side of where a reason begins, with their verdicts as 02, Ask 2, has them, worked out by hand.
use Prim.{Unit, tt}
use Rattle.std.specs.Prelude.{◌≡◌, Bool, true, false, List, [], ◌∷◌, ℕ, ⊤, Some, None, Result, Ok, Err}
use Rattle.rights.specs.Passed.{registers_of}
use Rattle.keys.specs.Keys.{fresh_passwords}
use Rattle.written_registers.specs.Passed.{with_put, with_enabled, with_rf_message, no_message, empty_mailbox, Core}
use Rattle.write_reasons.specs.Passed.{User, System}
use Rattle.write_reasons.specs.declared.WriteReason.{WriteReason}
use Rattle.write_reasons.specs.declared.WriteReason.TheVariants.{LegSpoiled, OutsideMap, MailboxModeOn, ModeOff, MailboxBusy, MailboxLegNotFrom2008, AnotherArea, LockedBlock, AreaNeverWritable, ConfigurationLocked, SessionNeeded, RegisterReadOnly, PasswordCode, EndaRule, PageFull}
use Rattle.write_rules.specs.Situation.{Situation, byte_situation, block_situation, pointer_situation, password_situation}
use Rattle.write_rules.specs.Verdict.{write_verdict}

pub record WriteEdge : Type 0 where
  pub situation : Situation
  pub verdict : Result ⊤ WriteReason

abbrev allowed : Situation → WriteEdge
allowed z = record { situation = z; verdict = Ok tt }

abbrev forbidden : Situation → WriteReason → WriteEdge
forbidden z reason = record { situation = z; verdict = Err reason }

-- ---- the tags: RFA1SS, ENDA1, I2CSS, LOCK_CCFILE and LOCK_CFG, all else fresh; MB_EN, and RF_PUT
abbrev tag_of : ℕ → ℕ → ℕ → ℕ → ℕ → Bool → Bool → Core
tag_of rfa1ss enda1 i2css ccfile config enabled put =
    record {
      registers = registers_of (0 ∷ 0 ∷ rfa1ss ∷ enda1 ∷ 0 ∷ 0x0F ∷ 0 ∷ 0x0F ∷ 0 ∷ i2css ∷ ccfile ∷ 0 ∷ config ∷ []);
      mailbox = with_enabled enabled (with_rf_message (with_put put no_message) empty_mailbox);
      passwords = fresh_passwords;
    }

abbrev fresh_core : Core
fresh_core = tag_of 0 0x0F 0 0 0 false false

abbrev mailbox_on : Core
mailbox_on = tag_of 0 0x0F 0 0 0 true false

abbrev message_put : Core
message_put = tag_of 0 0x0F 0 0 0 true true

abbrev two_areas : Core
two_areas = tag_of 0 0x07 0 0 0 false false

abbrev guarded : Core
guarded = tag_of 0 0x0F 0x01 0 0 false false

abbrev locked_first : Core
locked_first = tag_of 0 0x0F 0 0x01 0 false false

abbrev config_locked : Core
config_locked = tag_of 0 0x0F 0 0 0x01 false false

abbrev with_rights : ℕ → Core
with_rights rfa1ss = tag_of rfa1ss 0x0F 0 0 0 false false

-- a byte of user space without the session, and one of system space, in a leg that is not spoiled and whose earlier bytes do not matter
abbrev user_at : Core → ℕ → ℕ → Situation
user_at c first k = byte_situation User c false false first k [] 0

abbrev system_at : Core → Bool → ℕ → ℕ → ℕ → Situation
system_at c session first k x = byte_situation System c session false first k [] x

abbrev pub wire_edges : List WriteEdge
wire_edges =
    -- memory: 0200h after 01FFh, the 257th byte in the same area and in another, the lock, the session
    allowed (user_at fresh_core 0x01FF 0)
    ∷ forbidden (user_at fresh_core 0x01FF 1) OutsideMap
    ∷ allowed (user_at fresh_core 0x0000 255)
    ∷ forbidden (user_at fresh_core 0x0000 256) PageFull
    ∷ forbidden (user_at two_areas 0x0000 256) AnotherArea
    ∷ forbidden (user_at mailbox_on 0x0000 0) MailboxModeOn
    ∷ forbidden (user_at locked_first 0x0000 3) LockedBlock
    ∷ allowed (user_at locked_first 0x0004 0)
    ∷ forbidden (user_at guarded 0x0000 0) (SessionNeeded None)
    ∷ forbidden (byte_situation User fresh_core false true 0x0000 0 [] 0) LegSpoiled
    -- the mailbox: its 257th byte, a leg from 2009h
    ∷ allowed (user_at mailbox_on 0x2008 255)
    ∷ forbidden (user_at mailbox_on 0x2008 256) OutsideMap
    ∷ forbidden (user_at fresh_core 0x2009 0) ModeOff
    ∷ forbidden (user_at message_put 0x2009 0) MailboxBusy
    ∷ forbidden (user_at mailbox_on 0x2009 0) MailboxLegNotFrom2008
    -- the dynamic registers
    ∷ allowed (user_at mailbox_on 0x2003 0)
    ∷ forbidden (user_at fresh_core 0x2003 1) RegisterReadOnly
    ∷ forbidden (user_at mailbox_on 0x2007 0) RegisterReadOnly
    ∷ forbidden (user_at fresh_core 0x2005 0) OutsideMap
    -- system registers: the UID, what is not mapped, DSFID and AFI beside it (02, Ask 4), the ENDA rule with an earlier byte taken as written
    ∷ forbidden (system_at mailbox_on false 0x0018 0 0) MailboxModeOn
    ∷ forbidden (system_at fresh_core false 0x0018 0 0) (SessionNeeded None)
    ∷ forbidden (system_at fresh_core true 0x0018 0 0) RegisterReadOnly
    ∷ forbidden (system_at fresh_core true 0x0010 0 0) OutsideMap
    ∷ forbidden (system_at fresh_core true 0x0011 0 0) OutsideMap
    ∷ forbidden (system_at mailbox_on true 0x0012 0 0) MailboxModeOn
    ∷ forbidden (system_at fresh_core false 0x0012 0 0) (SessionNeeded None)
    ∷ forbidden (system_at fresh_core true 0x0012 0 0) RegisterReadOnly
    ∷ forbidden (system_at fresh_core true 0x0013 0 0) RegisterReadOnly
    ∷ allowed (system_at fresh_core true 0x000F 0 0)
    ∷ forbidden (byte_situation System fresh_core true false 0x0005 2 (0x03 ∷ 0x00 ∷ []) 0x03) EndaRule
    ∷ allowed (byte_situation System fresh_core true false 0x0005 2 (0x03 ∷ 0x00 ∷ []) 0x04)
    -- a password leg: its 17th, 18th and 19th byte, its codes, a leg past its first address
    ∷ allowed (system_at fresh_core false 0x0900 16 0)
    ∷ forbidden (system_at fresh_core false 0x0900 17 0) PageFull
    ∷ forbidden (byte_situation System fresh_core false true 0x0900 18 [] 0) LegSpoiled
    ∷ forbidden (system_at mailbox_on false 0x0900 8 0x07) MailboxModeOn
    ∷ forbidden (system_at fresh_core false 0x0900 8 0x07) (SessionNeeded None)
    ∷ allowed (system_at fresh_core true 0x0900 8 0x07)
    ∷ forbidden (system_at mailbox_on false 0x0900 8 0x08) PasswordCode
    ∷ forbidden (system_at fresh_core false 0x0900 8 0x08) PasswordCode
    ∷ allowed (system_at mailbox_on false 0x0900 8 0x09)
    ∷ forbidden (system_at fresh_core true 0x0901 0 0) OutsideMap
    ∷ []

abbrev pub radio_edges : List WriteEdge
radio_edges =
    -- a block: the memory's end, the lock, the four settings
    allowed (block_situation mailbox_on 0 127)
    ∷ forbidden (block_situation fresh_core 0 128) OutsideMap
    ∷ forbidden (block_situation locked_first 0 0) LockedBlock
    ∷ allowed (block_situation locked_first 0 1)
    ∷ forbidden (block_situation (with_rights 0x0D) 2 0) AreaNeverWritable
    ∷ forbidden (block_situation (with_rights 0x04) 1 0) (SessionNeeded None)
    ∷ forbidden (block_situation (with_rights 0x05) 1 0) (SessionNeeded (Some 1))
    ∷ forbidden (block_situation (with_rights 0x0B) 2 0) (SessionNeeded (Some 3))
    ∷ allowed (block_situation (with_rights 0x05) 2 0)
    -- a register: its pointers, LOCK_CFG, the session of password 0, the ENDA rule
    ∷ forbidden (pointer_situation fresh_core 1 0x0B 0) OutsideMap
    ∷ forbidden (pointer_situation config_locked 0 0x03 0) ConfigurationLocked
    ∷ forbidden (pointer_situation fresh_core 2 0x03 0) (SessionNeeded (Some 0))
    ∷ forbidden (pointer_situation fresh_core 1 0x05 0x10) EndaRule
    ∷ allowed (pointer_situation mailbox_on 1 0x05 0x0E)
    -- a password
    ∷ forbidden (password_situation fresh_core 4 4) OutsideMap
    ∷ forbidden (password_situation fresh_core 0 0) (SessionNeeded (Some 0))
    ∷ forbidden (password_situation fresh_core 2 2) (SessionNeeded (Some 2))
    ∷ allowed (password_situation config_locked 3 2)
    ∷ []

-- each has its verdict
unfoldable pub EdgesHold : List WriteEdge → Type 0
EdgesHold [] = Unit {0}
EdgesHold (edge ∷ edges) = (write_verdict edge.situation ≡ edge.verdict) × EdgesHold edges
