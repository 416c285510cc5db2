-- The system registers as one table: all that asks for a register by its address or by a radio pointer reads it here.
use Rattle.std.specs.Prelude.{Bool, true, false, List, [], ◌∷◌, map, ℕ, eqb}
use Rattle.parts.specs.Pick.{pick}
use Rattle.register_table.specs.declared.WriteRule.{WriteRule}
use Rattle.register_table.specs.declared.WriteRule.TheVariants.{Plain, AreaEnd, MailboxMode}
use Rattle.register_table.specs.declared.RegisterRow.{RegisterRow}
use Rattle.register_types.specs.Types.{rf_mngt_bits, rfa_ss_bits, end_abits, i2c_ss_bits, lock_cc_file_bits, mb_mode_bits, lock_cfg_bits, dsfid_bits, afi_bits}

-- An entry: the address on the wire, how many of the register's bits are defined, the row. The host reads every register.
-- A row says where the register's byte stands among those of all registers, whether the host may write it, with the session open, and whether A0 and A1 have a pointer to it, which is its address.
pub record RegisterEntry : Type 0 where
  pub address : ℕ
  pub defined_bits : ℕ
  pub row : RegisterRow

abbrev pub register_entry : ℕ → ℕ → ℕ → WriteRule → Bool → Bool → RegisterEntry
register_entry address place n rule host radio = record { address = address; defined_bits = n; row = record { place = place; rule = rule; host = host; radio = radio } }

-- how many bytes the registers are, RF_MNGT_Dyn among them
abbrev pub register_count : ℕ
register_count = 15

-- the places that something else than the table names; RF_MNGT_Dyn has no address in system space
abbrev pub mngt_place : ℕ
mngt_place = 0

abbrev pub dynamic_place : ℕ
dynamic_place = 1

abbrev pub ccfile_place : ℕ
ccfile_place = 10

-- where no register is
abbrev pub no_place : ℕ
no_place = 0xFF

-- "System: 0003h RF_MNGT, 0004h-000Ah RFA1SS, ENDA1, RFA2SS, ENDA2, RFA3SS, ENDA3, RFA4SS, 000Bh I2CSS, 000Ch LOCK_CCFILE, 000Dh MB_MODE, 000Fh LOCK_CFG";
-- "DSFID and AFI registers (0012h, 0013h, read only for all)"; A0, A1: "pointers 03-0A, 0D, 0F". The columns: address, place, defined bits, rule on writing, whether the host writes it, whether the radio has a pointer. In the order of the places.
abbrev pub register_table : List RegisterEntry
register_table =
    register_entry 0x03 mngt_place rf_mngt_bits Plain true true
    ∷ register_entry 0x04 2 rfa_ss_bits Plain true true
    ∷ register_entry 0x05 3 end_abits (AreaEnd 1) true true
    ∷ register_entry 0x06 4 rfa_ss_bits Plain true true
    ∷ register_entry 0x07 5 end_abits (AreaEnd 2) true true
    ∷ register_entry 0x08 6 rfa_ss_bits Plain true true
    ∷ register_entry 0x09 7 end_abits (AreaEnd 3) true true
    ∷ register_entry 0x0A 8 rfa_ss_bits Plain true true
    ∷ register_entry 0x0B 9 i2c_ss_bits Plain true false
    ∷ register_entry 0x0C ccfile_place lock_cc_file_bits Plain true false
    ∷ register_entry 0x0D 11 mb_mode_bits MailboxMode true true
    ∷ register_entry 0x0F 12 lock_cfg_bits Plain true true
    ∷ register_entry 0x12 13 dsfid_bits Plain false false
    ∷ register_entry 0x13 14 afi_bits Plain false false
    ∷ []

-- how many bits are defined of the byte at each place: RF_MNGT_Dyn, between RF_MNGT and the others, has as many as RF_MNGT
unfoldable pub place_bits : List ℕ
place_bits = rf_mngt_bits ∷ map (λ (entry : RegisterEntry). entry.defined_bits) register_table

-- the row where no register is
abbrev pub no_row : RegisterRow
no_row = record { place = no_place; rule = Plain; host = false; radio = false }

-- the row of an address
unfoldable pub row_in : List RegisterEntry → ℕ → RegisterRow
row_in [] address = no_row
row_in (entry ∷ entries) address = pick (eqb address entry.address) entry.row (row_in entries address)

unfoldable pub row_of : ℕ → RegisterRow
row_of address = row_in register_table address

-- "register writable"
abbrev pub is_writable : ℕ → Bool
is_writable address = (row_of address).host

-- "pointers 03-0A, 0D, 0F, else 10h"
abbrev pub is_pointer : ℕ → Bool
is_pointer pointer = (row_of pointer).radio
