-- The registers by their places, which are those of the state's bytes, and by their addresses: read, and written.
use Rattle.std.specs.Prelude.{List, [], ◌∷◌, ℕ, eqb, get_or, set}
use Rattle.parts.specs.Pick.{pick}
use Rattle.parts.specs.Bits.{keep_bits}
use Rattle.register_types.specs.declared.RfMngt.{RfMngt}
use Rattle.register_types.specs.declared.EndA.{EndA}
use Rattle.registers.specs.declared.Ends.{Ends}
use Rattle.registers.specs.declared.Registers.{Registers}
use Rattle.register_table.specs.Table.{mngt_place, dynamic_place, no_place, place_bits, row_of}

-- the byte at each place: "RF_MNGT, RF_MNGT_Dyn, RFA1SS, ENDA1, RFA2SS, ENDA2, RFA3SS, ENDA3, RFA4SS, I2CSS, LOCK_CCFILE, MB_MODE, LOCK_CFG, DSFID, AFI"
unfoldable pub register_bytes : Registers → List ℕ
register_bytes r =
    r.mngt.bits ∷ r.dynamic.bits
    ∷ r.security.area1.bits ∷ r.ends.end1.bits ∷ r.security.area2.bits ∷ r.ends.end2.bits
    ∷ r.security.area3.bits ∷ r.ends.end3.bits ∷ r.security.area4.bits
    ∷ r.i2css.bits ∷ r.ccfile.bits ∷ r.mode.bits ∷ r.config.bits ∷ r.dsfid.bits ∷ r.afi.bits ∷ []

-- the registers of such bytes; one that is missing is 0
abbrev pub registers_of : List ℕ → Registers
registers_of s =
    record {
      mngt = record { bits = get_or s 0 0 };
      dynamic = record { bits = get_or s 1 0 };
      security = record { area1 = record { bits = get_or s 2 0 }; area2 = record { bits = get_or s 4 0 }; area3 = record { bits = get_or s 6 0 }; area4 = record { bits = get_or s 8 0 } };
      ends = record { end1 = record { bits = get_or s 3 0 }; end2 = record { bits = get_or s 5 0 }; end3 = record { bits = get_or s 7 0 } };
      i2css = record { bits = get_or s 9 0 };
      ccfile = record { bits = get_or s 10 0 };
      mode = record { bits = get_or s 11 0 };
      config = record { bits = get_or s 12 0 };
      dsfid = record { bits = get_or s 13 0 };
      afi = record { bits = get_or s 14 0 };
    }

-- the byte of the register at a place; "FFh where unmapped"
unfoldable pub byte_of : ℕ → Registers → ℕ
byte_of place r = pick (eqb place no_place) 0xFF (get_or (register_bytes r) place 0)

-- the byte at an address
unfoldable pub register_at : Registers → ℕ → ℕ
register_at r address = byte_of (row_of address).place r

-- ---- one of the registers replaced
abbrev pub with_dynamic : RfMngt → Registers → Registers
with_dynamic x r =
    record { mngt = r.mngt; dynamic = x; security = r.security; ends = r.ends; i2css = r.i2css; ccfile = r.ccfile; mode = r.mode; config = r.config; dsfid = r.dsfid; afi = r.afi }

-- ENDAi replaced
unfoldable pub with_end : ℕ → EndA → Ends → Ends
with_end i x e =
    pick (eqb i 1) (record { end1 = x; end2 = e.end2; end3 = e.end3 })
    (pick (eqb i 2) (record { end1 = e.end1; end2 = x; end3 = e.end3 })
    (pick (eqb i 3) (record { end1 = e.end1; end2 = e.end2; end3 = x })
    e))

-- ---- the registers after byte x was written
-- the bytes with x at a place, its defined bits kept; past the last place nothing changes
unfoldable pub put_defined : ℕ → ℕ → List ℕ → List ℕ
put_defined place x s = set s place (keep_bits (get_or place_bits place 0) x)

-- written to the register at a place; "each write of RF_MNGT, reloads RF_MNGT_Dyn"
unfoldable pub written_to : ℕ → ℕ → Registers → Registers
written_to place x r =
    pick (eqb place mngt_place) (registers_of (put_defined dynamic_place x (put_defined mngt_place x (register_bytes r))))
    (registers_of (put_defined place x (register_bytes r)))

-- the same by the address; nothing changes where no register is
unfoldable pub written : Registers → ℕ → ℕ → Registers
written r address x = written_to (row_of address).place x r
