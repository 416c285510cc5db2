-- The registers one by one: how many of its bits are defined, and the register that a byte makes.
use Rattle.std.specs.Prelude.{ℕ}
use Rattle.parts.specs.Bits.{keep_bits}
use Rattle.register_types.specs.declared.RfMngt.{RfMngt}
use Rattle.register_types.specs.declared.RfaSs.{RfaSs}
use Rattle.register_types.specs.declared.EndA.{EndA}
use Rattle.register_types.specs.declared.I2cSs.{I2cSs}
use Rattle.register_types.specs.declared.LockCcFile.{LockCcFile}
use Rattle.register_types.specs.declared.MbMode.{MbMode}
use Rattle.register_types.specs.declared.LockCfg.{LockCfg}
use Rattle.register_types.specs.declared.Dsfid.{Dsfid}
use Rattle.register_types.specs.declared.Afi.{Afi}

-- "Defined bits: RF_MNGT two, RFAiSS four, LOCK_CCFILE two, MB_MODE and LOCK_CFG one; others read 0." I2CSS has eight, ENDAi is 0 to 0Fh.
abbrev pub rf_mngt_bits : ℕ
rf_mngt_bits = 2

abbrev pub rfa_ss_bits : ℕ
rfa_ss_bits = 4

abbrev pub end_abits : ℕ
end_abits = 4

abbrev pub i2c_ss_bits : ℕ
i2c_ss_bits = 8

abbrev pub lock_cc_file_bits : ℕ
lock_cc_file_bits = 2

abbrev pub mb_mode_bits : ℕ
mb_mode_bits = 1

abbrev pub lock_cfg_bits : ℕ
lock_cfg_bits = 1

-- 000: DSFID and AFI are whole bytes
abbrev pub dsfid_bits : ℕ
dsfid_bits = 8

abbrev pub afi_bits : ℕ
afi_bits = 8

-- RF_MNGT and RF_MNGT_Dyn: b0 radio disabled, b1 radio asleep
abbrev pub rf_mngt : ℕ → RfMngt
rf_mngt x = record { bits = keep_bits rf_mngt_bits x }

-- RFAiSS: b1-0 the password, b3-2 the setting
abbrev pub rfa_ss : ℕ → RfaSs
rfa_ss x = record { bits = keep_bits rfa_ss_bits x }

-- ENDAi
abbrev pub end_a : ℕ → EndA
end_a x = record { bits = keep_bits end_abits x }

-- I2CSS: two bits an area, area 1 lowest
abbrev pub i2c_ss : ℕ → I2cSs
i2c_ss x = record { bits = keep_bits i2c_ss_bits x }

-- LOCK_CCFILE: b0 locks block 0, b1 block 1
abbrev pub lock_cc_file : ℕ → LockCcFile
lock_cc_file x = record { bits = keep_bits lock_cc_file_bits x }

-- MB_MODE: b0 lets the mailbox be enabled
abbrev pub mb_mode : ℕ → MbMode
mb_mode x = record { bits = keep_bits mb_mode_bits x }

-- LOCK_CFG: b0 locks the configuration against the radio
abbrev pub lock_cfg : ℕ → LockCfg
lock_cfg x = record { bits = keep_bits lock_cfg_bits x }

-- DSFID: the data storage format identifier, which the tag tells in its reply to an inventory
abbrev pub dsfid : ℕ → Dsfid
dsfid x = record { bits = keep_bits dsfid_bits x }

-- AFI: the application family identifier, by which an inventory may ask
abbrev pub afi : ℕ → Afi
afi x = record { bits = keep_bits afi_bits x }
