-- The dynamic registers as one table: all that asks for one by its address in user space or by a radio pointer reads it here.
use Rattle.std.specs.Prelude.{Bool, ◌||◌, ℕ, eqb}

pub data DynamicRegister : Type 0 where
  rfMngtDyn i2cSsoDyn mbCtrlDyn mbLenDyn : DynamicRegister

-- the address on the wire: "2003h RF_MNGT_Dyn; 2004h I2C_SSO_Dyn; 2006h MB_CTRL_Dyn; 2007h MB_LEN_Dyn"
abbrev pub dynamic_at : DynamicRegister → ℕ
dynamic_at rfMngtDyn = 0x2003
dynamic_at i2cSsoDyn = 0x2004
dynamic_at mbCtrlDyn = 0x2006
dynamic_at mbLenDyn = 0x2007

-- "2008h-2107h mailbox"
abbrev pub mailbox_first : ℕ
mailbox_first = 0x2008

abbrev pub mailbox_last : ℕ
mailbox_last = 0x2107

-- an address of one that the host may write: "RF_MNGT_Dyn and MB_CTRL_Dyn, always". The host reads each.
abbrev pub host_writes : ℕ → Bool
host_writes address = eqb address (dynamic_at rfMngtDyn) || eqb address (dynamic_at mbCtrlDyn)

-- the radio's pointer to MB_CTRL_Dyn, which it reads and writes: "AD, AE Dynamic: pointer 0D". It has none to the others.
abbrev pub mb_ctrl_pointer : ℕ
mb_ctrl_pointer = 0x0D
