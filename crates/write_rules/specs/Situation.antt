-- The situation in which a write is asked about: by the wire a data byte of a write leg, by radio a block, a register or a password.
use Rattle.std.specs.Prelude.{Bool, false, not, ◌&&◌, ◌||◌, List, [], ℕ, ◌+◌, ◌*◌, ◌/◌, leb, ltb, eqb}
use Rattle.parts.specs.Pick.{pick}
use Rattle.dynamic.specs.Dynamic.{dynamic_at, rfMngtDyn, i2cSsoDyn, mbCtrlDyn, mbLenDyn, mailbox_first, mailbox_last}
use Rattle.written_registers.specs.Passed.{no_place, row_of, is_pointer, Core, user_bytes, blocks, page}
use Rattle.write_reasons.specs.Passed.{Space, User, System}
use Rattle.rights.specs.declared.Side.{Side}
use Rattle.rights.specs.declared.Side.TheVariants.{Wire, Radio}
use Rattle.write_reasons.specs.declared.WritePlace.{WritePlace}
use Rattle.write_reasons.specs.declared.WritePlace.TheVariants.{Unmapped, UserMemory, DynamicByte, MailboxByte, SystemRegister, PasswordByte}
use Rattle.write_reasons.specs.declared.WriteAsked.{WriteAsked}
use Rattle.write_reasons.specs.declared.WriteAsked.TheVariants.{DataByte, Block, Pointer, PasswordOf}

pub record Situation : Type 0 where
  pub core : Core
  -- who writes, with the session that it has open
  pub side : Side
  -- what stands there, at which address (of a password its number), in which block
  pub place : WritePlace
  pub address : ℕ
  pub block : ℕ
  -- of a data byte: whether its leg is spoiled, the leg's first address, the byte's number in it from 0, and the bytes before it
  pub spoiled : Bool
  pub first : ℕ
  pub k : ℕ
  pub earlier : List ℕ
  -- the byte for it
  pub byte : ℕ

-- "2003h RF_MNGT_Dyn; 2004h I2C_SSO_Dyn; 2006h MB_CTRL_Dyn; 2007h MB_LEN_Dyn"
unfoldable pub is_dynamic : ℕ → Bool
is_dynamic address =
    eqb address (dynamic_at rfMngtDyn) || eqb address (dynamic_at i2cSsoDyn) || eqb address (dynamic_at mbCtrlDyn) || eqb address (dynamic_at mbLenDyn)

-- "Map, user space: 0000h-01FFh memory; .. 2008h-2107h mailbox."
unfoldable pub user_place : ℕ → WritePlace
user_place address =
    pick (ltb address user_bytes) UserMemory
    (pick (is_dynamic address) DynamicByte
    (pick (leb mailbox_first address && leb address mailbox_last) MailboxByte
    Unmapped))

-- "System: 0003h RF_MNGT, .. 0018h-001Fh UID (read only)."
unfoldable pub is_system : ℕ → Bool
is_system address = not (eqb (row_of address).place no_place) || (leb 0x0018 address && leb address 0x001F)

-- "Password leg, AEh, 0900h"; "A password leg's 17 places count as mapped": it is known by its first address
unfoldable pub system_place : ℕ → ℕ → WritePlace
system_place first address =
    pick (eqb first 0x0900) PasswordByte
    (pick (is_system address) SystemRegister
    Unmapped)

unfoldable pub byte_place : Space → ℕ → ℕ → WritePlace
byte_place User first k = user_place (first + k)
byte_place System first k = system_place first (first + k)

-- data byte k of a write leg, at what stands there
abbrev pub byte_at : WritePlace → Core → Bool → Bool → ℕ → ℕ → List ℕ → ℕ → Situation
byte_at place c session spoiled first k earlier x =
    record { core = c; side = Wire session; place = place; address = first + k; block = (first + k) / 4; spoiled = spoiled; first = first; k = k; earlier = earlier; byte = x }

abbrev pub byte_situation : Space → Core → Bool → Bool → ℕ → ℕ → List ℕ → ℕ → Situation
byte_situation space c session spoiled first k earlier x = byte_at (byte_place space first k) c session spoiled first k earlier x

-- by radio there is no leg, and there are no earlier bytes
abbrev pub radio_at : WritePlace → Core → ℕ → ℕ → ℕ → ℕ → Situation
radio_at place c session address block x =
    record { core = c; side = Radio session; place = place; address = address; block = block; spoiled = false; first = address; k = 0; earlier = []; byte = x }

-- "128 blocks"
unfoldable pub block_place : ℕ → WritePlace
block_place block = pick (leb blocks block) Unmapped UserMemory

abbrev pub block_situation : Core → ℕ → ℕ → Situation
block_situation c session block = radio_at (block_place block) c session (4 * block) block 0

-- A1: "pointers 03-0A, 0D, 0F"
unfoldable pub pointer_place : ℕ → WritePlace
pointer_place pointer = pick (is_pointer pointer) SystemRegister Unmapped

abbrev pub pointer_situation : Core → ℕ → ℕ → ℕ → Situation
pointer_situation c session pointer x = radio_at (pointer_place pointer) c session pointer 0 x

-- "passwords 0 to 3"
unfoldable pub password_place : ℕ → WritePlace
password_place n = pick (ltb 3 n) Unmapped PasswordByte

abbrev pub password_situation : Core → ℕ → ℕ → Situation
password_situation c session n = radio_at (password_place n) c session n 0 0

-- what is asked, of a tag and its memory: the earlier bytes of a leg stand in the page buffer
abbrev pub situation_of : Core → List ℕ → WriteAsked → Situation
situation_of c m (DataByte b) = byte_situation b.space c b.session b.spoiled b.first b.k (page b.k m) b.x
situation_of c m (Block session block) = block_situation c session block
situation_of c m (Pointer session pointer x) = pointer_situation c session pointer x
situation_of c m (PasswordOf session n) = password_situation c session n
