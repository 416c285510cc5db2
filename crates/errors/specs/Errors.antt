-- The errors of the radio: the code of each error rule, in the order of "Frames, in the order they are judged" and of the table of commands.
use Rattle.std.specs.Prelude.{ℕ}
use Rattle.errors.specs.declared.RadioError.{RadioError}
use Rattle.errors.specs.declared.RadioError.TheVariants.{ShutOut, UnknownCommand, UnsupportedFlags, WrongLength, NoSuchBlock, ReadLeavesArea, ReadProtected, TooManyBlocks, WriteLeavesArea, WriteForbidden, NotLockable, AlreadyLocked, NoSuchRegister, ConfigurationClosed, EndRefused, NoSuchDynamicRegister, MailboxUnavailable, MailboxDisabled, PastMessage, NoSuchPassword, WrongPassword, PasswordSessionClosed}

abbrev pub error_code : RadioError → ℕ
-- "Then, with RF_MNGT_Dyn b0, a transfer open or programming: 0Fh"
error_code ShutOut = 0x0F
-- "Then 01h unknown command"
error_code UnknownCommand = 0x01
-- "03h extension, reserved bit or unsupported option"
error_code UnsupportedFlags = 0x03
-- "02h wrong length"
error_code WrongLength = 0x02
-- 20, 23: "10h first above 127"; 21, 24, 2C: "10h"
error_code NoSuchBlock = 0x10
-- 20, 23: "0Fh leaves area or memory"
error_code ReadLeavesArea = 0x0F
-- "15h protected"
error_code ReadProtected = 0x15
-- "24: count-1 at most 3, else 0Fh"
error_code TooManyBlocks = 0x0F
-- 21, 24: "0Fh leaves area or memory"
error_code WriteLeavesArea = 0x0F
-- "12h no right or locked"
error_code WriteForbidden = 0x12
-- 22: "10h block above 1"
error_code NotLockable = 0x10
-- "11h already locked"
error_code AlreadyLocked = 0x11
-- A0, A1: "pointers .., else 10h"
error_code NoSuchRegister = 0x10
-- "A1: 12h if LOCK_CFG or password 0 session closed"
error_code ConfigurationClosed = 0x12
-- A1: "0Fh ENDA"
error_code EndRefused = 0x0F
-- AD, AE: "pointer 0D, else 10h"
error_code NoSuchDynamicRegister = 0x10
-- AA: "0Fh unless MB_EN and no PUT"
error_code MailboxUnavailable = 0x0F
-- AB, AC: "0Fh if MB_EN is 0"
error_code MailboxDisabled = 0x0F
-- AC: "0Fh past or empty"
error_code PastMessage = 0x0F
-- B3: "10h n above 3"; B1: "10h"
error_code NoSuchPassword = 0x10
-- B3: "wrong: session closed, 0Fh"
error_code WrongPassword = 0x0F
-- B1: "12h unless session n"
error_code PasswordSessionClosed = 0x12

-- the number under which the rule is named in an explanation (docs/LIBRARY.md); those below are of the wire and of silence
abbrev pub error_number : RadioError → ℕ
error_number ShutOut = 33
error_number UnknownCommand = 34
error_number UnsupportedFlags = 35
error_number WrongLength = 36
error_number NoSuchBlock = 37
error_number ReadLeavesArea = 38
error_number ReadProtected = 39
error_number TooManyBlocks = 40
error_number WriteLeavesArea = 41
error_number WriteForbidden = 42
error_number NotLockable = 43
error_number AlreadyLocked = 44
error_number NoSuchRegister = 45
error_number ConfigurationClosed = 46
error_number EndRefused = 47
error_number NoSuchDynamicRegister = 48
error_number MailboxUnavailable = 49
error_number MailboxDisabled = 50
error_number PastMessage = 51
error_number NoSuchPassword = 52
error_number WrongPassword = 53
error_number PasswordSessionClosed = 54
