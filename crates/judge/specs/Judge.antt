-- "Frames, in the order they are judged": past the silence list.
use Rattle.std.specs.Prelude.{Bool, not, ◌&&◌, ◌||◌, List, [], ◌∷◌, ℕ, ◌+◌, eqb, Result, Ok, Err}
use Rattle.parts.specs.Pick.{pick}
use Rattle.parts.specs.Bits.{is_set}
use Rattle.register_types.specs.declared.RfMngt.{RfMngt}
use Rattle.air.specs.declared.Air.{Air}
use Rattle.keys.specs.declared.Uid.{Uid}
use Rattle.errors.specs.declared.RadioError.{RadioError}
use Rattle.errors.specs.declared.RadioError.TheVariants.{ShutOut, UnknownCommand, UnsupportedFlags, WrongLength}
use Rattle.rule_list.specs.RuleList.{first_says}
use Rattle.commands.specs.Table.{command_of, is_known, takes_option, param_bytes, select_code, stay_quiet_code}
use Rattle.judge.specs.declared.Verdict.{Verdict}
use Rattle.judge.specs.declared.Verdict.TheVariants.{Silence, Error, Request}
use Rattle.frame.specs.Fields.{command, extension_flag, option_flag, reserved_flag, param_place, crc_place, own_uid, param}
use Rattle.silence_rules.specs.Silence.{is_silent}

-- "Stay Quiet, and Select with another UID: silence"
unfoldable pub is_mute : List ℕ → Uid → Bool
is_mute f u = eqb (command f) stay_quiet_code || (eqb (command f) select_code && not (own_uid f u))

-- an error of the judge's own, or that silence
unfoldable pub error_of : List ℕ → Uid → RadioError → Verdict
error_of f u error = pick (is_mute f u) Silence (Error error)

-- the answer while shut out: from the frame, the air side, the UID and RF_MNGT_Dyn alone
unfoldable pub shut_out : List ℕ → Air → Uid → RfMngt → Verdict
shut_out f a u dynamic = pick (is_silent f a u dynamic) Silence (error_of f u ShutOut)

-- "extension, reserved bit or unsupported option"
unfoldable pub bad_flags : List ℕ → Bool
bad_flags f = extension_flag f || reserved_flag f || (option_flag f && not (takes_option (command_of (command f))))

-- "wrong length"
unfoldable pub wrong_length : List ℕ → Bool
wrong_length f = not (eqb (param_place f + param_bytes (command_of (command f)) (param f 0) (param f 1)) (crc_place f))

pub data ErrorRule : Type 0 where
  isShutOut isUnknown hasBadFlags hasWrongLength : ErrorRule

-- the rule's condition; `busy`: "a transfer open or programming"
unfoldable pub error_holds : List ℕ → RfMngt → Bool → ErrorRule → Bool
error_holds f dynamic busy isShutOut = is_set 1 dynamic.bits || busy
error_holds f dynamic busy isUnknown = not (is_known (command_of (command f)))
error_holds f dynamic busy hasBadFlags = bad_flags f
error_holds f dynamic busy hasWrongLength = wrong_length f

-- and its error
unfoldable pub rule_error : ErrorRule → RadioError
-- "Then, with RF_MNGT_Dyn b0, a transfer open or programming: 0Fh .., no change."
rule_error isShutOut = ShutOut
-- "Then 01h unknown command"
rule_error isUnknown = UnknownCommand
-- "03h extension, reserved bit or unsupported option"
rule_error hasBadFlags = UnsupportedFlags
-- "02h wrong length"
rule_error hasWrongLength = WrongLength

unfoldable pub error_rules : List ErrorRule
error_rules = isShutOut ∷ isUnknown ∷ hasBadFlags ∷ hasWrongLength ∷ []

-- the error of the first that holds, if one does
unfoldable pub first_error : List ℕ → RfMngt → Bool → Result (Unit {0}) RadioError
first_error f dynamic busy = first_says (error_holds f dynamic busy) (λ rule. Err (rule_error rule)) (Ok tt) error_rules

-- the whole order: silence, the first error that holds, or a request
unfoldable pub judge : List ℕ → Air → Uid → RfMngt → Bool → Verdict
judge f a u dynamic busy =
    pick (is_silent f a u dynamic) Silence
    (first_says (error_holds f dynamic busy) (λ rule. error_of f u (rule_error rule)) Request error_rules)
