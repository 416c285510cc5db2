-- What is proved of B1, beside the functions' contracts: its codes are the verdict's.
use Rattle.std.specs.Prelude.{◌≡◌, List, [], ℕ, ⊤, Result, Ok, Err}
use Rattle.parts.specs.Pick.{pick}
use Rattle.keys.specs.Keys.{password_at, with_radio_password}
use Rattle.errors.specs.declared.RadioError.{RadioError}
use Rattle.errors.specs.declared.RadioError.TheVariants.{NoSuchPassword, PasswordSessionClosed}
use Rattle.reply.specs.declared.RadioSide.{RadioSide}
use Rattle.reply.specs.Reply.{good}
use Rattle.reply.specs.Outcome.{CommandResult, command_result, fails, side_passwords}
use Rattle.write_reasons.specs.declared.WriteReason.{WriteReason}
use Rattle.write_reasons.specs.declared.WriteReason.TheVariants.{OutsideMap}
use Rattle.write_reasons.specs.Reasons.{is_reason}
use Rattle.write_verdict.specs.Passed.{password_situation, write_verdict}
use Rattle.password.specs.Password.{write_password_of}

-- "10h; 12h unless session n"
unfoldable pub password_error : WriteReason → RadioError
password_error reason = pick (is_reason reason OutsideMap) NoSuchPassword PasswordSessionClosed

unfoldable pub password_by : Result ⊤ WriteReason → RadioSide → List ℕ → ℕ → List ℕ → ℕ → CommandResult
password_by (Ok unit) v m n frame at = command_result (good []) (side_passwords (with_radio_password n (password_at frame at) v.core.passwords) v) m
password_by (Err reason) v m n frame at = fails (password_error reason) v m

abbrev pub PasswordByVerdict : Type 0
PasswordByVerdict = (v : RadioSide) (m : List ℕ) (n : ℕ) (frame : List ℕ) (at : ℕ)
    → write_password_of v m n frame at ≡ password_by (write_verdict (password_situation v.core v.air.session n)) v m n frame at
