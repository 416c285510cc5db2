-- What is proved of A1, beside the functions' contracts: its codes are the verdict's.
use Rattle.std.specs.Prelude.{◌≡◌, List, [], ℕ, ⊤, Result, Ok, Err}
use Rattle.parts.specs.Pick.{pick}
use Rattle.errors.specs.declared.RadioError.{RadioError}
use Rattle.errors.specs.declared.RadioError.TheVariants.{NoSuchRegister, ConfigurationClosed, EndRefused}
use Rattle.reply.specs.declared.RadioSide.{RadioSide}
use Rattle.reply.specs.Reply.{good}
use Rattle.reply.specs.Outcome.{CommandResult, command_result, fails, with_radio_core}
use Rattle.write_reasons.specs.declared.WriteReason.{WriteReason}
use Rattle.write_reasons.specs.declared.WriteReason.TheVariants.{OutsideMap, EndaRule}
use Rattle.write_reasons.specs.Reasons.{is_reason}
use Rattle.write_verdict.specs.Passed.{pointer_situation, write_verdict}
use Rattle.config.specs.Config.{written_core, write_config_of}

-- "pointers .., else 10h"; "0Fh ENDA"; else "12h if LOCK_CFG or password 0 session closed"
unfoldable pub config_error : WriteReason → RadioError
config_error reason = pick (is_reason reason OutsideMap) NoSuchRegister (pick (is_reason reason EndaRule) EndRefused ConfigurationClosed)

unfoldable pub config_by : Result ⊤ WriteReason → RadioSide → List ℕ → ℕ → ℕ → CommandResult
config_by (Ok unit) v m pointer x = command_result (good []) (with_radio_core (written_core v.core pointer x) v) m
config_by (Err reason) v m pointer x = fails (config_error reason) v m

abbrev pub ConfigByVerdict : Type 0
ConfigByVerdict = (v : RadioSide) (m : List ℕ) (pointer x : ℕ)
    → write_config_of v m pointer x ≡ config_by (write_verdict (pointer_situation v.core v.air.session pointer x)) v m pointer x
