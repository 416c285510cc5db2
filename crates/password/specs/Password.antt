-- Commands on passwords: B3 Present, B1 Write Password.
use Rattle.std.specs.Prelude.{not, List, [], ℕ, ◌+◌, ltb, eqb}
use Rattle.parts.specs.Pick.{pick}
use Rattle.air.specs.Parts.{with_radio_session}
use Rattle.keys.specs.Keys.{password_at, same_password, radio_password, with_radio_password}
use Rattle.errors.specs.declared.RadioError.TheVariants.{NoSuchPassword, WrongPassword, PasswordSessionClosed}
use Rattle.reply.specs.declared.RadioSide.{RadioSide}
use Rattle.reply.specs.Reply.{good, fault}
use Rattle.reply.specs.Outcome.{CommandResult, command_result, fails, with_air, side_passwords}

-- "B3 Present (n, 8 bytes): 10h n above 3, session kept; wrong: session closed, 0Fh"; the password stands at place `at` of the frame
unfoldable pub present_of : RadioSide → List ℕ → ℕ → List ℕ → ℕ → CommandResult
present_of v m n frame at =
    pick (ltb 3 n) (fails NoSuchPassword v m)
    (pick (not (same_password (radio_password v.core.passwords n) (password_at frame at))) (command_result (fault WrongPassword) (with_air (with_radio_session 0 v.air) v) m)
    (command_result (good []) (with_air (with_radio_session (n + 1) v.air) v) m))

-- "B1 Write Password: 10h; 12h unless session n"
unfoldable pub write_password_of : RadioSide → List ℕ → ℕ → List ℕ → ℕ → CommandResult
write_password_of v m n frame at =
    pick (ltb 3 n) (fails NoSuchPassword v m)
    (pick (not (eqb v.air.session (n + 1))) (fails PasswordSessionClosed v m)
    (command_result (good []) (side_passwords (with_radio_password n (password_at frame at) v.core.passwords) v) m))
