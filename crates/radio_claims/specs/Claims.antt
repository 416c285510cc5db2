-- What 01 says of the radio's replies as a whole, beside the rows of its table.
use Rattle.std.specs.Prelude.{◌≡◌, Bool, true, false, not, ◌&&◌, List, [], ◌∷◌, ◌⊎◌, ℕ, ◌+◌, ◌*◌, ◌<◌, leb, eqb, length, get_or, Option}
use Rattle.bus.specs.declared.OpenTransfer.{OpenTransfer}
use Rattle.parts.specs.Pick.{pick}
use Rattle.keys.specs.declared.Uid.{Uid}
use Rattle.bus.specs.Bus.{transfer_at}
use Rattle.tag.specs.declared.Tag.{Tag}
use Rattle.keys.specs.Keys.{password_at, same_password, radio_password}
use Rattle.air.specs.Parts.{with_radio_session}
use Rattle.errors.specs.declared.RadioError.{RadioError}
use Rattle.errors.specs.declared.RadioError.TheVariants.{WriteForbidden}
use Rattle.reply.specs.declared.RadioSide.{RadioSide}
use Rattle.reply.specs.Reply.{ReplyBody, body, good, fault}
use Rattle.reply.specs.Outcome.{command_result, fails, with_air, radio_side, with_radio}
use Rattle.judge.specs.declared.Verdict.{Verdict}
use Rattle.judge.specs.declared.Verdict.TheVariants.{Silence, Error, Request}
use Rattle.frame.specs.Fields.{command, inventory_flag, option_flag, param_place, param}
use Rattle.radio.specs.Radio.{verdict_of, radio_of}
use Rattle.refusals.specs.Call.{handed_in}
use Rattle.model.specs.declared.Answer.TheVariants.{Reply}
use Rattle.model.specs.Step.{step_of}

-- ---- "01h and the code (nothing changed but by B3)"
-- without B3: a reply that begins with 01h has the code of an error rule, and tag and memory stay
abbrev pub ErrorsChangeNothing : Type 0
ErrorsChangeNothing = (v : RadioSide) (u : Uid) (vcc : Bool) (transfer : Option OpenTransfer) (programming : Bool) (m f rest : List ℕ)
    → (command f ≡ 0xB3 → ⊥)
    → (radio_of v u vcc transfer programming m f).reply ≡ body (0x01 ∷ rest)
    → (error : RadioError) × (radio_of v u vcc transfer programming m f ≡ fails error v m)

-- the verdict lets the frame be served
unfoldable pub is_request : Verdict → Bool
is_request Silence = false
is_request (Error error) = false
is_request Request = true

-- B3 "wrong": n at most 3, and other bytes than password n's
abbrev pub presents_wrong : RadioSide → List ℕ → Bool
presents_wrong v f =
    leb (param f 0) 3
    && not (same_password (radio_password v.core.passwords (param f 0)) (password_at f (param_place f + 1)))

abbrev pub session_closed : RadioSide → RadioSide
session_closed v = with_air (with_radio_session 0 v.air) v

-- what an error reply leaves: "session closed" by a B3 that is served and wrong, and nothing else changed
abbrev pub error_leaves : RadioSide → Uid → Option OpenTransfer → Bool → List ℕ → RadioSide
error_leaves v u transfer programming f =
    pick (is_request (verdict_of v u transfer programming f) && eqb (command f) 0xB3 && presents_wrong v f)
    (session_closed v) v

-- every frame, B3 too
abbrev pub ErrorsLeave : Type 0
ErrorsLeave = (v : RadioSide) (u : Uid) (vcc : Bool) (transfer : Option OpenTransfer) (programming : Bool) (m f rest : List ℕ)
    → (radio_of v u vcc transfer programming m f).reply ≡ body (0x01 ∷ rest)
    → (error : RadioError) × (radio_of v u vcc transfer programming m f ≡ command_result (fault error) (error_leaves v u transfer programming f) m)

-- the same at the entry: a frame's call that is answered by a reply whose first byte is 01h
abbrev pub ErrorCallsLeave : Type 0
ErrorCallsLeave = (t : Tag) (m o f : List ℕ) (n : ℕ)
    → let result = step_of t m (handed_in o 8 0 f) in
    result.answer ≡ Reply n → get_or result.reply 0 0 ≡ 0x01
    → (result.tag ≡ with_radio (error_leaves (radio_side t) t.uid (transfer_at t.host.bus) t.host.programming f) t)
    × (result.memory ≡ m)

-- ---- "1 exactly when 21 would give 12h"
-- the frame f asks for the command of a code, and is served; it is no inventory
pub record Asks (v : RadioSide) (u : Uid) (transfer : Option OpenTransfer) (programming : Bool) (code : ℕ) (f : List ℕ) : Type 0 where
  pub plain : inventory_flag f ≡ false
  pub judged : verdict_of v u transfer programming f ≡ Request
  pub named : command f ≡ code

-- a status byte, and 21's reply on that block: 1 and 12h, or 0 and done
abbrev pub StatusAgrees : ℕ → ReplyBody → Type 0
StatusAgrees x reply = ((x ≡ 1) × (reply ≡ fault WriteForbidden)) ⊎ ((x ≡ 0) × (reply ≡ good []))

-- 2C: byte k of its data is the status of block first + k; `write` asks for 21 on that block
abbrev pub StatusAsWrite : Type 0
StatusAsWrite = (v : RadioSide) (u : Uid) (vcc : Bool) (transfer : Option OpenTransfer) (programming : Bool) (m status write data- : List ℕ) (k : ℕ)
    → Asks v u transfer programming 0x2C status
    → Asks v u transfer programming 0x21 write → param write 0 ≡ param status 0 + k
    → (radio_of v u vcc transfer programming m status).reply ≡ good data- → k < length data-
    → StatusAgrees (get_or data- k 0) (radio_of v u vcc transfer programming m write).reply

-- 20, 23 with the option: "status byte before each block, as 2C", five bytes a block
abbrev pub OptionStatusAsWrite : Type 0
OptionStatusAsWrite = (v : RadioSide) (u : Uid) (vcc : Bool) (transfer : Option OpenTransfer) (programming : Bool) (m read write data- : List ℕ) (k : ℕ)
    → (Asks v u transfer programming 0x20 read) ⊎ (Asks v u transfer programming 0x23 read) → option_flag read ≡ true
    → Asks v u transfer programming 0x21 write → param write 0 ≡ param read 0 + k
    → (radio_of v u vcc transfer programming m read).reply ≡ good data- → 5 * k < length data-
    → StatusAgrees (get_or data- (5 * k) 0) (radio_of v u vcc transfer programming m write).reply
