-- An error reply changes nothing but by B3, and B3 closes a session at most. Assumes nothing.
use Rattle.std.specs.Prelude.{Option}
use Rattle.bus.specs.declared.OpenTransfer.{OpenTransfer}
use mathlib.Core.Path.{◌≡◌, refl, sym, ap, ◌∙◌}
use mathlib.Core.Bool.{Bool, true, false, not, ◌&&◌, false≢true}
use mathlib.Core.List.{List, [], ◌∷◌}
use mathlib.Core.Logic.{⊎_elim}
use Prim.Native.Nat.{ℕ, ◌+◌}
use native.Mathlib.Omega.{arith}
use lib.Dec.{eqb}
use lib.ListN.{get_or}
use borrow.Author.Tests.{eq-eqb, eqb-true, lt-leb, le-leb}
use Rattle.parts.specs.Pick.{pick}
use Rattle.parts.proofs.Picks.{pick_true, pick_false, pick_case}
use Rattle.rule_list.specs.RuleList.{first_says}
use Rattle.keys.specs.declared.Uid.{Uid}
use Rattle.keys.specs.Keys.{password_at, same_password, radio_password}
use Rattle.errors.specs.declared.RadioError.{RadioError}
use Rattle.reply.specs.declared.RadioSide.{RadioSide}
use Rattle.reply.specs.Reply.{ReplyBody, nothing, body, fault}
use Rattle.reply.specs.Outcome.{CommandResult, command_result}
use Rattle.commands.specs.Table.{command_table, command_of}
use Rattle.frame.specs.Fields.{command, param_place, param, inventory_flag}
use Rattle.inventory.specs.Inventory.{answers_now}
use Rattle.inventory_reply.specs.Answers.{inventory_of}
use Rattle.inventory_reply.proofs.Laws.{inventory_case}
use Rattle.register_types.specs.declared.RfMngt.{RfMngt}
use Rattle.judge.specs.declared.Verdict.{Verdict}
use Rattle.judge.specs.declared.Verdict.TheVariants.{Silence, Error, Request}
use Rattle.password.specs.Password.{present_of}
use Rattle.password.proofs.Cases.{present_case}
use Rattle.request.specs.Request.{request_of}
use Rattle.serve.specs.Commands.{serve_command, serve_of}
use Rattle.serve.proofs.Rows.{known_row}
use Rattle.radio.specs.Radio.{dynamic_now, busy_now, verdict_result, verdict_of, radio_of}
use Rattle.radio.proofs.EveryCommand.{Shape, silent, served, failed, request_behaves, frame_behaves}
use Rattle.radio_claims.specs.Claims.{ErrorsChangeNothing, is_request, presents_wrong, session_closed, error_leaves, ErrorsLeave}

-- the same reply has the same first byte; silence is none
first_of : ReplyBody → ℕ
first_of nothing = 2
first_of (body b) = get_or b 0 2

pub first_same : (x y : ℕ) (b c : List ℕ) → body (x ∷ b) ≡ body (y ∷ c) → x ≡ y
unfolding first_of
first_same x y b c h = ap first_of h

not_silent : (b : List ℕ) → nothing ≡ body (0x01 ∷ b) → ⊥
unfolding first_of
not_silent b h = let e : ◌≡◌ {A = ℕ} 2 1 = ap first_of h in omega arith

-- a reply that begins with 01h is an error
error_of_lem : (after : RadioSide) (m : List ℕ) (x : CommandResult) (rest : List ℕ) → Shape after m x → x.reply ≡ body (0x01 ∷ rest)
    → (e : RadioError) × (x ≡ command_result (fault e) after m)
error_of_lem after m x rest (silent h) k = absurd (not_silent rest (sym h ∙ k))
error_of_lem after m x rest (served data- h) k = absurd (omega (arith, first_same 0 1 data- rest (sym h ∙ k)))
error_of_lem after m x rest (failed e h) k = (e, h)

pub errors_change_nothing : ErrorsChangeNothing
errors_change_nothing v u vcc transfer programming m f rest other h =
    error_of_lem v m _ rest (⊎_elim (λ b3. absurd (other b3)) (λ s. s) (frame_behaves v vcc m f u transfer programming).errors) h

-- ---- B3, and every frame with what its error leaves
module _ (v : RadioSide) (u : Uid) (vcc : Bool) (m f : List ℕ) where
  -- n above 3 keeps the session, wrong bytes close it, right ones are no error
  present_shape : Shape (pick (presents_wrong v f) (session_closed v) v) m (present_of v m (param f 0) f (param_place f + 1))
  present_shape =
      let n = param f 0 in
      let wrong = not (same_password (radio_password v.core.passwords n) (password_at f (param_place f + 1))) in
      let and-wrong : Bool → Bool = λ (b : Bool). b && wrong in
      let left : RadioError → RadioSide → CommandResult = λ (e : RadioError) (x : RadioSide). command_result (fault e) x m in
      present_case (Shape (pick (presents_wrong v f) (session_closed v) v) m) v m n f (param_place f + 1)
      (λ h e. failed e (ap (left e) (pick_false (session_closed v) v v (presents_wrong v f) (ap and-wrong (lt-leb n 3 h)) refl)))
      (λ h k e. failed e (ap (left e) (pick_true (session_closed v) v (session_closed v) (presents_wrong v f) (ap and-wrong (le-leb n 3 h) ∙ k) refl)))
      (λ h. served [] refl)

  present_row : command f ≡ 0xB3 → serve_of (request_of f u) v vcc m f ≡ present_of v m (param f 0) f (param_place f + 1)
  unfolding command_of command_table first_says pick serve_command
  present_row h = known_row (request_of f u) v vcc m f _ (ap command_of h)

  request_shape : (b : Bool) → eqb (command f) 0xB3 ≡ b → Shape (pick (b && presents_wrong v f) (session_closed v) v) m (serve_of (request_of f u) v vcc m f)
  unfolding pick
  request_shape true h = rw (present_row (eqb-true (command f) 0xB3 h)) present_shape
  request_shape false h = ⊎_elim (λ b3. absurd (false≢true (sym h ∙ eq-eqb (command f) 0xB3 b3))) (λ s. s) (request_behaves v vcc m f u).errors

  answer_leaves : (verdict : Verdict)
      → Shape (pick (is_request verdict && eqb (command f) 0xB3 && presents_wrong v f) (session_closed v) v) m (verdict_result verdict v u vcc m f)
  unfolding verdict_result is_request pick
  answer_leaves Silence = silent refl
  answer_leaves (Error e) = failed e refl
  answer_leaves Request = request_shape (eqb (command f) 0xB3) refl

-- an inventory frame gets no error
inventory_leaves : (v after : RadioSide) (u : Uid) (dynamic : RfMngt) (busy : Bool) (m f : List ℕ) → Shape after m (inventory_of v u dynamic busy m f)
inventory_leaves v after u dynamic busy m f =
    let K : CommandResult → Type 0 = Shape after m in
    let own = v.core.registers.afi in
    inventory_case K v u dynamic busy m f (λ _. pick_case K (answers_now f u own) _ _ (λ _. served _ refl) (λ _. silent refl)) (silent refl)

pub frame_leaves : (v : RadioSide) (u : Uid) (vcc : Bool) (transfer : Option OpenTransfer) (programming : Bool) (m f : List ℕ)
    → Shape (error_leaves v u transfer programming f) m (radio_of v u vcc transfer programming m f)
unfolding radio_of
frame_leaves v u vcc transfer programming m f =
    pick_case (Shape (error_leaves v u transfer programming f) m) (inventory_flag f) _ _
    (λ h. inventory_leaves v (error_leaves v u transfer programming f) u (dynamic_now v transfer) (busy_now transfer programming) m f)
    (λ h. answer_leaves v u vcc m f (verdict_of v u transfer programming f))

pub errors_leave : ErrorsLeave
errors_leave v u vcc transfer programming m f rest h =
    error_of_lem _ m _ rest (frame_leaves v u vcc transfer programming m f) h
