-- At the entry: what a call leaves that is answered by an error reply. Assumes nothing.
use mathlib.Core.Path.{◌≡◌, sym, ap, subst, ◌∙◌}
use mathlib.Core.List.{List, ◌∷◌}
use Prim.Native.Nat.{ℕ, ◌<◌, ◌≤◌}
use native.Mathlib.Omega.{arith}
use lib.ListN.{length, take, get_or, set}
use lib.Seq.{sets, get_or-set_same}
use Rattle.parts.proofs.Picks.{pick_case}
use Rattle.parts.proofs.Lists.{get_d_sets_before}
use Rattle.crc.specs.Crc.{crc_bytes, closed_at}
use Rattle.bus.specs.Bus.{transfer_at}
use Rattle.tag.specs.declared.Tag.{Tag}
use Rattle.reply.specs.declared.RadioSide.{RadioSide}
use Rattle.reply.specs.Reply.{ReplyBody, body, answer_of, buffer_of}
use Rattle.reply.specs.Outcome.{CommandResult, radio_side, with_radio}
use Rattle.radio.specs.Radio.{radio_of}
use Rattle.radio.proofs.EveryCommand.{Shape, silent, served, failed}
use Rattle.refusals.specs.declared.Refusal.{Refusal}
use Rattle.refusals.proofs.Laws.{judged_case}
use Rattle.refusals.specs.Call.{handed_in}
use Rattle.model.proofs.Acts.{room_of}
use Rattle.model.specs.declared.Answer.{Answer}
use Rattle.model.specs.declared.Answer.TheVariants.{Refused, Nothing, Ack, NoAck, Byte, Silence, Reply}
use Rattle.signal_table.specs.declared.Signal.{Signal}
use Rattle.signal_table.proofs.Laws.{frame_code}
use Rattle.model.specs.Step.{StepResult, from_radio, act_of, step_of}
use Rattle.radio_claims.specs.Claims.{error_leaves, ErrorCallsLeave}
use Rattle.radio_claims.proofs.Errors.{frame_leaves}

-- the first byte of a reply stands first in the buffer
pub first_byte : (x : ℕ) (b o : List ℕ) → 0 < length o → get_or (buffer_of (body (x ∷ b)) o) 0 0 ≡ x
unfolding buffer_of closed_at
first_byte x b o h =
    let stored = sets o 0 (x ∷ b) in
    let kept : get_or stored 0 0 ≡ x = get_d_sets_before b (set o 0 x) 1 0 (omega arith) ∙ get_or-set_same o 0 x 0 h in
    pick_case (λ (l : List ℕ). get_or l 0 0 ≡ x) _ _ _ (λ k. get_d_sets_before (crc_bytes (take (length (x ∷ b)) stored)) stored (length (x ∷ b)) 0 (omega arith) ∙ kept) (λ k. kept)

is_reply : Answer → ℕ
is_reply (Refused why) = 0
is_reply Nothing = 0
is_reply Ack = 0
is_reply NoAck = 0
is_reply (Byte x) = 0
is_reply Silence = 0
is_reply (Reply n) = 1

refused_not : (why : Refusal) (n : ℕ) → Refused why ≡ Reply n → ⊥
unfolding is_reply
refused_not why n h = let e : ◌≡◌ {A = ℕ} 0 1 = ap is_reply h in omega arith

-- what a frame told, in the tag t and the buffer o
told_leaves : (t : Tag) (m o : List ℕ) (after : RadioSide) (r : CommandResult) (n : ℕ) → 0 < length o → Shape after m r
    → from_radio (answer_of r.reply) ≡ Reply n → get_or (buffer_of r.reply o) 0 0 ≡ 0x01
    → (with_radio r.side t ≡ with_radio after t) × (r.memory ≡ m)
unfolding from_radio answer_of is_reply
told_leaves t m o after r n l (silent h) a b =
    let e : ◌≡◌ {A = ℕ} 0 1 = ap (λ (x : ReplyBody). is_reply (from_radio (answer_of x))) (sym h) ∙ ap is_reply a in absurd (omega arith)
told_leaves t m o after r n l (served data- h) a b =
    let e : ◌≡◌ {A = ℕ} 0 1 = sym (first_byte 0 data- o l) ∙ ap (λ (x : ReplyBody). get_or (buffer_of x o) 0 0) (sym h) ∙ b in absurd (omega arith)
told_leaves t m o after r n l (failed e h) a b = (ap (λ (x : CommandResult). with_radio x.side t) h, ap (λ (x : CommandResult). x.memory) h)

pub error_calls_leave : ErrorCallsLeave
unfolding step_of act_of
error_calls_leave t m o s n =
    let transfer = transfer_at t.host.bus in
    let after = error_leaves (radio_side t) t.uid transfer t.host.programming s in
    let P : StepResult → Type 0 = λ (x : StepResult). x.answer ≡ Reply n → get_or x.reply 0 0 ≡ 0x01 → (x.tag ≡ with_radio after t) × (x.memory ≡ m) in
    judged_case P _ _ _ (λ r h a b. absurd (refused_not r n a))
    (λ none.
    let room : 643 ≤ length o = room_of t m (handed_in o 8 0 s) none in
    subst (λ (x : Signal). P (act_of x t m o s)) (sym frame_code)
    (told_leaves t m o after (radio_of (radio_side t) t.uid t.host.vcc transfer t.host.programming m s) n (omega arith)
    (frame_leaves (radio_side t) t.uid t.host.vcc transfer t.host.programming m s)))
