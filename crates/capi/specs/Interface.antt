-- What a program in C or Rust calls: numbers and lent bytes, the state among them.
use Rattle.std.specs.Prelude.{List, ℕ, ◌+◌}
use Rattle.keys.specs.Keys.{uid_at}
use Rattle.state.specs.Layout.{tag_of}
use Rattle.refusals.specs.declared.Refusal.{Refusal}
use Rattle.refusals.specs.Call.{Call}
use Rattle.refusals.specs.Refusals.{number, judgement, unless_refused}
use Rattle.model.specs.declared.Answer.{Answer}
use Rattle.model.specs.declared.Answer.TheVariants.{Refused, Nothing, Ack, NoAck, Byte, Silence, Reply}
use Rattle.model.specs.Step.{step_of, fresh_of}
use Rattle.next_state.specs.After.{state_after}
use Rattle.library_refusals.specs.Rules.{step_rules, fresh_call_rules}

-- ---- the numbers
-- of an answer; the n bytes of a reply include its CRC
unfoldable pub answer_number : Answer → ℕ
answer_number (Refused refusal) = number refusal
answer_number Nothing = 0x100
answer_number Ack = 0x101
answer_number NoAck = 0x102
answer_number (Byte x) = 0x200 + x
answer_number Silence = 0x103
answer_number (Reply n) = 0x1000 + n

-- ---- one call
-- the number, and each lent buffer at the return
pub record CallResult : Type 0 where
  pub number : ℕ
  pub state : List ℕ
  pub memory : List ℕ
  pub reply : List ℕ

abbrev pub call_result : ℕ → List ℕ → List ℕ → List ℕ → CallResult
call_result n s m o = record { number = n; state = s; memory = m; reply = o }

-- the model's step of the tag. After a refusal every lent byte is as before.
unfoldable pub step_call : List ℕ → List ℕ → Call → CallResult
step_call s m call =
    unless_refused (judgement (step_rules s m call)) (λ (refusal : Refusal). call_result (number refusal) s m call.buffer)
    (let result = step_of (tag_of s) m call in
    call_result (answer_number result.answer) (state_after s result.answer result.tag) result.memory result.reply)

-- ---- the fresh tag
pub record FreshCallResult : Type 0 where
  pub number : ℕ
  pub state : List ℕ
  pub memory : List ℕ

abbrev pub fresh_call_result : ℕ → List ℕ → List ℕ → FreshCallResult
fresh_call_result n s m = record { number = n; state = s; memory = m }

unfoldable pub fresh_call : List ℕ → List ℕ → List ℕ → FreshCallResult
fresh_call uid m s =
    unless_refused (judgement (fresh_call_rules uid m s)) (λ (refusal : Refusal). fresh_call_result (number refusal) s m)
    (let result = fresh_of (uid_at uid 0) m in
    fresh_call_result (answer_number result.answer) (state_after s result.answer result.tag) result.memory)
