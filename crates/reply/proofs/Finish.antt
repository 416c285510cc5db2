-- A return: what a function says and leaves, against what its command told. Assumes nothing.
use mathlib.Core.Path.{◌≡◌, ap, ◌∙◌}
use mathlib.Core.List.{List}
use Prim.Native.Nat.{ℕ, suc, ◌+◌}
use Rattle.std.specs.Prelude.{Option, None, Some}
use native.Mathlib.Omega.{arith}
use lib.ListN.{length, set}
use lib.Seq.{sets}
use Rattle.crc.specs.Crc.{closed_at}
use Rattle.reply.specs.declared.RadioSide.{RadioSide}
use Rattle.reply.specs.Reply.{ReplyBody, nothing, good, ReplyResult, reply_result, put_reply, answer_of, buffer_of}
use Rattle.reply.specs.Outcome.{CommandResult, command_result, RadioResult, radio_result, finish}

-- the buffer o became p by a reply x, and the command told x, s and m
pub said : {s : RadioSide} {m p : List ℕ} {a : Option ℕ} (t : CommandResult) (o : List ℕ) (x : ReplyBody) → reply_result a p ≡ put_reply x o → command_result x s m ≡ t → radio_result (record { answer = a; side = s }) m p ≡ finish t o
said t o x e h = rw (← h, ap (λ (y : ReplyResult). y.answer) e, ap (λ (y : ReplyResult). y.buffer) e)

-- the command told x, by a function that left the result r
pub handed_on : {r : RadioResult} (t : CommandResult) (o : List ℕ) (x : CommandResult) → r ≡ finish x o → x ≡ t → r ≡ finish t o
handed_on t o x e h = e ∙ ap (λ (y : CommandResult). finish y o) h

-- the command told silence, s and m
pub silent : {s : RadioSide} {m o : List ℕ} (t : CommandResult) → command_result nothing s m ≡ t → radio_result (record { answer = None; side = s }) m o ≡ finish t o
unfolding answer_of buffer_of
silent t h = rw (← h)

-- a good reply whose data stand in the buffer after its first byte, closed
pub good_run : {a : Option ℕ} {p : List ℕ} (data- o filled : List ℕ) (n : ℕ) → n ≡ 1 + length data- → filled ≡ sets (set o 0 0x00) 1 data-
    → reply_result a p ≡ reply_result (Some (n + 2)) (closed_at filled n) → reply_result a p ≡ put_reply (good data-) o
unfolding answer_of buffer_of
good_run data- o filled n l f e =
    let h : n ≡ suc (length data-) = omega arith in
    e ∙ rw (h, f)
