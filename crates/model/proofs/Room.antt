-- The reply buffer keeps its length. Assumes nothing.
use mathlib.Core.Path.{◌≡◌, refl, ◌∙◌}
use mathlib.Core.List.{List}
use Prim.Native.Nat.{ℕ, ◌+◌}
use lib.Dec.{leb}
use lib.ListN.{length, take}
use lib.Seq.{sets, length-sets}
use Rattle.parts.proofs.Picks.{pick_case}
use Rattle.crc.specs.Crc.{crc_bytes, closed_at}
use Rattle.bus.specs.Bus.{transfer_at}
use Rattle.tag.specs.declared.Tag.{Tag}
use Rattle.reply.specs.Reply.{ReplyBody, nothing, body, buffer_of}
use Rattle.reply.specs.Outcome.{radio_side}
use Rattle.radio.specs.Radio.{radio_of, next_slot_of}
use Rattle.signal_table.specs.declared.Signal.{Signal}
use Rattle.signal_table.specs.declared.Signal.TheVariants.{Wire, Field, Frame, EndOfFrame}
use Rattle.refusals.specs.Call.{Call}
use Rattle.refusals.proofs.Laws.{judged_case}
use Rattle.model.specs.Step.{StepResult, act_of, step_of}
use Rattle.model.proofs.Acts.{signal_of_call}

buffer_room : (r : ReplyBody) (o : List ℕ) → length (buffer_of r o) ≡ length o
unfolding buffer_of closed_at
buffer_room nothing o = refl
buffer_room (body b) o =
    let x = sets o 0 b in
    pick_case (λ (l : List ℕ). length l ≡ length o) (leb (length b + 2) (length x)) _ _
    (λ _. length-sets x (length b) (crc_bytes (take (length b) x)) ∙ length-sets o 0 b)
    (λ _. length-sets o 0 b)

act_room : (x : Signal) (t : Tag) (m o s : List ℕ) → length (act_of x t m o s).reply ≡ length o
unfolding act_of
act_room (Wire x) t m o s = refl
act_room (Field on) t m o s = refl
act_room Frame t m o s = buffer_room (radio_of (radio_side t) t.uid t.host.vcc (transfer_at t.host.bus) t.host.programming m s).reply o
act_room EndOfFrame t m o s = buffer_room (next_slot_of (radio_side t) t.uid (transfer_at t.host.bus) t.host.programming m).reply o

pub step_room : (t : Tag) (m : List ℕ) (c : Call) → length (step_of t m c).reply ≡ length c.buffer
unfolding step_of
step_room t m c =
    let P : StepResult → Type 0 = λ e. length e.reply ≡ length c.buffer in
    judged_case P _ _ _ (λ r h. refl) (λ h. act_room (signal_of_call c) t m c.buffer c.frame)
