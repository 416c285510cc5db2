-- Every reply has room in the reply buffer. Assumes nothing.
use native.Mathlib.Omega.{arith}
use Prim.Native.Nat.{◌≤◌}
use lib.Dec.{eqb}
use Rattle.parts.proofs.Lists.{length_bytes_at}
use Rattle.parts.proofs.Picks.{pick_case}
use Rattle.tag.specs.Layout.{reply_bytes}
use Rattle.reply.specs.Outcome.{CommandResult}
use Rattle.inventory_reply.proofs.Laws.{end_case}
use Rattle.radio.specs.Claims.{reply_size, RepliesFit, EndOfFrameFits}
use Rattle.radio.specs.Radio.{dynamic_now, busy_now, next_slot_of}
use Rattle.radio.proofs.EveryCommand.{frame_behaves}

pub replies_fit : RepliesFit
replies_fit v u vcc transfer programming m f h = omega (arith, (frame_behaves v vcc m f u transfer programming).room h)

pub end_fits : EndOfFrameFits
unfolding next_slot_of reply_size
end_fits v u transfer programming m =
    let K : CommandResult → Type 0 = λ x. reply_size x.reply ≤ reply_bytes in
    end_case K v u (dynamic_now v transfer) (busy_now transfer programming) m
    (λ _. pick_case K (eqb v.air.slots 1) _ _ (λ _. omega (arith, length_bytes_at u.bytes 0 8)) (λ _. omega arith))
    (omega arith)
