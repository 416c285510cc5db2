-- Lists of calls of the entry point: refusals 1 and 4 never come, frames may be struck out, and each struck one is shut out.
-- Assumes nothing.
use mathlib.Core.Path.{◌≡◌, refl, sym, ap, subst, ◌∙◌}
use mathlib.Core.Bool.{Bool, true, false, ◌||◌}
use mathlib.Core.List.{List, [], ◌∷◌}
use Rattle.parts.specs.Pick.{pick}
use Rattle.parts.proofs.Picks.{pick_case}
use Rattle.register_types.specs.declared.RfMngt.{RfMngt}
use Rattle.bus.specs.Bus.{is_open, transfer_at}
use Rattle.keys.specs.declared.Uid.{Uid}
use Prim.Native.Nat.{ℕ}
use Rattle.air.specs.declared.Air.{Air}
use Rattle.tag.specs.declared.Tag.{Tag}
use Rattle.waiting.specs.Passed.{transfer_open, CallAnswer, Device, DeviceResult, RunResult, run_result, entry, run_by, frames_fit, call_reply}
use Rattle.reply.specs.Reply.{ReplyBody}
use Rattle.signal_table.specs.declared.Signal.{Signal}
use Rattle.signal_table.specs.declared.Signal.TheVariants.{Wire, Field, Frame, EndOfFrame}
use Rattle.signal_table.specs.Table.{signal_by}
use Rattle.refusals.specs.Call.{Call}
use Rattle.demand3.specs.Demand3.{state_refused, struck, others, other_answers, shut_reply, Shut, start_after, EachStruck, AllShut, RepliesShut}
use Rattle.waiting.proofs.Passed.{Fits, first_fits, rest_fits, fits_next, closed_counted}
use Rattle.demand3.proofs.OneCall.{tag_counted, shut_of, struck_is, Stays, call_stays, call_judged}

-- ---- one call
-- the start of the open transfer has the tag's UID, and the RF_MNGT_Dyn that counts; with none open the tag is its own start
pub record Since (start t : Tag) : Type 0 where
  pub uid : start.uid ≡ t.uid
  pub counted : start.core.registers.dynamic ≡ tag_counted t

-- as the tag at the start has it
from_start : (x : Signal) (start : Tag) (a : Air) (f : List ℕ) → shut_of x f a start.uid start.core.registers.dynamic ≡ shut_reply x start a f
unfolding shut_of shut_reply
from_start (Wire s) start a f = refl
from_start (Field on) start a f = refl
from_start Frame start a f = refl
from_start EndOfFrame start a f = refl

shut_reply_lem : (start : Tag) (d : Device) (c : Call) → Fits d → Since start d.tag → struck entry d c ≡ true → RepliesShut entry start d c
shut_reply_lem start d c f s h =
    let x = signal_by c.code c.value in
    ap (λ (e : DeviceResult). e.says) (struck_is d c f h)
    ∙ ap (λ (u : Uid). call_reply (shut_of x c.frame d.tag.air u (tag_counted d.tag)) c.buffer) (sym s.uid)
    ∙ ap (λ (dynamic : RfMngt). call_reply (shut_of x c.frame d.tag.air start.uid dynamic) c.buffer) (sym s.counted)
    ∙ ap (λ (reply : ReplyBody). call_reply reply c.buffer) (from_start x start d.tag.air c.frame)

shut_call_lem : (start : Tag) (d : Device) (c : Call) → Fits d → Since start d.tag → struck entry d c ≡ true → Shut entry start d c
shut_call_lem start d c f s h = record { unchanged = ap (λ (e : DeviceResult). e.device) (struck_is d c f h); reply = shut_reply_lem start d c f s h }

-- with none open the tag itself is the start
since_after : (start t : Tag) → (transfer_open t ≡ true → Since start t) → Since (start_after start t) t
unfolding is_open
since_after start t h =
    pick_case (λ (x : Tag). Since x t) (transfer_open t) start t h
    (λ n. record { uid = refl; counted = sym (closed_counted (transfer_at t.host.bus) t.core.registers.dynamic n) })

since_next : (start : Tag) (d : Device) (e : DeviceResult) → Stays d e → Since start d.tag → transfer_open e.device.tag ≡ true → Since start e.device.tag
since_next start d e k s h = record { uid = s.uid ∙ sym k.uid; counted = s.counted ∙ sym (k.counted h) }

-- `rest` are the calls left of the others, `call_answer` their answers
abbrev pub RunsTo : Device → List Call → List CallAnswer → Device → Type 0
RunsTo d rest call_answer end = run_by entry d rest ≡ run_result call_answer end

strike : (d : Device) (c : Call) (rest : List Call) (call_answer : List CallAnswer) (end : Device) → (entry d c).device ≡ d
    → RunsTo (entry d c).device rest call_answer end → RunsTo d rest call_answer end
strike d c rest call_answer end h r = subst (λ (x : Device). RunsTo x rest call_answer end) h r

leave : (d : Device) (c : Call) (rest : List Call) (call_answer : List CallAnswer) (end : Device)
    → RunsTo (entry d c).device rest call_answer end → RunsTo d (c ∷ rest) ((entry d c).says ∷ call_answer) end
unfolding run_by
leave d c rest call_answer end r = ap (λ (x : RunResult). run_result ((entry d c).says ∷ x.answers) x.device) r

-- struck out or not
pub by_test : (b : Bool) (d : Device) (c : Call) (rest : List Call) (call_answer : List CallAnswer) (end : Device) → (b ≡ true → (entry d c).device ≡ d)
    → RunsTo (entry d c).device rest call_answer end → RunsTo d (pick b rest (c ∷ rest)) (pick b call_answer ((entry d c).says ∷ call_answer)) end
unfolding pick
by_test true d c rest call_answer end h r = strike d c rest call_answer end (h refl) r
by_test false d c rest call_answer end h r = leave d c rest call_answer end r

-- ---- all calls
pub judged : (cs : List Call) (d : Device) → frames_fit cs ≡ true → Fits d → state_refused (run_by entry d cs).answers ≡ false
unfolding state_refused run_by
judged [] d b f = refl
judged (c ∷ cs) d b f =
    ap (λ (x : Bool). x || state_refused (run_by entry (entry d c).device cs).answers) (call_judged d c f)
    ∙ judged cs (entry d c).device (rest_fits c cs b) (fits_next d c (first_fits c cs b) f)

pub striking : (cs : List Call) (d : Device) → frames_fit cs ≡ true → Fits d
    → run_by entry d (others entry d cs) ≡ run_result (other_answers entry d cs) (run_by entry d cs).device
unfolding others other_answers run_by
striking [] d b f = refl
striking (c ∷ cs) d b f =
    let e = (entry d c).device in
    by_test (struck entry d c) d c (others entry e cs) (other_answers entry e cs) (run_by entry e cs).device
    (λ h. ap (λ (e : DeviceResult). e.device) (struck_is d c f h))
    (striking cs e (rest_fits c cs b) (fits_next d c (first_fits c cs b) f))

-- every struck frame, with what holds of each one
each_struck : (P : Tag → Device → Call → Type 0) → ((start : Tag) (d : Device) (c : Call) → Fits d → Since start d.tag → struck entry d c ≡ true → P start d c)
    → (cs : List Call) (start : Tag) (d : Device) → frames_fit cs ≡ true → Fits d → (transfer_open d.tag ≡ true → Since start d.tag) → EachStruck entry P start d cs
unfolding EachStruck
each_struck P p [] start d b f s = tt
each_struck P p (c ∷ cs) start d b f s =
    let now = start_after start d.tag in
    let since = since_after start d.tag s in (
      p now d c f since,
      each_struck P p cs now (entry d c).device (rest_fits c cs b) (fits_next d c (first_fits c cs b) f) (since_next now d (entry d c) (call_stays d c f) since),
    )

pub all_shut : (cs : List Call) (start : Tag) (d : Device) → frames_fit cs ≡ true → Fits d → (transfer_open d.tag ≡ true → Since start d.tag)
    → AllShut entry start d cs
unfolding AllShut
all_shut = each_struck (Shut entry) shut_call_lem

pub all_reply : (cs : List Call) (start : Tag) (d : Device) → frames_fit cs ≡ true → Fits d → (transfer_open d.tag ≡ true → Since start d.tag)
    → EachStruck entry (RepliesShut entry) start d cs
all_reply = each_struck (RepliesShut entry) shut_reply_lem
