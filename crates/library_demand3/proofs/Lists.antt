-- Lists of the library's calls are lists of the entry point's. Assumes nothing.
use mathlib.Core.Path.{◌≡◌, refl, sym, ap, subst, ◌∙◌}
use mathlib.Core.Bool.{Bool, true, false, not, ◌&&◌, false≢true}
use mathlib.Core.List.{List, [], ◌∷◌}
use Prim.Native.Nat.{ℕ, ◌+◌}
use Rattle.std.specs.Prelude.{Err}
use native.Mathlib.Omega.{arith}
use lib.Dec.{ltb}
use borrow.Author.Tests.{le-ltb, not-false}
use Rattle.parts.specs.Bytes.{are_bytes}
use Rattle.parts.proofs.Picks.{pick_case}
use Rattle.tag.specs.declared.Tag.{Tag}
use Rattle.state.specs.Layout.{bytes_of, tag_of}
use Rattle.state.specs.Claims.{Fits}
use Rattle.state.proofs.There.{decodes_encoded}
use Rattle.rule_list.specs.RuleList.{any_holds}
use Rattle.refusals.specs.declared.Refusal.{Refusal}
use Rattle.model.specs.declared.Answer.{Answer}
use Rattle.model.specs.declared.Answer.TheVariants.{Refused, Nothing, Ack, NoAck, Byte, Silence, Reply}
use Rattle.signal_table.specs.Table.{signal_by}
use Rattle.model.specs.Step.{StepResult, transfer_open, step_of, is_refused}
use Rattle.refusals.specs.Refusals.{number, entry_rules, judgement}
use Rattle.capi.specs.Interface.{answer_number, CallResult, call_result}
use Rattle.next_state.specs.After.{state_after}
use Rattle.refusals.proofs.Laws.{judged_case, refused_by}
use Rattle.model.proofs.Acts.{signal_of_call}
use Rattle.model.proofs.Served.{act_served}
use Rattle.calls.proofs.Laws.{first_fits, rest_fits}
use Rattle.capi.proofs.Tags.{steps_the_tag}
use Rattle.refusals.specs.Call.{Call}
use Rattle.calls.specs.Calls.{Device, device, DeviceResult, RunResult, entry, run_by, frames_fit}
use Rattle.demand3.specs.Demand3.{is_radio, struck, Shut, start_after, EachStruck, AllShut}
use Rattle.library_demand3.specs.Calls.{exported, answer_by, LibraryRunResult, library_run_result, library_run}
use Rattle.library_demand3.specs.Claim.{in_number, in_numbers, library_struck, shut_answer, EachLibraryStruck, LibraryShut}
use Rattle.library_demand3.proofs.Kept.{keeps_fits}

-- ---- one call
abbrev T : Tag → StepResult → Type 0
T t e = is_refused e.answer ≡ true → e.tag ≡ t

-- "A refusal returns .. the state handed in"
refused_tag : (t : Tag) (m : List ℕ) (c : Call) → T t (step_of t m c)
unfolding step_of
refused_tag t m c =
    judged_case (T t) _ _ _ (λ _ _ _. refl) (λ _ r. absurd (false≢true (sym (act_served (signal_of_call c) t m c.buffer c.frame) ∙ r)))

-- so the state's bytes are those of the tag, refused or not
after_is : (t : Tag) (m : List ℕ) (c : Call) → state_after (bytes_of t) (step_of t m c).answer (step_of t m c).tag ≡ bytes_of (step_of t m c).tag
unfolding state_after
after_is t m c =
    let e = step_of t m c in
    pick_case (λ (x : List ℕ). x ≡ bytes_of e.tag) (is_refused e.answer) (bytes_of t) (bytes_of e.tag)
    (λ r. ap bytes_of (sym (refused_tag t m c r))) (λ _. refl)

-- what a call of the entry point leaves, in numbers and bytes
abbrev pub in_called : DeviceResult → CallResult
in_called e = call_result (answer_number e.says.answer) (bytes_of e.device.tag) e.device.memory e.says.buffer

pub step_is : (t : Tag) (m : List ℕ) (c : Call) → Fits t → exported (bytes_of t) m c ≡ in_called (entry (device t m) c)
unfolding exported entry
step_is t m c f =
    let e = step_of t m c in
    steps_the_tag t m c f ∙ ap (λ (s : List ℕ). call_result (answer_number e.answer) s e.memory e.reply) (after_is t m c)

-- ---- what goes from call to call
pub record Good (d : Device) : Type 0 where
  pub fits : Fits d.tag
  pub bytes : are_bytes d.memory ≡ true

pub good_next : (d : Device) (c : Call) → are_bytes c.frame ≡ true → Good d → Good (entry d c).device
unfolding entry
good_next d c b g =
    let k = keeps_fits d.tag d.memory c g.fits g.bytes b in
    record { fits = k.0; bytes = k.1 }

-- ---- the answers, and the bytes at the end
abbrev pub in_library : RunResult → LibraryRunResult
in_library r = library_run_result (in_numbers r.answers) (bytes_of r.device.tag) r.device.memory

pub run_is : (cs : List Call) (d : Device) → frames_fit cs ≡ true → Good d → library_run exported (bytes_of d.tag) d.memory cs ≡ in_library (run_by entry d cs)
unfolding library_run run_by in_numbers
run_is [] d b g = refl
run_is (c ∷ cs) d b g =
    let e = entry d c in
    ap (λ (x : CallResult). let r = library_run exported x.state x.memory cs in library_run_result (answer_by x ∷ r.answers) r.state r.memory)
    (step_is d.tag d.memory c g.fits)
    ∙ ap (λ (r : LibraryRunResult). library_run_result (in_number e.says ∷ r.answers) r.state r.memory)
    (run_is cs e.device (rest_fits c cs b) (good_next d c (first_fits c cs b) g))

-- the tag at the end fits too
pub run_good : (cs : List Call) (d : Device) → frames_fit cs ≡ true → Good d → Good (run_by entry d cs).device
unfolding run_by
run_good [] d b g = g
run_good (c ∷ cs) d b g = run_good cs (entry d c).device (rest_fits c cs b) (good_next d c (first_fits c cs b) g)

-- ---- struck frames
-- a refusal's number is below 0x100, and no other's
abbrev Numbered : Answer → Type 0
Numbered a = ltb (answer_number a) 0x100 ≡ is_refused a

refused_number : (t : Tag) (m : List ℕ) (c : Call) (r : Refusal) → judgement (entry_rules t m c) ≡ Err r → Numbered (Refused r)
unfolding answer_number is_refused number any_holds
refused_number t m c r h = not-false _ (refused_by (λ (r : Refusal). not (ltb (number r) 0x100)) (entry_rules t m c) r refl h)

served_number : (a : Answer) → is_refused a ≡ false → Numbered a
unfolding answer_number is_refused
served_number (Refused r) h = absurd (false≢true (sym h))
served_number Nothing h = refl
served_number Ack h = refl
served_number NoAck h = refl
served_number (Byte x) h = le-ltb (0x200 + x) 0x100 (omega arith)
served_number Silence h = refl
served_number (Reply n) h = le-ltb (0x1000 + n) 0x100 (omega arith)

pub refusal_number : (d : Device) (c : Call) → Numbered (entry d c).says.answer
unfolding entry step_of
refusal_number d c =
    judged_case (λ (e : StepResult). Numbered e.answer) _ _ _ (refused_number d.tag d.memory c)
    (λ _. served_number _ (act_served (signal_of_call c) d.tag d.memory c.buffer c.frame))

pub decoded : (t : Tag) → Fits t → tag_of (bytes_of t) ≡ t
decoded t f = (decodes_encoded t f).1

struck_is : (d : Device) (c : Call) → Good d → library_struck exported (bytes_of d.tag) d.memory c ≡ struck entry d c
unfolding library_struck struck
struck_is d c g =
    let frame = is_radio (signal_by c.code c.value) in
    ap (λ (t : Tag). transfer_open t && frame && not (ltb (exported (bytes_of d.tag) d.memory c).number 0x100)) (decoded d.tag g.fits)
    ∙ ap (λ (e : CallResult). transfer_open d.tag && frame && not (ltb e.number 0x100)) (step_is d.tag d.memory c g.fits)
    ∙ ap (λ (b : Bool). transfer_open d.tag && frame && not b) (refusal_number d c)

shut_answer_is : (start : Tag) (d : Device) (c : Call) → Good d → Shut entry start d c
    → answer_by (exported (bytes_of d.tag) d.memory c) ≡ shut_answer start (tag_of (bytes_of d.tag)).air c
shut_answer_is start d c g h =
    ap answer_by (step_is d.tag d.memory c g.fits)
    ∙ ap in_number h.reply
    ∙ ap (λ (t : Tag). shut_answer start t.air c) (sym (decoded d.tag g.fits))

shut_is : (start : Tag) (d : Device) (c : Call) → Good d → Shut entry start d c → LibraryShut exported start (bytes_of d.tag) d.memory c
shut_is start d c g h =
    let e = step_is d.tag d.memory c g.fits in
    record {
      state = ap (λ (x : CallResult). x.state) e ∙ ap (λ (x : Device). bytes_of x.tag) h.unchanged;
      memory = ap (λ (x : CallResult). x.memory) e ∙ ap (λ (x : Device). x.memory) h.unchanged;
      reply = shut_answer_is start d c g h;
    }

pub all_shut_is : (cs : List Call) (start : Tag) (d : Device) → frames_fit cs ≡ true → Good d → AllShut entry start d cs
    → EachLibraryStruck exported (LibraryShut exported) start (bytes_of d.tag) d.memory cs
unfolding AllShut EachStruck EachLibraryStruck
all_shut_is [] start d b g h = tt
all_shut_is (c ∷ cs) start d b g h =
    let now = start_after start d.tag in
    let s = bytes_of d.tag in
    let e = step_is d.tag d.memory c g.fits in
    subst (λ (t : Tag). (library_struck exported s d.memory c ≡ true → LibraryShut exported (start_after start t) s d.memory c)
    × EachLibraryStruck exported (LibraryShut exported) (start_after start t) (exported s d.memory c).state (exported s d.memory c).memory cs)
    (sym (decoded d.tag g.fits)) (
      λ t. shut_is now d c g (h.0 (sym (struck_is d c g) ∙ t)),
      subst (λ (x : CallResult). EachLibraryStruck exported (LibraryShut exported) now x.state x.memory cs) (sym e)
          (all_shut_is cs now (entry d c).device (rest_fits c cs b) (good_next d c (first_fits c cs b) g) h.1),
    )
