-- What one call of the entry point does to a tag in range, and lists of calls. Assumes nothing.
use mathlib.Core.Path.{◌≡◌, refl, sym, ap, subst, ◌∙◌}
use mathlib.Core.Bool.{true}
use mathlib.Core.List.{List, [], ◌∷◌, ◌++◌}
use Prim.Native.Nat.{ℕ}
use Rattle.std.specs.Prelude.{Err}
use Rattle.parts.specs.Bytes.{are_bytes}
use Rattle.parts.proofs.Bools.{and_left, and_right, and_both}
use Rattle.tag.specs.declared.Tag.{Tag}
use Rattle.ranges.specs.Ranges.{supplied_in_range}
use Rattle.model.specs.declared.Answer.TheVariants.{Refused}
use Rattle.model.specs.Passed.{Refusal, Judgement, argument_rules, judgement, unless_refused, Call}
use Rattle.model.proofs.Passed.{judged_case, judged_map, range_parts}
use Rattle.signal_table.specs.declared.Signal.{Signal}
use Rattle.model.specs.Step.{refused, act_of}
use Rattle.model.specs.Claims.{Fit}
use Rattle.model.proofs.Acts.{signal_of_call, fit_step}
use Rattle.model.proofs.Kept.{keeps}
use Rattle.calls.specs.Calls.{call_answer, Device, DeviceResult, device_result, device_result_of, RunResult, run_result, run_by, entry, frames_fit}
use Rattle.calls.specs.Claims.{EntryTells, RunsOn}

-- ---- refusals 1 and 4 do not come
abbrev pub Fits : Device → Type 0
Fits d = Fit d.tag d.memory

-- a signal that acts; the one of the call
abbrev pub acted_by : Signal → Device → Call → DeviceResult
acted_by x d c = device_result_of (act_of x d.tag d.memory c.buffer c.frame)

abbrev pub acted : Device → Call → DeviceResult
acted d c = acted_by (signal_of_call c) d c

abbrev pub refusal : Refusal → Device → Call → DeviceResult
refusal r d c = device_result (call_answer (Refused r) c.buffer) d

-- what judging finds by the call's own arguments
abbrev pub found : Call → Judgement
found c = judgement (argument_rules c)

pub call_is : (d : Device) (c : Call) → Fits d → entry d c ≡ unless_refused (found c) (λ (r : Refusal). refusal r d c) (acted d c)
unfolding entry
call_is d c f =
    ap device_result_of (fit_step d.tag d.memory c f)
    ∙ judged_map device_result_of (found c) (λ (r : Refusal). refused r d.tag d.memory c.buffer) _

-- a property of a call, from the refusals and from the signal
pub call_case : (P : DeviceResult → Type 0) (d : Device) (c : Call) → Fits d
    → ((r : Refusal) → found c ≡ Err r → P (refusal r d c)) → P (acted d c) → P (entry d c)
call_case P d c f p q = subst P (sym (call_is d c f)) (judged_case P _ _ _ p (λ h. q))

-- what is on needs VCC
pub supplied : (t : Tag) (m : List ℕ) → Fit t m → supplied_in_range t.host t.core.mailbox.enabled ≡ true
supplied t m f = (range_parts t m f.range).supplied

-- ---- lists
pub first_fits : (c : Call) (cs : List Call) → frames_fit (c ∷ cs) ≡ true → are_bytes c.frame ≡ true
unfolding frames_fit
first_fits c cs b = and_left (are_bytes c.frame) (frames_fit cs) b

pub rest_fits : (c : Call) (cs : List Call) → frames_fit (c ∷ cs) ≡ true → frames_fit cs ≡ true
unfolding frames_fit
rest_fits c cs b = and_right (are_bytes c.frame) (frames_fit cs) b

pub frames_first : (p q : List Call) → frames_fit (p ++ q) ≡ true → frames_fit p ≡ true
unfolding frames_fit
frames_first [] q h = refl
frames_first (c ∷ p) q h =
    and_both (are_bytes c.frame) (frames_fit p) (first_fits c (p ++ q) h) (frames_first p q (rest_fits c (p ++ q) h))

pub fits_next : (d : Device) (c : Call) → are_bytes c.frame ≡ true → Fits d → Fits (entry d c).device
unfolding entry
fits_next d c b f = keeps d.tag d.memory c b f

pub entry_tells : EntryTells
unfolding entry
entry_tells d c = refl

pub runs_on : RunsOn
unfolding run_by
runs_on step d [] c = refl
runs_on step d (x ∷ cs) c =
    ap (λ (r : RunResult). run_result ((step d x).says ∷ r.answers) r.device) (runs_on step (step d x).device cs c)
