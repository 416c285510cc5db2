-- No text is longer than 1,342 bytes, and of a line that is too long 1,201 characters tell. Assumes nothing.
use Rattle.std.proofs.Common.{◌≡◌, ℕ, zero, suc, ◌-◌, ◌<◌, ◌≤◌, Bool, true, false, ◌||◌, eqb, ltb, List, [], ◌∷◌, ◌++◌, length, get_or, take, replicate, refl, ap, subst, arith, length-append, length-take, ltb-false, leb-true}
use lib.ListN.{length-replicate}
use Rattle.parts.specs.Pick.{pick}
use Rattle.parts.proofs.Picks.{pick_case}
use Rattle.hexadecimal.specs.Hex.{hex_text}
use Rattle.hexadecimal.proofs.HexLaws.{length_hex_text}
use Rattle.text.proofs.DecimalLaws.{digits_most}
use Rattle.refusals.specs.Refusals.{number}
use Rattle.refusals.proofs.Laws.{judged_case}
use Rattle.model.specs.declared.Answer.{Answer}
use Rattle.model.specs.declared.Answer.TheVariants.{Refused, Nothing, Ack, NoAck, Byte, Silence, Reply}
use Rattle.model.specs.Step.{is_reply}
use Rattle.replies_fit.specs.Claims.{reply_fits}
use Rattle.replies_fit.proofs.RepliesFit.{steps_fit}
use Rattle.rack_model.specs.Passed.{CallAnswer, Device, DeviceResult, entry, Rack, RackCall, devices, to_all, goes_to, most_tags, unreached, turn_of, turns_of, said_by, RackAnswer, who_replied, numbers_from, lowest_reply, no_reply, together, RackResult, rack_acts, rack_step, rack_entry}
use Rattle.reading.specs.Line.{bad_line, signal_line, frame_line, longest}
use Rattle.rack_printing.specs.Passed.{answer_text, line_text}
use Rattle.rack_printing.proofs.Passed.{length_line}
use Rattle.rack_model.proofs.Passed.{number_of, number_apart}
use Rattle.collision_search.specs.Passed.{SearchAnswer}
use Rattle.unfinished.specs.Kept.{kept_most}
use Rattle.line_stream.specs.Step.{LineAnswer, text_room}
use Rattle.line_stream.specs.Claim.{TextsFit, TellsByKept}
use Rattle.rack_reading.specs.Line.{RackLine, bench_line, add_line, name_line, search_line, rack_line_of}
use Rattle.rack_reading.proofs.LineLaws.{rack_line_cut}
use Rattle.rack_printing.specs.Text.{refused_text, said_text, numbers_text, report_text, rack_text, search_text}
use Rattle.rack_printing.proofs.TextLaws.{report_most, search_most}
use Rattle.rack_script.specs.Script.{RackState, call_answered, search_answered, add_answered, name_answered, rack_line_answer, rack_program}

-- ---- a line
line_fits : (n : ℕ) (t : List ℕ) → length t ≤ 1320 → length (line_text n t) ≤ text_room
line_fits n t h = omega (arith, length_line n t, digits_most 20 n)

-- ---- an answer, without the report
said_fits : (a : Answer) (o : List ℕ) → reply_fits a ≡ true → length (said_text a o) ≤ 1282
unfolding said_text refused_text answer_text reply_fits hex_text
said_fits (Refused x) o h = omega (arith, digits_most 20 (number x))
said_fits Nothing o h = omega arith
said_fits Ack o h = omega arith
said_fits NoAck o h = omega arith
said_fits (Byte x) o h = omega arith
said_fits Silence o h = omega arith
said_fits (Reply n) o h = omega (arith, leb-true n 643 h, length_hex_text (take (n - 2) o), length-take (n - 2) o)

-- ---- the report of sixteen tags or fewer
none_more : (flags : List Bool) (i k : ℕ) → numbers_from i (flags ++ replicate k false) ≡ numbers_from i flags
unfolding numbers_from pick
none_more [] i zero = refl
none_more [] i (suc k) = none_more [] (suc i) k
none_more (b ∷ flags) i k = ap (λ (l : List ℕ). pick b (i ∷ l) l) (none_more flags (suc i) k)

report_fits : (flags : List Bool) → length flags ≤ 16 → length (report_text (numbers_from 0 flags)) ≤ 38
report_fits flags h =
    let k = 16 - length flags in
    subst (λ (l : List ℕ). length (report_text l) ≤ 38) (none_more flags 0 k)
    (report_most (flags ++ replicate k false) (omega (arith, length-append flags (replicate k false), length-replicate {A = Bool} k false)))

-- ---- the answers of the tags
abbrev Short : CallAnswer → Type 0
Short a = reply_fits a.answer ≡ true

unfoldable AllShort : List CallAnswer → Type 0
AllShort [] = Unit {0}
AllShort (a ∷ as') = Short a × AllShort as'

turns_short : (c : RackCall) (i : ℕ) (ds : List Device) → AllShort (said_by (turns_of entry c i ds))
unfolding AllShort said_by turns_of turn_of entry reply_fits
turns_short c i [] = tt
turns_short c i (d ∷ ds) = (
  pick_case (λ (e : DeviceResult). Short e.says) (goes_to c i) (entry d c.handed) (unreached c.handed d) (λ _. steps_fit d.tag d.memory c.handed) (λ _. refl),
  turns_short c (suc i) ds,
)

lowest_short : (z : CallAnswer) (l : List CallAnswer) → Short z → AllShort l → Short (lowest_reply z l)
unfolding AllShort lowest_reply
lowest_short z [] h f = h
lowest_short z (a ∷ l) h f = pick_case Short (is_reply a.answer) a (lowest_reply z l) (λ _. f.0) (λ _. lowest_short z l h f.1)

at_short : (l : List CallAnswer) (i : ℕ) (z : CallAnswer) → Short z → AllShort l → Short (get_or l i z)
unfolding AllShort
at_short [] i z h f = h
at_short (a ∷ l) zero z h f = f.0
at_short (a ∷ l) (suc i) z h f = at_short l i z h f.1

none_short : (c : RackCall) → Short (no_reply c.handed)
unfolding reply_fits
none_short c = pick_case (λ (a : Answer). reply_fits a ≡ true) (eqb c.handed.code 2) Nothing Silence (λ _. refl) (λ _. refl)

who_number : (l : List CallAnswer) → length (who_replied l) ≡ length l
unfolding who_replied
who_number [] = refl
who_number (a ∷ l) = ap suc (who_number l)

said_number : (c : RackCall) (i : ℕ) (ds : List Device) → length (said_by (turns_of entry c i ds)) ≡ length ds
unfolding said_by turns_of
said_number c i [] = refl
said_number c i (d ∷ ds) = ap suc (said_number c (suc i) ds)

-- ---- a rack's answer
rack_fits : (a : RackAnswer) → Short a.says → length (report_text a.report) ≤ 38 → length (rack_text a) ≤ 1320
unfolding rack_text
rack_fits a h k =
    let s = said_text a.says.answer a.says.buffer in
    omega (arith, said_fits a.says.answer a.says.buffer h, k, length-append s (report_text a.report))

together_fits : (c : RackCall) (ds : List Device) → length ds ≤ 16 → length (rack_text (together c (said_by (turns_of entry c 0 ds)))) ≤ 1320
unfolding together
together_fits c ds h =
    let l = said_by (turns_of entry c 0 ds) in
    let f = turns_short c 0 ds in
    rack_fits (together c l)
    (pick_case Short (to_all c.handed.code) _ _ (λ _. lowest_short (no_reply c.handed) l (none_short c) f) (λ _. at_short l c.to (no_reply c.handed) (none_short c) f))
    (report_fits (who_replied l) (omega (arith, who_number l, said_number c 0 ds)))

neither : (a b : Bool) → (a || b) ≡ false → b ≡ false
neither true true h = h
neither true false h = refl
neither false b h = h

entry_fits : (r : Rack) (c : RackCall) → length (rack_text (rack_entry r c).says) ≤ 1320
unfolding rack_step rack_acts reply_fits numbers_text
entry_fits r c =
    judged_case (λ (e : RackResult). length (rack_text e.says) ≤ 1320) _ _ _
    (λ x h. rack_fits _ refl (omega arith))
    (λ h.
    let few = ltb-false most_tags (length r.tags) (neither (eqb (length r.tags) 0) (ltb most_tags (length r.tags)) (number_of r c h)) in
    together_fits c (devices r) (omega (arith, few, number_apart r.tags r.memory)))

-- ---- a search's
found_fits : (x : SearchAnswer) → length (search_text x) ≤ 1320
found_fits x = omega (arith, search_most x)

-- ---- a line of a script
answer_fits : (x : RackLine) (st : RackState) → length (rack_line_answer x st).text ≤ text_room
unfolding rack_line_answer call_answered search_answered add_answered name_answered
answer_fits (bench_line bad_line) st = line_fits _ _ (omega arith)
answer_fits (bench_line (signal_line code value)) st = line_fits _ _ (entry_fits _ _)
answer_fits (bench_line (frame_line f)) st = line_fits _ _ (entry_fits _ _)
answer_fits (add_line u) st = pick_case (λ (a : LineAnswer RackState). length a.text ≤ text_room) _ _ _ (λ _. line_fits _ _ (omega arith)) (λ _. line_fits _ _ (omega arith))
answer_fits (name_line n) st = line_fits _ _ (omega arith)
answer_fits (search_line f) st = line_fits _ _ (found_fits _)

pub rack_texts_fit : TextsFit rack_program
unfolding rack_program
rack_texts_fit st s = answer_fits (rack_line_of s) st

pub rack_tells : TellsByKept rack_program
unfolding rack_program
rack_tells st s =
    let more : longest < kept_most = omega arith in
    ap (λ (x : RackLine). rack_line_answer x st) (rack_line_cut kept_most more s)
