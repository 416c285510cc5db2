-- A rack's call at one tag, and what the rack answers so far.
use Rattle.std.specs.Prelude.{false, ◌||◌, List, ◌++◌, ℕ, zero, suc, ◌+◌, ◌-◌, leb, ltb, eqb, length, get_or, set, take, drop, replicate}
use Rattle.parts.specs.Pick.{pick}
use Rattle.tag.specs.declared.Tag.{Tag}
use Rattle.tag.specs.Layout.{memory_bytes, reply_bytes}
use Rattle.signal_table.specs.Table.{signal_by}
use Rattle.refusals.specs.declared.Refusal.{Refusal}
use Rattle.model.specs.declared.Answer.{Answer}
use Rattle.model.specs.declared.Answer.TheVariants.{Refused, Nothing, Silence}
use Rattle.model.specs.Step.{StepResult, is_reply, act_of}
use Rattle.refusals.specs.Refusals.{unless_refused, Judgement}
use Rattle.rack_judge.specs.Passed.{no_tag, to_all}
use Rattle.rack_hear.specs.declared.Heard.{Heard}
use Rattle.rack_hear.specs.declared.HeardTag.{HeardTag}

-- ---- what is carried from tag to tag
unfoldable pub no_reply_answer : ℕ → Answer
no_reply_answer code = pick (eqb code 2) Nothing Silence

abbrev pub hear_start : ℕ → ℕ → ℕ → ℕ → Heard
hear_start n code value to =
    record { number = n; at = 0; code = code; value = value; to = to; replied = false; answered = replicate 16 false; answer = no_reply_answer code }

-- no tag hears a call that is refused
abbrev pub hear_refused : Refusal → ℕ → ℕ → ℕ → Heard
hear_refused refusal code value to =
    record { number = 0; at = 0; code = code; value = value; to = to; replied = false; answered = replicate 16 false; answer = Refused refusal }

-- what the tags of a rack hear of a call that was judged
unfoldable pub hearing_of : Judgement → ℕ → ℕ → ℕ → ℕ → Heard
hearing_of judged n code value to = unless_refused judged (λ (refusal : Refusal). hear_refused refusal code value to) (hear_start n code value to)

-- a tag that the signal does not go to
abbrev pub passed_by : Heard → ℕ → Heard
passed_by heard end =
    record { number = heard.number; at = end; code = heard.code; value = heard.value; to = heard.to; replied = heard.replied; answered = heard.answered; answer = heard.answer }

-- tag i answered: the first reply stands
abbrev pub noted_by : Heard → ℕ → ℕ → Answer → Heard
noted_by heard i end answer =
    record {
      number = heard.number;
      at = end;
      code = heard.code;
      value = heard.value;
      to = heard.to;
      replied = heard.replied || is_reply answer;
      answered = set heard.answered i (is_reply answer);
      answer = pick heard.replied heard.answer answer;
    }

-- ---- one tag
pub record HeardResult : Type 0 where
  pub answer : Heard
  pub tag : Tag
  pub mem : List ℕ
  pub out : List ℕ

abbrev pub heard_result : Heard → Tag → List ℕ → List ℕ → HeardResult
heard_result heard t m o = record { answer = heard; tag = t; mem = m; out = o }

abbrev pub heard_tag : HeardTag → List ℕ → List ℕ → HeardResult
heard_tag outcome m o = heard_result outcome.heard outcome.tag m o

-- the n bytes from a place on are others instead
abbrev pub put_at : ℕ → ℕ → List ℕ → List ℕ → List ℕ
put_at at n m bytes = take at m ++ (bytes ++ drop n (drop at m))

-- what tag i did with its own bytes of the memory
abbrev pub acted_at : Heard → ℕ → List ℕ → List ℕ → StepResult → HeardResult
acted_at heard i m o result =
    heard_result (noted_by heard i (heard.at + memory_bytes) result.answer) result.tag (put_at heard.at memory_bytes m result.memory) o

-- tag i acts; the reply of one after the first goes aside
unfoldable pub act_at : Tag → List ℕ → List ℕ → List ℕ → ℕ → Heard → HeardResult
act_at t m o f i heard =
    let own = take memory_bytes (drop heard.at m) in
    let signal = signal_by heard.code heard.value in
    pick heard.replied (acted_at heard i m o (act_of signal t own (replicate reply_bytes 0) f))
    (let result = act_of signal t own o f in acted_at heard i m result.reply result)

-- tag i
unfoldable pub hear_of : Tag → List ℕ → List ℕ → List ℕ → ℕ → Heard → HeardResult
hear_of t m o f i heard =
    pick (leb heard.number i) (heard_result heard t m o)
    (pick (ltb 15 i) (heard_result heard t m o)
    (pick (ltb (length m) heard.at) (heard_result heard t m o)
    (pick (ltb (length m - heard.at) memory_bytes) (heard_result heard t m o)
    (pick (to_all heard.code || eqb i heard.to) (act_at t m o f i heard)
    (heard_result (passed_by heard (heard.at + memory_bytes)) t m o)))))

-- ---- the tags of a slice, one after the other: what is left of them, of the memory and of the reply buffer
pub record HeardAll : Type 0 where
  pub answer : Heard
  pub tags : List Tag
  pub mem : List ℕ
  pub out : List ℕ

abbrev pub heard_all : Heard → List Tag → List ℕ → List ℕ → HeardAll
heard_all heard tags m o = record { answer = heard; tags = tags; mem = m; out = o }

-- tag i is put back
abbrev pub put_back : List Tag → ℕ → HeardResult → HeardAll
put_back tags i result = heard_all result.answer (set tags i result.tag) result.mem result.out

unfoldable pub hear_one_of : List Tag → List ℕ → List ℕ → List ℕ → ℕ → Heard → HeardAll
hear_one_of tags m o f i heard = put_back tags i (hear_of (get_or tags i no_tag) m o f i heard)

-- from what the tags before it left
abbrev pub hear_onward : ℕ → List ℕ → HeardAll → HeardAll
hear_onward i f all = hear_one_of all.tags all.mem all.out f i all.answer

-- the first n
unfoldable pub hear_all_of : ℕ → List Tag → List ℕ → List ℕ → List ℕ → Heard → HeardAll
hear_all_of zero tags m o f heard = heard_all heard tags m o
hear_all_of (suc i) tags m o f heard = hear_onward i f (hear_all_of i tags m o f heard)
