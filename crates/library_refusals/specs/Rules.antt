-- The refusals of the library's calls: the model's that need no state, and the library's own; s is the state.
use Rattle.std.specs.Prelude.{not, List, [], ◌∷◌, ◌++◌, ℕ, eqb, length}
use Rattle.state.specs.Layout.{state_bytes, decodes}
use Rattle.refusals.specs.declared.Refusal.TheVariants.{OutOfRange, StateLength, UidLength}
use Rattle.refusals.specs.Call.{Call}
use Rattle.refusals.specs.Refusals.{RefusalRule, refusal_rule, fresh_rules, call_rules}

-- the state buffer has not a state's length
abbrev pub state_rule : List ℕ → RefusalRule
state_rule s = refusal_rule (not (eqb (length s) state_bytes)) StateLength

-- bytes that decode to no state break a range
abbrev pub decodes_rule : List ℕ → RefusalRule
decodes_rule s = refusal_rule (not (decodes s)) OutOfRange

-- the UID has not its 8 bytes
abbrev pub uid_rule : List ℕ → RefusalRule
uid_rule uid = refusal_rule (not (eqb (length uid) 8)) UidLength

-- 1, 2 and 3 are judged without a state: each is given exactly when document 01 says. 13 comes right before the first refusal that reads the state,
-- which is 4: bytes that decode to no state, or (by the model) a tag that breaks a range.
abbrev pub step_rules : List ℕ → List ℕ → Call → List RefusalRule
step_rules s m call = call_rules m call ++ state_rule s ∷ decodes_rule s ∷ []

-- 1 without a state, as above; then 13, then 14
abbrev pub fresh_call_rules : List ℕ → List ℕ → List ℕ → List RefusalRule
fresh_call_rules uid m s = fresh_rules m ++ state_rule s ∷ uid_rule uid ∷ []
