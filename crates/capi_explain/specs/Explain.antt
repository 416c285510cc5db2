-- Which rule explains the answer that a call would get: asked of the state before it, and no byte is changed.
use Rattle.std.specs.Prelude.{List, ℕ, ◌+◌}
use Rattle.tag.specs.declared.Tag.{Tag}
use Rattle.state.specs.Layout.{tag_of}
use Rattle.refusals.specs.Call.{Call}
use Rattle.refusals.specs.Refusals.{number, entry_rules, judgement, unless_refused}
use Rattle.library_refusals.specs.Rules.{step_rules}
use Rattle.explanation_rules.specs.Explanation.{rule_at}

-- below 0x100 the refusal; 0x100 where there is nothing to explain; 0x100 + k for rule k
unfoldable pub explain_of : Tag → List ℕ → Call → ℕ
explain_of t m call = unless_refused (judgement (entry_rules t m call)) number (0x100 + rule_at t m call.code call.value call.frame)

-- over the state's bytes: what `st25dv_step` refuses is refused alike
unfoldable pub explain_call : List ℕ → List ℕ → Call → ℕ
explain_call s m call = unless_refused (judgement (step_rules s m call)) number (explain_of (tag_of s) m call)
