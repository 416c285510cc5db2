-- What is proved of the rule: it is the verdict's yes or no.
use Rattle.std.specs.Prelude.{◌≡◌, Bool, true, false, List, ℕ, Err, is_ok}
use Rattle.bus.specs.declared.Space.{Space}
use Rattle.write_rules.specs.Passed.{Core}
use Rattle.write_reasons.specs.declared.WriteReason.TheVariants.{LegSpoiled}
use Rattle.write_rules.specs.Situation.{byte_situation}
use Rattle.write_rules.specs.Verdict.{write_verdict}
use Rattle.rule.specs.Rule.{acked}

-- in a leg that is not spoiled a byte is Acked exactly when the verdict allows it
abbrev pub AckedWhenAllowed : Type 0
AckedWhenAllowed = (space : Space) (c : Core) (session : Bool) (first k : ℕ) (earlier : List ℕ) (x : ℕ)
    → acked space c session first k earlier x ≡ is_ok (write_verdict (byte_situation space c session false first k earlier x))

-- in a spoiled one the verdict never allows it
abbrev pub SpoiledNever : Type 0
SpoiledNever = (space : Space) (c : Core) (session : Bool) (first k : ℕ) (earlier : List ℕ) (x : ℕ)
    → write_verdict (byte_situation space c session true first k earlier x) ≡ Err LegSpoiled
