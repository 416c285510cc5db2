-- A run of the program that `named` names, from the fresh start. Assumes nothing.
use Rattle.std.proofs.Common.{◌≡◌, Bool, true, false, List, ℕ, codes, sym, subst}
use Rattle.std.specs.Prelude.{Option}
use Rattle.parts.specs.Pick.{pick}
use Rattle.line_stream.specs.Output.{output_of}
use Rattle.stream.specs.Passed.{BenchState}
use Rattle.stream.specs.Program.{bench_program}
use Rattle.stream_claims.specs.Output.{fresh_start, bench_output, explain_output}
use Rattle.line_output.specs.Answered.{AnswersRead}
use Rattle.line_output.specs.Messages.{TellsStop}

module _ (named : Bool) (a b : Option (List ℕ)) where
  pub answers_as : (chosen : Bool) (state : BenchState) (old new : Option (List ℕ)) → named ≡ chosen → state ≡ fresh_start
      → AnswersRead (output_of (bench_program chosen) state) a b old new → AnswersRead (pick named explain_output bench_output) a b old new
  unfolding pick
  answers_as true state old new e f p =
      subst (λ (x : Bool). AnswersRead (pick x explain_output bench_output) a b old new) (sym e)
      (subst (λ (x : BenchState). AnswersRead (output_of (bench_program true) x) a b old new) f p)
  answers_as false state old new e f p =
      subst (λ (x : Bool). AnswersRead (pick x explain_output bench_output) a b old new) (sym e)
      (subst (λ (x : BenchState). AnswersRead (output_of (bench_program false) x) a b old new) f p)

  pub tells_explain : named ≡ true → TellsStop (codes "explain") a b → TellsStop (pick named (codes "explain") (codes "bench")) a b
  unfolding pick
  tells_explain e p = subst (λ (x : Bool). TellsStop (pick x (codes "explain") (codes "bench")) a b) (sym e) p

  pub tells_bench : named ≡ false → TellsStop (codes "bench") a b → TellsStop (pick named (codes "explain") (codes "bench")) a b
  unfolding pick
  tells_bench e p = subst (λ (x : Bool). TellsStop (pick x (codes "explain") (codes "bench")) a b) (sym e) p
