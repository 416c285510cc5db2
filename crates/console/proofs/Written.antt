-- What a write adds to what was written before it, and what it leaves whether it stopped or not.
use Rattle.std.proofs.Common.{ℕ, ◌+◌, ◌-◌, List, ◌++◌, length, take, drop, sym, ap, ◌∙◌, subst, take-add, arith, Result, Ok, Err, OnOk, OnErr}
use Rattle.std.proofs.lemmas.List.{take_rest}
use Rattle.std.proofs.Math.Seq.{take_all}
use Rattle.std.specs.Prelude.{Option}
use Rattle.std.specs.Io.KnownBytes.{Appends}
use Rattle.std.proofs.KnownBytes.{Appends-trans}
use Rattle.console.specs.Written.{AppendsStart}

-- the first done bytes of s are written, and then n bytes of the rest
pub grown : (a b c : Option (List ℕ)) (s : List ℕ) (done n : ℕ) → Appends a b (take done s) → Appends b c (take n (take (length s - done) (drop done s))) → Appends a c (take (done + n) s)
grown a b c s done n p q =
    subst (Appends a c) (ap (λ l. take done s ++ take n l) (take_rest s done) ∙ sym (take-add done n s)) (Appends-trans a b c _ _ p q)

-- all of s is a start of it
pub all_written : (a b : Option (List ℕ)) (s : List ℕ) → Appends a b s → AppendsStart a b s
all_written a b s p = (length s, omega arith, subst (Appends a b) (sym (take_all (length s) s (omega arith))) p)

pub some_written : {E : Type 0} (r : Result (Unit {0}) E) (a b : Option (List ℕ)) (s : List ℕ) → OnOk r (Appends a b s) → OnErr r (AppendsStart a b s) → AppendsStart a b s
some_written (Ok _) a b s all failed = all_written a b s all
some_written (Err _) a b s all failed = failed
