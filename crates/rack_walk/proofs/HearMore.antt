-- One more tag of `all_of`. Assumes nothing.
use mathlib.Core.Path.{◌≡◌, sym, ◌∙◌, ap}
use Prim.Native.Nat.{ℕ, ◌+◌}
use native.Mathlib.Numerals.{add-one}
use mathlib.Core.List.{List}
use Rattle.tag.specs.declared.Tag.{Tag}
use Rattle.rack_hear.specs.declared.Heard.{Heard}
use Rattle.rack_hear.specs.Hear.{heard_all as racked, hear_one_of as one_of, hear_onward as onward, hear_all_of as all_of}

pub all_more : (ys ts zs : List Tag) (b r : Heard) (p-memory : List ℕ) (p-out : List ℕ) (p-frame : List ℕ) (p-i : ℕ) (p-heard : Heard) (l-memory n-memory : List ℕ) (l-out n-out : List ℕ) → racked b ts l-memory l-out ≡ all_of p-i ys p-memory p-out p-frame p-heard
    → racked r zs n-memory n-out ≡ one_of ts l-memory l-out p-frame p-i b → racked r zs n-memory n-out ≡ all_of (p-i + 1) ys p-memory p-out p-frame p-heard
unfolding all_of
all_more ys ts zs b r p-memory p-out p-frame p-i p-heard l-memory n-memory l-out n-out before e = e ∙ ap (onward p-i p-frame) before ∙ sym (ap (λ (k : ℕ). all_of k ys p-memory p-out p-frame p-heard) (add-one p-i))
