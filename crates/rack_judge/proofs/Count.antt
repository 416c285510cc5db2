-- The first tags of sixteen, by how many of them there are. Assumes nothing.
use mathlib.Core.Path.{◌≡◌, refl, sym, ap, ◌∙◌}
use mathlib.Core.List.{List, [], ◌∷◌}
use Prim.Native.Nat.{ℕ, zero, suc, min}
use lib.ListN.{length, take, drop, length-take}
use Rattle.tag.specs.declared.Tag.{Tag}
use Rattle.rack.specs.Rules.{most_tags}

take_first : (n : ℕ) (l : List Tag) → take (length (take n l)) l ≡ take n l
take_first zero l = refl
take_first (suc n) [] = refl
take_first (suc n) (t ∷ l) = ap (λ (s : List Tag). t ∷ s) (take_first n l)

drop_first : (n : ℕ) (l : List Tag) → drop (length (take n l)) l ≡ drop n l
drop_first zero l = refl
drop_first (suc n) [] = refl
drop_first (suc n) (t ∷ l) = drop_first n l

module _ (number n : ℕ) (e : n ≡ min number most_tags) (tags : List Tag) (h : length tags ≡ 16) where
  pub count_is : n ≡ length (take number tags)
  count_is = e ∙ ap (min number) (sym h) ∙ sym (length-take number tags)

  pub take_count : take n tags ≡ take number tags
  take_count = ap (λ (i : ℕ). take i tags) count_is ∙ take_first number tags

  pub drop_count : drop n tags ≡ drop number tags
  drop_count = ap (λ (i : ℕ). drop i tags) count_is ∙ drop_first number tags
