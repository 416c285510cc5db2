-- What a read into the rest of a buffer adds to what was read before it.
use Rattle.std.proofs.Common.{◌≡◌, ℕ, ◌+◌, ◌≤◌, List, ◌++◌, length, take, drop, sym, ap, ◌∙◌, subst, take-add, drop_at, length-take-le}
use Rattle.std.proofs.lemmas.List.{take-append-le}
use Rattle.std.specs.Prelude.{Option}
use Rattle.std.specs.Io.KnownBytes.{Consumes}
use Rattle.std.proofs.KnownBytes.{Consumes-trans}
use borrow.Rule.Slice.PartMut.{post_of, put_mid, take_put}

-- the first done bytes of xs were taken, and then n bytes put into its rest
pub took : (a b c : Option (List ℕ)) (xs ys : List ℕ) (done n k : ℕ) → done ≤ length xs → n ≤ length ys → Consumes a b (take done xs) → Consumes b c (take n ys) → Consumes a c (take (done + n) (put_mid done k xs ys))
took a b c xs ys done n k w m p q =
    let front : take done (put_mid done k xs ys) ≡ take done xs = take_put done k xs ys w in
    let back : take n (drop done (put_mid done k xs ys)) ≡ take n ys = ap (take n) (drop_at _ _ done (length-take-le done xs w)) ∙ take-append-le n ys (post_of done k xs) m in
    subst (Consumes a c) (sym (take-add done n (put_mid done k xs ys) ∙ (λ i. front i ++ back i))) (Consumes-trans a b c _ _ p q)
