-- Two equal UIDs, found tag by tag. Assumes nothing.
use mathlib.Core.Path.{◌≡◌, refl, sym, ap, ◌∙◌}
use mathlib.Core.Bool.{Bool, true, false, ◌||◌}
use mathlib.Core.List.{List, [], ◌∷◌, ◌++◌, append_assoc}
use Prim.Native.Nat.{ℕ, zero, suc, ◌-◌, ◌<◌, ◌≤◌}
use native.Mathlib.Omega.{arith}
use lib.ListN.{length, get_or, set, take, replicate}
use lib.Seq.{take-suc, take_all, set_at, length-take-le}
use Rattle.keys.specs.declared.Uid.{Uid}
use Rattle.keys.specs.Keys.{same_uid}
use Rattle.tag.specs.declared.Tag.{Tag}
use Rattle.rack.specs.Rack.{no_tag}
use Rattle.rack.specs.Rules.{has_uid, equal_uids}
use Rattle.rack_judge.specs.Judge.{no_uid, uid_among}

unfoldable pub uids_of : List Tag → List Uid
uids_of [] = []
uids_of (t ∷ ts) = t.uid ∷ uids_of ts

uids_number : (ts : List Tag) → length (uids_of ts) ≡ length ts
unfolding uids_of
uids_number [] = refl
uids_number (t ∷ ts) = ap suc (uids_number ts)

uids_more : (ts : List Tag) (t : Tag) → uids_of (ts ++ t ∷ []) ≡ uids_of ts ++ t.uid ∷ []
unfolding uids_of
uids_more [] t = refl
uids_more (x ∷ ts) t = ap (λ (l : List Uid). x.uid ∷ l) (uids_more ts t)

-- some tag of the list has the UID
unfoldable some_has : List Tag → Uid → Bool
some_has [] u = false
some_has (t ∷ ts) u = same_uid t.uid u || some_has ts u

or_assoc : (a b c : Bool) → ((a || b) || c) ≡ (a || (b || c))
or_assoc true b c = refl
or_assoc false b c = refl

pub or_none : (a : Bool) → (a || false) ≡ a
or_none true = refl
or_none false = refl

or_cross : (a b c d : Bool) → ((a || b) || (c || d)) ≡ ((a || c) || (b || d))
or_cross true b c d = refl
or_cross false true true d = refl
or_cross false true false d = refl
or_cross false false c d = refl

has_more : (u : Uid) (ts : List Tag) (t : Tag) → has_uid u (ts ++ t ∷ []) ≡ (has_uid u ts || same_uid u t.uid)
unfolding has_uid
has_more u [] t = or_none (same_uid u t.uid)
has_more u (x ∷ ts) t = ap (λ (b : Bool). same_uid u x.uid || b) (has_more u ts t) ∙ sym (or_assoc (same_uid u x.uid) (has_uid u ts) (same_uid u t.uid))

equal_by : (ts : List Tag) (t : Tag) → equal_uids (ts ++ t ∷ []) ≡ (equal_uids ts || some_has ts t.uid)
unfolding equal_uids some_has has_uid
equal_by [] t = refl
equal_by (x ∷ ts) t =
    ap (λ (b : Bool). b || equal_uids (ts ++ t ∷ [])) (has_more x.uid ts t)
    ∙ ap (λ (b : Bool). (has_uid x.uid ts || same_uid x.uid t.uid) || b) (equal_by ts t)
    ∙ or_cross (has_uid x.uid ts) (same_uid x.uid t.uid) (equal_uids ts) (some_has ts t.uid)

some_more : (ts : List Tag) (t : Tag) (u : Uid) → some_has (ts ++ t ∷ []) u ≡ (some_has ts u || same_uid t.uid u)
unfolding some_has
some_more [] t u = or_none (same_uid t.uid u)
some_more (x ∷ ts) t u = ap (λ (b : Bool). same_uid x.uid u || b) (some_more ts t u) ∙ sym (or_assoc (same_uid x.uid u) (some_has ts u) (same_uid t.uid u))

uid_at_lem : (ts : List Tag) (us : List Uid) (n : ℕ) → n < length ts → get_or (uids_of ts ++ us) n no_uid ≡ (get_or ts n no_tag).uid
unfolding uids_of
uid_at_lem [] us n h = absurd (omega arith)
uid_at_lem (t ∷ ts) us zero h = refl
uid_at_lem (t ∷ ts) us (suc n) h = uid_at_lem ts us n (omega arith)

-- the first UIDs of a list, which are those of the tags
among_first : (ts : List Tag) (us : List Uid) (u : Uid) (n : ℕ) → n ≤ length ts → uid_among (uids_of ts ++ us) n u ≡ some_has (take n ts) u
unfolding uid_among some_has
among_first ts us u zero h = refl
among_first ts us u (suc n) h =
    ap (λ (b : Bool). b || same_uid (get_or (uids_of ts ++ us) n no_uid) u) (among_first ts us u n (omega arith))
    ∙ ap (λ (v : Uid). some_has (take n ts) u || same_uid v u) (uid_at_lem ts us n (omega arith))
    ∙ sym (ap (λ (l : List Tag). some_has l u) (take-suc ts n no_tag (omega arith)) ∙ some_more (take n ts) (get_or ts n no_tag) u)

-- ---- one tag more: two of them have the same UID
equal_more : (ts : List Tag) (us : List Uid) (t : Tag) → equal_uids (ts ++ t ∷ []) ≡ (equal_uids ts || uid_among (uids_of ts ++ us) (length ts) t.uid)
equal_more ts us t =
    equal_by ts t
    ∙ ap (λ (b : Bool). equal_uids ts || b)
    (sym (among_first ts us t.uid (length ts) (omega arith) ∙ ap (λ (l : List Tag). some_has l t.uid) (take_all (length ts) ts (omega arith))))

-- ---- the UIDs of the first i tags, gathered
abbrev pub blank_uid : Uid
blank_uid = record { bytes = replicate 8 0 }

abbrev pub gathered : List Tag → ℕ → List Uid
gathered tags i = uids_of (take i tags) ++ replicate (16 - i) blank_uid

module _ (tags : List Tag) (i : ℕ) (z : Tag) (h : i < length tags) (sixteen : length tags ≡ 16) where
  abbrev ts : List Tag
  ts = take i tags

  abbrev t : Tag
  t = get_or tags i z

  first : length ts ≡ i
  first = length-take-le i tags (omega (arith, h))

  pub gathered_next : (uids : List Uid) → uids ≡ gathered tags i → set uids i t.uid ≡ gathered tags (suc i)
  gathered_next uids all =
      let rest = replicate (16 - suc i) blank_uid in
      let e : 16 - i ≡ suc (16 - suc i) = omega (arith, h, sixteen) in
      ap (λ (us : List Uid). set us i t.uid) all
      ∙ ap (λ (k : ℕ). set (uids_of ts ++ replicate k blank_uid) i t.uid) e
      ∙ set_at (uids_of ts) blank_uid rest t.uid i (uids_number ts ∙ first)
      ∙ sym (ap (λ (l : List Tag). uids_of l ++ rest) (take-suc tags i z h) ∙ ap (λ (us : List Uid). us ++ rest) (uids_more ts t) ∙ append_assoc (uids_of ts) (t.uid ∷ []) rest)

  pub equal_next : (uids : List Uid) (found one : Bool) → uids ≡ gathered tags i → found ≡ equal_uids ts → one ≡ uid_among uids i t.uid → (found || one) ≡ equal_uids (take (suc i) tags)
  equal_next uids found one all before now =
      let rest = replicate (16 - i) blank_uid in
      ap (λ (b : Bool). b || one) before
      ∙ ap (λ (b : Bool). equal_uids ts || b)
      (now ∙ ap (λ (us : List Uid). uid_among us i t.uid) all ∙ ap (λ (k : ℕ). uid_among (uids_of ts ++ rest) k t.uid) (sym first))
      ∙ sym (ap equal_uids (take-suc tags i z h) ∙ equal_more ts rest t)
