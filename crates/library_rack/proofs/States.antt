-- States end to end, and the tags that they decode to. Assumes nothing.
use mathlib.Core.Path.{◌≡◌, refl, sym, ap, ◌∙◌}
use mathlib.Core.Bool.{true}
use mathlib.Core.List.{List, [], ◌∷◌, ◌++◌}
use Prim.Native.Nat.{ℕ, zero, suc, ◌+◌, ◌*◌, ◌<◌}
use native.Mathlib.Omega.{arith}
use lib.ListN.{length, get_or, take, drop, length-append}
use lib.Seq.{take_at, drop_at, drop-drop}
use borrow.Author.Tests.{eqb-true}
use Rattle.parts.specs.Bytes.{are_bytes}
use Rattle.parts.proofs.Below.{are_append}
use Rattle.parts.proofs.Bools.{and_both}
use Rattle.tag.specs.declared.Tag.{Tag}
use Rattle.state.specs.Layout.{state_bytes, bytes_of, decodes}
use Rattle.state.specs.Claims.{Fits}
use Rattle.state.proofs.AreBytes.{encodes_bytes}
use Rattle.state.proofs.Decoded.{decoded_fits}
use Rattle.library_demand3.proofs.Passed.{decodes_length}
use Rattle.library_demand3.specs.Claim.{Starts}
use Rattle.rack.specs.Rack.{no_tag}
use Rattle.rack_states.specs.States.{states_of, tags_at, all_decode}
use Rattle.capi_rack.specs.RackClaims.{AllTagsFit}
use Rattle.capi_rack.proofs.Racks.{state_long}
use Rattle.capi_rack.proofs.Unrefused.{are_take, are_drop, states_back}
use Rattle.library_rack.specs.Claims.{RackStarts, StartsGrow, state_at}

-- ---- the tags of states
-- each number of each of them fits its type
unfoldable pub EachFits : List Tag → Type 0
EachFits [] = Unit {0}
EachFits (t ∷ ts) = Fits t × EachFits ts

pub all_fit : (ts : List Tag) → EachFits ts → AllTagsFit ts
unfolding EachFits
all_fit [] f i h = absurd (omega arith)
all_fit (t ∷ ts) f zero h = f.0
all_fit (t ∷ ts) f (suc i) h = all_fit ts f.1 i (omega arith)

pub tags_fit : (n : ℕ) (s : List ℕ) → are_bytes s ≡ true → EachFits (tags_at n s)
unfolding EachFits tags_at
tags_fit zero s h = tt
tags_fit (suc n) s h = (decoded_fits (take state_bytes s) (are_take state_bytes s h), tags_fit n (drop state_bytes s) (are_drop state_bytes s h))

-- states that decode are those of their tags
pub starts_back : (n : ℕ) (s m : List ℕ) → RackStarts n s m → states_of (tags_at n s) ≡ s
starts_back n s m t = states_back n s t.states t.long t.whole

-- ---- the states of tags
pub states_bytes : (ts : List Tag) → EachFits ts → are_bytes (states_of ts) ≡ true
unfolding EachFits states_of are_bytes
states_bytes [] f = refl
states_bytes (t ∷ ts) f = are_append (bytes_of t) (states_of ts) (encodes_bytes t f.0) (states_bytes ts f.1)

-- that of tag i
pub state_at_lem : (ts : List Tag) (i : ℕ) → EachFits ts → i < length ts → state_at (states_of ts) i ≡ bytes_of (get_or ts i no_tag)
unfolding EachFits states_of
state_at_lem [] i f h = absurd (omega arith)
state_at_lem (t ∷ ts) zero f h = take_at (bytes_of t) (states_of ts) state_bytes (state_long t f.0)
state_at_lem (t ∷ ts) (suc i) f h =
    let e : suc i * state_bytes ≡ state_bytes + i * state_bytes = omega arith in
    ap (λ (n : ℕ). take state_bytes (drop n (bytes_of t ++ states_of ts))) e
    ∙ ap (take state_bytes) (sym (drop-drop (i * state_bytes) state_bytes (bytes_of t ++ states_of ts)))
    ∙ ap (λ (s : List ℕ). take state_bytes (drop (i * state_bytes) s)) (drop_at (bytes_of t) (states_of ts) state_bytes (state_long t f.0))
    ∙ state_at_lem ts i f.1 (omega arith)

-- ---- racks that grow
grown : (n : ℕ) (s m states memory : List ℕ) → Starts s m → RackStarts n states memory → RackStarts (1 + n) (s ++ states) (m ++ memory)
unfolding all_decode
grown n s m states memory one rest =
    let long = eqb-true (length s) state_bytes (decodes_length s one.whole) in
    let all = length-append s states in
    let k = rest.long in
    let e : suc n ≡ 1 + n = omega arith in
    record {
      states = are_append s states one.state rest.states;
      long = omega (arith, long, all, k);
      whole =
          ap (λ (j : ℕ). all_decode j (s ++ states)) (sym e)
          ∙ and_both (decodes (take state_bytes (s ++ states))) (all_decode n (drop state_bytes (s ++ states)))
          (ap decodes (take_at s states state_bytes long) ∙ one.whole) (ap (all_decode n) (drop_at s states state_bytes long) ∙ rest.whole);
      memory = are_append m memory one.memory rest.memory;
    }

none_starts : RackStarts 0 [] []
unfolding are_bytes all_decode
none_starts = record { states = refl; long = refl; whole = refl; memory = refl }

pub starts_grow : StartsGrow
starts_grow = record { none = none_starts; more = grown }
