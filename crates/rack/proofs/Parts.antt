-- A rack taken apart into its tags, and put together again. Assumes nothing.
use mathlib.Core.Path.{◌≡◌, refl, ap, ◌∙◌}
use mathlib.Core.List.{List, [], ◌∷◌, ◌++◌}
use Prim.Native.Nat.{ℕ, zero, suc, ◌+◌, ◌<◌}
use native.Mathlib.Omega.{arith}
use lib.ListN.{length, get_or, take, drop, length-append, length-take, length-drop}
use lib.Seq.{take_at, drop_at, drop-drop}
use Rattle.tag.specs.declared.Tag.{Tag}
use Rattle.calls.specs.Calls.{Device, device, Step}
use Rattle.rack.specs.Rack.{rack_of, memory_size, memory_sizes, no_tag, device_at, devices_of, tags_of, memories_of, RackCall}
use Rattle.rack.specs.Step.{turns_of, left_by}

-- ---- each memory is as long as its tag asks
abbrev pub Sized : Device → Type 0
Sized d = length d.memory ≡ memory_size d.tag

unfoldable pub AllSized : List Device → Type 0
AllSized [] = Unit {0}
AllSized (d ∷ ds) = Sized d × AllSized ds

-- ---- put together and taken apart again
pub racked_apart : (ds : List Device) → AllSized ds → devices_of (tags_of ds) (memories_of ds) ≡ ds
unfolding devices_of tags_of memories_of AllSized
racked_apart [] h = refl
racked_apart (d ∷ ds) h =
    ap (λ (m : List ℕ). device d.tag m ∷ devices_of (tags_of ds) (drop (memory_size d.tag) (d.memory ++ memories_of ds)))
    (take_at d.memory (memories_of ds) (memory_size d.tag) h.0)
    ∙ ap (λ (m : List ℕ). d ∷ devices_of (tags_of ds) m) (drop_at d.memory (memories_of ds) (memory_size d.tag) h.0)
    ∙ ap (λ (l : List Device). d ∷ l) (racked_apart ds h.1)

pub sized_apart : (ts : List Tag) (m : List ℕ) → length m ≡ memory_sizes ts → AllSized (devices_of ts m)
unfolding devices_of memory_sizes AllSized
sized_apart [] m h = tt
sized_apart (t ∷ ts) m h = (simp length-take (omega arith), sized_apart ts (drop (memory_size t) m) (simp length-drop (omega arith)))

pub number_apart : (ts : List Tag) (m : List ℕ) → length (devices_of ts m) ≡ length ts
unfolding devices_of
number_apart [] m = refl
number_apart (t ∷ ts) m = ap suc (number_apart ts (drop (memory_size t) m))

pub tags_apart : (ts : List Tag) (m : List ℕ) → tags_of (devices_of ts m) ≡ ts
unfolding tags_of devices_of
tags_apart [] m = refl
tags_apart (t ∷ ts) m = ap (λ (l : List Tag). t ∷ l) (tags_apart ts (drop (memory_size t) m))

pub number_racked : (ds : List Device) → length (tags_of ds) ≡ length ds
unfolding tags_of
number_racked [] = refl
number_racked (d ∷ ds) = ap suc (number_racked ds)

pub size_racked : (ds : List Device) → AllSized ds → length (memories_of ds) ≡ memory_sizes (tags_of ds)
unfolding memories_of tags_of memory_sizes AllSized
size_racked [] h = refl
size_racked (d ∷ ds) h =
    let a = length-append d.memory (memories_of ds) in
    let b = h.0 in
    let e = size_racked ds h.1 in
    omega (arith, a, b, e)

-- ---- tag i's part
pub at_apart : (i : ℕ) (ts : List Tag) (m : List ℕ) (z : Device) → i < length ts → get_or (devices_of ts m) i z ≡ device_at (rack_of ts m) i
unfolding devices_of device_at memory_sizes
at_apart i [] m z h = absurd (omega arith)
at_apart zero (t ∷ ts) m z h = refl
at_apart (suc i) (t ∷ ts) m z h =
    at_apart i ts (drop (memory_size t) m) z (omega arith)
    ∙ ap (λ (l : List ℕ). device (get_or ts i no_tag) (take (memory_size (get_or ts i no_tag)) l)) (drop-drop (memory_sizes (take i ts)) (memory_size t) m)

-- ---- the number of tags in a call
pub turns_number : (step : Step) (c : RackCall) (i : ℕ) (ds : List Device) → length (left_by (turns_of step c i ds)) ≡ length ds
unfolding turns_of left_by
turns_number step c i [] = refl
turns_number step c i (d ∷ ds) = ap suc (turns_number step c (suc i) ds)
