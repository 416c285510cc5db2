-- Demand 3 over the library's calls, from demand 3 at the entry point. Assumes nothing.
use mathlib.Core.Path.{◌≡◌, sym, ap, subst, ◌∙◌}
use mathlib.Core.Bool.{true, false}
use mathlib.Core.List.{List, []}
use Prim.Native.Nat.{ℕ}
use lib.ListN.{length}
use Rattle.tag.specs.declared.Tag.{Tag}
use Rattle.tag.specs.Layout.{memory_bytes}
use Rattle.state.specs.Layout.{bytes_of, tag_of}
use Rattle.state.proofs.There.{decodes_encoded}
use Rattle.state.proofs.Again.{encodes_decoded}
use Rattle.state.proofs.Decoded.{decoded_fits}
use Rattle.model.specs.Step.{transfer_open}
use Rattle.refusals.specs.Refusals.{tag_in_range}
use Rattle.refusals.specs.Call.{Call}
use Rattle.calls.specs.Calls.{Device, device, entry, run_by, frames_fit}
use Rattle.demand3.specs.Passed.{no_transfer, wait_run}
use Rattle.demand3.specs.Demand3.{is_closed}
use Rattle.demand3.proofs.Demand3.{demand_3, ends_alike}
use Rattle.library_demand3.specs.Calls.{exported, LibraryRunResult, library_run}
use Rattle.library_demand3.specs.Claim.{in_bytes, EachLibraryStruck, LibraryShut, LibraryAgrees, Starts, LibraryDemand3, LibraryEndsAlike}
use Rattle.library_demand3.proofs.Striking.{library_striking_follows}
use Rattle.library_demand3.proofs.Lists.{Good, run_is, run_good, all_shut_is}

-- from a tag's bytes
agrees : (d : Device) (cs : List Call) → Good d → tag_in_range d.tag d.memory ≡ true → length d.memory ≡ memory_bytes → frames_fit cs ≡ true
    → transfer_open d.tag ≡ false → is_closed (wait_run (no_transfer [] d) cs) ≡ true → LibraryAgrees exported (bytes_of d.tag) d.memory cs
unfolding in_bytes
agrees d cs g range size frames shut end =
    let a = demand_3 d cs range size frames shut end in
    let back = sym (decodes_encoded d.tag g.fits).1 in
    let all = subst (λ (t : Tag). EachLibraryStruck exported (LibraryShut exported) t (bytes_of d.tag) d.memory cs) back (all_shut_is cs d.tag d frames g a.shut) in
    record {
      same = run_is cs d frames g ∙ ap in_bytes (sym a.same) ∙ ap (λ (t : Tag). in_bytes (wait_run (no_transfer [] (device t d.memory)) cs)) back;
      striking = library_striking_follows exported (tag_of (bytes_of d.tag)) (bytes_of d.tag) d.memory cs all;
      shut = all;
    }

-- ---- from a start
pub good : (s m : List ℕ) → Starts s m → Good (device (tag_of s) m)
good s m t = record { fits = decoded_fits s t.state; bytes = t.memory }

-- the theorem
pub library_demand_3 : LibraryDemand3 exported
library_demand_3 s m cs t frames end =
    subst (λ (x : List ℕ). LibraryAgrees exported x m cs) (encodes_decoded s t.state t.whole)
    (agrees (device (tag_of s) m) cs (good s m t) t.range t.size frames t.shut end)

-- ---- the end of the list
pub library_ends_alike : LibraryEndsAlike
library_ends_alike s m cs t frames end =
    let d = device (tag_of s) m in
    let g = good s m t in
    let state : (library_run exported s m cs).state ≡ bytes_of (run_by entry d cs).device.tag =
    ap (λ (x : List ℕ). (library_run exported x m cs).state) (sym (encodes_decoded s t.state t.whole)) ∙ ap (λ (r : LibraryRunResult). r.state) (run_is cs d frames g) in
    ends_alike d cs t.range t.size frames t.shut
    (ap transfer_open (sym (decodes_encoded (run_by entry d cs).device.tag (run_good cs d frames g).fits).1)
    ∙ ap (λ (x : List ℕ). transfer_open (tag_of x)) (sym state) ∙ end)
