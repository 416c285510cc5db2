-- Wrong tags that one part of the claim tells, all else being right for every list. Assumes nothing.
use mathlib.Core.Path.{◌≡◌, refl, sym, ap, subst, ◌∙◌}
use mathlib.Core.Bool.{Bool, true, false, not, ◌&&◌, false≢true}
use mathlib.Core.List.{List, [], ◌∷◌}
use Prim.Native.Nat.{ℕ, ◌+◌, ◌-◌}
use native.Mathlib.Omega.{arith}
use lib.Dec.{leb, ltb, eqb}
use borrow.Author.Tests.{leb-true, le-ltb, lt-ltb, ne_eqb}
use Rattle.parts.specs.Pick.{pick}
use Rattle.parts.proofs.Picks.{pick_true, pick_false, pick_case}
use Rattle.parts.proofs.Bools.{and_left, and_right}
use Rattle.bus.specs.declared.Space.TheVariants.{User, System}
use Rattle.register_types.specs.declared.RfMngt.{RfMngt}
use Rattle.air.specs.declared.Air.{Air}
use Rattle.bus.specs.declared.Bus.{Bus}
use Rattle.bus.specs.declared.Bus.TheVariants.{Idle, Started, ReadLeg, WriteLeg, LowAddress, DataLeg}
use Rattle.tag.specs.declared.Tag.{Tag}
use Rattle.bus.specs.Bus.{kept_of, transfer_at, is_open_transfer, is_open, page_bytes}
use Rattle.ranges.specs.Ranges.{host_in_range}
use Rattle.ranges.proofs.AirKept.{session_at_most}
use Rattle.signal_table.specs.Table.{signal_by}
use Rattle.model.specs.Step.{transfer_open, is_refused}
use Rattle.refusals.proofs.Ranges.{range_parts}
use Rattle.refusals.specs.Call.{Call}
use Rattle.calls.specs.Calls.{CallAnswer, Device, DeviceResult, entry, run_by, frames_fit, call_reply}
use Rattle.calls.specs.Examples.{◌but◌, radio_session, on_bus, field_is}
use Rattle.waiting.specs.Waiting.{no_transfer}
use Rattle.demand3.specs.Demand3.{is_radio, struck, shut_reply, start_after, EachStruck, Same, EveryList, Unchanged, RepliesShut}
use Rattle.wrong_tags.specs.Pinned.{behind, session_shown, session_raised, mark, kept_by, is_marked, is_user_write_leg, without_mark, frame_marked, in_field_again, field_hidden}
use Rattle.demand3_parts.specs.OnlyTells.{OnlyTagTells, OnlyUnchangedTells, OnlyReplyTells}
use Rattle.calls.proofs.Laws.{Fits, first_fits, rest_fits, fits_next}
use Rattle.demand3.proofs.OneCall.{struck_is}
use Rattle.demand3.proofs.Struck.{all_reply}
use Rattle.demand3.proofs.Demand3.{agreed, ends_shut}

-- ---- a tag that keeps another than it shows, which is out of range
module _ (shows : Device → Device) (holds : Call → Device → Device) (in_range_lem : (d : Device) → Fits d → shows d ≡ d)
    (undone : (c : Call) (d : Device) → Fits d → shows (holds c d) ≡ d) where
  record Runs (s : Device) (cs : List Call) : Type 0 where
    answers : (run_by (behind shows holds) s cs).answers ≡ (run_by entry (shows s) cs).answers
    device : shows (run_by (behind shows holds) s cs).device ≡ (run_by entry (shows s) cs).device

  runs : (cs : List Call) (s : Device) → frames_fit cs ≡ true → Fits (shows s) → Runs s cs
  unfolding run_by behind
  runs [] s b f = record { answers = refl; device = refl }
  runs (c ∷ cs) s b f =
      let e = entry (shows s) c in
      let fit = fits_next (shows s) c (first_fits c cs b) f in
      let u = undone c e.device fit in
      let r = runs cs (holds c e.device) (rest_fits c cs b) (subst Fits (sym u) fit) in
      record {
        answers = ap (λ (l : List CallAnswer). e.says ∷ l) (r.answers ∙ ap (λ (d : Device). (run_by entry d cs).answers) u);
        device = r.device ∙ ap (λ (d : Device). (run_by entry d cs).device) u;
      }

  answers_behind : EveryList (λ (d : Device) (cs : List Call). (run_by (behind shows holds) d cs).answers ≡ (run_by entry d cs).answers)
  answers_behind d cs range size frames none end =
      let f : Fits d = record { range = range; size = size } in
      let q = in_range_lem d f in
      (runs cs d frames (subst Fits (sym q) f)).answers ∙ ap (λ (d : Device). (run_by entry d cs).answers) q

  -- ---- and only with a transfer open
  module _ (shut : (d : Device) → transfer_open (shows d).tag ≡ false → shows d ≡ d) where
    same_behind : EveryList (Same (behind shows holds))
    same_behind d cs range size frames none end =
        let f : Fits d = record { range = range; size = size } in
        let q = in_range_lem d f in
        let r = runs cs d frames (subst Fits (sym q) f) in
        let last = (run_by (behind shows holds) d cs).device in
        let shown = r.device ∙ ap (λ (d : Device). (run_by entry d cs).device) q in
        let own = sym (shut last (ap (λ (d : Device). transfer_open d.tag) shown ∙ ends_shut d cs range size frames none end)) ∙ shown in
        (agreed d cs range size frames none end).same
        ∙ ap (λ (l : List CallAnswer). no_transfer l (run_by entry d cs).device) (sym (answers_behind d cs range size frames none end))
        ∙ ap (λ (x : Device). no_transfer (run_by (behind shows holds) d cs).answers x) (sym own)

    -- ---- struck frames, where both have a transfer open or neither
    module _ (open-too : (s : Device) → transfer_open s.tag ≡ transfer_open (shows s).tag) where
      struck_too : (s : Device) (c : Call) → struck (behind shows holds) s c ≡ struck entry (shows s) c
      unfolding struck behind
      struck_too s c =
          ap (λ (o : Bool). o && is_radio (signal_by c.code c.value) && not (is_refused (entry (shows s) c).says.answer)) (open-too s)

      -- they change nothing in what is kept, if that hangs on the tag alone
      unchanged : ((c e : Call) (d : Device) → holds c d ≡ holds e d) → (cs : List Call) (start : Tag) (s : Device) → frames_fit cs ≡ true → Fits (shows s)
          → ((c : Call) → holds c (shows s) ≡ s) → EachStruck (behind shows holds) (Unchanged (behind shows holds)) start s cs
      unfolding EachStruck behind
      unchanged alone [] start s b f k = tt
      unchanged alone (c ∷ cs) start s b f k =
          let e = entry (shows s) c in
          let fit = fits_next (shows s) c (first_fits c cs b) f in
          let u = undone c e.device fit in (
            λ t. ap (λ (e : DeviceResult). holds c e.device) (struck_is (shows s) c f (sym (struck_too s c) ∙ t)) ∙ k c,
            unchanged alone cs (start_after start s.tag) (holds c e.device) (rest_fits c cs b) (subst Fits (sym u) fit)
                (λ x. ap (holds x) u ∙ alone x c e.device),
          )

      start_too : (start : Tag) (s : Device) → start_after start (shows s).tag ≡ start_after start s.tag
      unfolding pick
      start_too start s = by_open (transfer_open s.tag) refl
        where
          by_open : (o : Bool) → transfer_open s.tag ≡ o → start_after start (shows s).tag ≡ start_after start s.tag
          by_open true e = rw (e, sym (open-too s) ∙ e)
          by_open false e = ap (λ (x : Device). start_after start x.tag) (shut s (sym (open-too s) ∙ e))

      -- they are answered rightly, if the field and the radio state are shown as they are
      replies : ((s : Device) → (shows s).tag.air ≡ s.tag.air) → (cs : List Call) (start : Tag) (s : Device) → frames_fit cs ≡ true → Fits (shows s)
          → EachStruck entry (RepliesShut entry) start (shows s) cs → EachStruck (behind shows holds) (RepliesShut (behind shows holds)) start s cs
      unfolding EachStruck behind
      replies air [] start s b f a = tt
      replies air (c ∷ cs) start s b f (h, hs) =
          let e = entry (shows s) c in
          let fit = fits_next (shows s) c (first_fits c cs b) f in
          let u = undone c e.device fit in
          let now = start_after start s.tag in (
            λ t.
                h (sym (struck_too s c) ∙ t)
                ∙ ap (λ (x : Tag). call_reply (shut_reply (signal_by c.code c.value) x (shows s).tag.air c.frame) c.buffer) (start_too start s)
                ∙ ap (λ (x : Air). call_reply (shut_reply (signal_by c.code c.value) now x c.frame) c.buffer) (air s),
            replies air cs now (holds c e.device) (rest_fits c cs b) (subst Fits (sym u) fit)
                (subst (λ (x : Device). EachStruck entry (RepliesShut entry) now x cs) (sym u) (subst (λ (x : Tag). EachStruck entry (RepliesShut entry) x e.device cs) (start_too start s) hs)),
          )

-- ---- the mark
unmarked : (d : Device) → Fits d → is_marked d ≡ false
unfolding host_in_range
unmarked d f =
    let bus = d.tag.host.bus in
    let page = and_left (leb (page_bytes bus) 256) _ (and_left (leb (page_bytes bus) 256 && _) _ (range_parts d.tag d.memory f.range).host) in
    ne_eqb (page_bytes bus) 300 (λ e. absurd (omega (arith, leb-true (page_bytes bus) 256 page, e)))

is_user_write_leg_lem : (b : Bus) (dynamic : RfMngt) → is_user_write_leg b ≡ true → b ≡ WriteLeg (kept_of (transfer_at b) dynamic) User
unfolding is_user_write_leg kept_of transfer_at
is_user_write_leg_lem Idle dynamic h = absurd (false≢true h)
is_user_write_leg_lem (Started o) dynamic h = absurd (false≢true h)
is_user_write_leg_lem (ReadLeg kept s o l) dynamic h = absurd (false≢true h)
is_user_write_leg_lem (WriteLeg kept User) dynamic h = refl
is_user_write_leg_lem (WriteLeg kept System) dynamic h = absurd (false≢true h)
is_user_write_leg_lem (LowAddress kept s x) dynamic h = absurd (false≢true h)
is_user_write_leg_lem (DataLeg kept s n x) dynamic h = absurd (false≢true h)

shown_in_range : (d other : Device) → Fits d → pick (is_marked d) other d ≡ d
shown_in_range d other f = sym (pick_false other d d (is_marked d) (unmarked d f) refl)

shown_shut : (d other : Device) → transfer_open other.tag ≡ true → transfer_open (pick (is_marked d) other d).tag ≡ false → pick (is_marked d) other d ≡ d
shown_shut d other o =
    pick_case (λ (x : Device). transfer_open x.tag ≡ false → x ≡ d) (is_marked d) other d (λ h n. absurd (false≢true (sym n ∙ o))) (λ h n. refl)

-- ---- the tag whose radio session is past its range after a Stop
session_in_range : (d : Device) → Fits d → session_shown d ≡ d
session_in_range d f =
    let n = d.tag.air.session in
    let low = session_at_most d.tag.air (range_parts d.tag d.memory f.range).air in
    sym (pick_false (d but radio_session (n - 5)) d d (ltb 4 n) (le-ltb 4 n low) refl)

session_undone : (c : Call) (d : Device) → Fits d → session_shown (session_raised c d) ≡ d
session_undone c d f =
    let n = d.tag.air.session in
    pick_case (λ (x : Device). session_shown x ≡ d) (eqb c.code 6) (d but radio_session (n + 5)) d
    (λ h.
    let e : n ≡ n + 5 - 5 = omega arith in
    sym (pick_true (d but radio_session (n + 5 - 5)) (d but radio_session (n + 5)) d (ltb 4 (n + 5)) (lt-ltb 4 (n + 5) (omega arith)) (ap (λ (k : ℕ). d but radio_session k) e)))
    (λ h. session_in_range d f)

pub only_tag_tells : OnlyTagTells
only_tag_tells = answers_behind session_shown session_raised session_in_range session_undone

-- ---- the two tags with a mark
mark_undone : (c : Call) (d : Device) → Fits d → without_mark (frame_marked c d) ≡ d
unfolding pick page_bytes kept_of transfer_at
mark_undone c d f =
    let b = d.tag.host.bus in
    pick_case (λ (x : Device). without_mark x ≡ d) (eqb c.code 8 && is_user_write_leg b) (d but on_bus (mark (kept_by d))) d
    (λ h. ap (λ (b : Bus). d but on_bus b) (sym (is_user_write_leg_lem b d.tag.core.registers.dynamic (and_right (eqb c.code 8) (is_user_write_leg b) h))))
    (λ h. shown_in_range d (d but on_bus (WriteLeg (kept_by d) User)) f)

field_undone : (c : Call) (d : Device) → Fits d → in_field_again (field_hidden c d) ≡ d
unfolding pick page_bytes kept_of transfer_at
field_undone c d f =
    let b = d.tag.host.bus in
    let on = d.tag.air.field in
    pick_case (λ (x : Device). in_field_again x ≡ d) (on && is_user_write_leg b) (d but on_bus (mark (kept_by d)) but field_is false) d
    (λ h.
    ap (λ (b : Bus). d but on_bus b but field_is true) (sym (is_user_write_leg_lem b d.tag.core.registers.dynamic (and_right on (is_user_write_leg b) h)))
    ∙ ap (λ (on : Bool). d but field_is on) (sym (and_left on (is_user_write_leg b) h)))
    (λ h. shown_in_range d (d but on_bus (WriteLeg (kept_by d) User) but field_is true) f)

marked_open : (b : Bus) → eqb (page_bytes b) 300 ≡ true → is_open b ≡ true
unfolding page_bytes is_open transfer_at is_open_transfer
marked_open Idle h = absurd (false≢true h)
marked_open (Started o) h = absurd (false≢true h)
marked_open (ReadLeg kept s o l) h = refl
marked_open (WriteLeg kept s) h = refl
marked_open (LowAddress kept s x) h = refl
marked_open (DataLeg kept s n x) h = refl

shown_open : (d other : Device) → transfer_open other.tag ≡ true → transfer_open d.tag ≡ transfer_open (pick (is_marked d) other d).tag
shown_open d other o =
    pick_case (λ (x : Device). transfer_open d.tag ≡ transfer_open x.tag) (is_marked d) other d (λ h. marked_open d.tag.host.bus h ∙ sym o) (λ h. refl)

field_kept : (c : Call) (d : Device) → transfer_open d.tag ≡ false → field_hidden c d ≡ d
unfolding is_open transfer_at is_open_transfer
field_kept c d o =
    let b = d.tag.host.bus in
    let on = d.tag.air.field in
    pick_case (λ (x : Device). x ≡ d) (on && is_user_write_leg b) (d but on_bus (mark (kept_by d)) but field_is false) d
    (λ h. absurd (false≢true (sym o ∙ ap is_open (is_user_write_leg_lem b d.tag.core.registers.dynamic (and_right on (is_user_write_leg b) h)))))
    (λ h. refl)

abbrev selected_again : Device → Device
selected_again d = d but on_bus (WriteLeg (kept_by d) User)

abbrev field_again : Device → Device
field_again d = d but on_bus (WriteLeg (kept_by d) User) but field_is true

pub only_unchanged_tells : OnlyUnchangedTells
unfolding is_open transfer_at is_open_transfer
only_unchanged_tells =
    let shown : (d : Device) → Fits d → without_mark d ≡ d = λ d f. shown_in_range d (selected_again d) f in
    let shut : (d : Device) → transfer_open (without_mark d).tag ≡ false → without_mark d ≡ d = λ d. shown_shut d (selected_again d) refl in (
      same_behind without_mark frame_marked shown mark_undone shut,
      λ d cs range size frames none end.
          let f : Fits d = record { range = range; size = size } in
          replies without_mark frame_marked shown mark_undone shut (λ s. shown_open s (selected_again s) refl)
          (λ s. pick_case (λ (x : Device). x.tag.air ≡ s.tag.air) (is_marked s) (selected_again s) s (λ h. refl) (λ h. refl))
          cs d.tag d frames (subst Fits (sym (shown d f)) f)
          (subst (λ (x : Device). EachStruck entry (RepliesShut entry) d.tag x cs) (sym (shown d f)) (all_reply cs d.tag d frames f (λ h. absurd (false≢true (sym none ∙ h))))),
    )

pub only_reply_tells : OnlyReplyTells
unfolding is_open transfer_at is_open_transfer
only_reply_tells =
    let shown : (d : Device) → Fits d → in_field_again d ≡ d = λ d f. shown_in_range d (field_again d) f in
    let shut : (d : Device) → transfer_open (in_field_again d).tag ≡ false → in_field_again d ≡ d = λ d. shown_shut d (field_again d) refl in (
      same_behind in_field_again field_hidden shown field_undone shut,
      λ d cs range size frames none end.
          let f : Fits d = record { range = range; size = size } in
          unchanged in_field_again field_hidden shown field_undone shut (λ s. shown_open s (field_again s) refl) (λ c e d. refl)
          cs d.tag d frames (subst Fits (sym (shown d f)) f) (λ c. ap (field_hidden c) (shown d f) ∙ field_kept c d none),
    )
