-- The loop of `step`: what holds before each turn, that a turn keeps it, and what it gives at the end. Assumes nothing.
use mathlib.Core.Path.{◌≡◌, refl, sym, ap, ◌∙◌}
use mathlib.Core.Bool.{Bool, true, false, ◌&&◌}
use mathlib.Core.List.{List, [], ◌++◌, append_assoc, append-nil}
use Prim.Native.Nat.{ℕ, suc, ◌+◌, ◌-◌, ◌≤◌, ◌<◌}
use native.Mathlib.Omega.{arith}
use lib.Dec.{leb, ltb}
use borrow.Author.Tests.{lt-ltb, leb-false}
use borrow.Rule.Slice.PartMut.{put_mid, Post-is, same_len_mid}
use lib.ListN.{length, take, drop, length-append, length-take, length-drop, take-append-drop}
use lib.Seq.{sets, sets-eq, take_all, take_at, drop_at, drop-drop, drop-length}
use Rattle.lines.specs.Line.{line_length}
use Rattle.unfinished.specs.Kept.{kept_most, keep}
use Rattle.line_stream.specs.Step.{LineProgram, LineStored, line_stored, stores_line, PieceResult, piece_result, ahead, piece_by, stream_buffers, puts}
use Rattle.line_stream.specs.Claim.{TellsByKept}
use Rattle.line_stream.proofs.Steps.{ahead_ahead, line_at, line_step, stop_step}
use Rattle.lines.proofs.Scan.{line_le}

-- ---- a text put into the rest of a buffer
put_tail : (n : ℕ) (xs ys : List ℕ) → n ≤ length xs → put_mid n (length xs - n) xs ys ≡ take n xs ++ ys
put_tail n xs ys h =
    ap (λ (z : List ℕ). take n xs ++ (ys ++ z)) (Post-is n (length xs) xs h ∙ drop-length xs)
    ∙ ap (λ (z : List ℕ). take n xs ++ z) (append-nil ys)

module _ (at : ℕ) (out t ys : List ℕ) (room : at + length t ≤ length out)
    (put : ys ≡ sets (take (length out - at) (drop at out)) 0 t) where
  put_is : put_mid at (length out - at) out ys ≡ (take at out ++ t) ++ drop (length t) (drop at out)
  put_is =
      put_tail at out ys (omega arith)
      ∙ ap (λ (z : List ℕ). take at out ++ z)
      (put
      ∙ ap (λ (z : List ℕ). sets z 0 t) (take_all (length out - at) (drop at out) (omega (arith, length-drop at out)))
      ∙ sets-eq t (drop at out) 0 (omega (arith, length-drop at out))
      ∙ ap (λ (n : ℕ). t ++ drop n (drop at out)) zero_more)
      ∙ sym (append_assoc (take at out) t (drop (length t) (drop at out)))
    where
      zero_more : 0 + length t ≡ length t
      zero_more = omega arith

  long : length (take at out ++ t) ≡ at + length t
  long = omega (arith, length-append (take at out) t, length-take at out)

  put_take : take (at + length t) (put_mid at (length out - at) out ys) ≡ take at out ++ t
  put_take = ap (take (at + length t)) put_is ∙ take_at (take at out ++ t) (drop (length t) (drop at out)) (at + length t) long

  put_drop : drop (at + length t) (put_mid at (length out - at) out ys) ≡ drop (length t) (drop at out)
  put_drop = ap (drop (at + length t)) put_is ∙ drop_at (take at out ++ t) (drop (length t) (drop at out)) (at + length t) long

same_ahead : {S : Type 0} (program : LineProgram S) (i j r q : ℕ) (x y : List ℕ) (c u : S) (s v : List ℕ) → i ≡ j → r ≡ q → x ≡ y → c ≡ u → s ≡ v
    → ahead i x (piece_by program r c [] s) ≡ ahead j y (piece_by program q u [] v)
same_ahead program i j r q x y c u s v ei er ex ec es = rw (ei, er, ex, ec, es)

-- ---- before each turn: what was used and written, and then what is left, is the whole call
pub record Goes {S : Type 0} (program : LineProgram S) (c₀ : S) (h₀ s out₀ : List ℕ) (c : S) (kept out : List ℕ) (n from at end : ℕ) : Type 0 where
  pub so_far : piece_by program (length out₀) c₀ h₀ s ≡ ahead from (take at out) (piece_by program (length out₀ - at) c (take n kept) (drop from s))
  pub rest : drop at out ≡ drop at out₀
  pub out_len : length out ≡ length out₀
  pub fits : at ≤ length out₀
  pub few : n ≤ kept_most
  pub next : end ≡ from + line_length (drop from s)
  pub within : end ≤ length s

pub begins : {S : Type 0} (program : LineProgram S) (c : S) (kept s out : List ℕ) (n end : ℕ) → n ≤ kept_most → end ≡ 0 + line_length s → Goes program c (take n kept) s out c kept out n 0 0 end
begins program c kept s out n end few e =
    let z : length out - 0 ≡ length out = omega arith in
    let y : 0 + (piece_by program (length out) c (take n kept) s).used ≡ (piece_by program (length out) c (take n kept) s).used = omega arith in
    record {
      so_far = rw (z, y);
      rest = refl;
      out_len = refl;
      fits = omega arith;
      few = few;
      next = e;
      within = omega (arith, line_le s);
    }

module _ {S : Type 0} (program : LineProgram S) (c₀ : S) (h₀ s out₀ : List ℕ) (c : S) (kept out : List ℕ) (n from at end : ℕ)
    (g : Goes program c₀ h₀ s out₀ c kept out n from at end) where
  k : line_length (drop from s) ≡ end - from
  k = omega (arith, g.next)

  -- a line: its text, by the call that answers it
  pub turns : TellsByKept program → (c' : S) (len : ℕ) (kept' ys : List ℕ) (end' : ℕ) → end < length s → 1342 ≤ length out - at
      → line_stored c' len ys ≡ stores_line (program c (take n kept ++ take (end - from) (drop from s))) (take (length out - at) (drop at out))
      → len ≤ 1342 → length ys ≡ length (take (length out - at) (drop at out))
      → end' ≡ end + 1 + line_length (drop (end + 1) s)
      → Goes program c₀ h₀ s out₀ c' kept' (put_mid at (length out - at) out ys) 0 (end + 1) (at + len) end'
  turns tells c' len kept' ys end' less room e short hy next =
      let h = take n kept in
      let d = drop from s in
      let a = program c (h ++ take (end - from) d) in
      let el : len ≡ length a.text = ap (λ (x : LineStored S). x.length) e in
      let ey : ys ≡ sets (take (length out - at) (drop at out)) 0 a.text = ap (λ (x : LineStored S). x.buffer) e in
      let es : a.carried ≡ c' = ap (λ (x : LineStored S). x.carried) (sym e) in
      let r : at + length a.text ≤ length out = omega (arith, g.fits, g.out_len) in
      let i : from + suc (end - from) ≡ end + 1 = omega (arith, k) in
      let q : length out₀ - at - length a.text ≡ length out₀ - (at + len) = omega arith in
      record {
        so_far =
            g.so_far
            ∙ ap (ahead from (take at out))
            (line_step program tells d (length out₀ - at) c h (omega (arith, k, length-drop from s, g.next)) (omega (arith, g.out_len))
            ∙ ap (λ (j : ℕ). line_at program (length out₀ - at) d j (program c (h ++ take j d))) k)
            ∙ ahead_ahead from (suc (end - from)) (take at out) a.text (piece_by program (length out₀ - at - length a.text) a.carried [] (drop (suc (end - from)) d))
            ∙ same_ahead program (from + suc (end - from)) (end + 1) (length out₀ - at - length a.text) (length out₀ - (at + len))
            (take at out ++ a.text) (take (at + len) (put_mid at (length out - at) out ys)) a.carried c' (drop (suc (end - from)) d) (drop (end + 1) s)
            i q
            (sym (ap (λ (j : ℕ). take (at + j) (put_mid at (length out - at) out ys)) el ∙ put_take at out a.text ys r ey))
            es
            (drop-drop (suc (end - from)) from s ∙ ap (λ (j : ℕ). drop j s) i);
        rest =
            ap (λ (j : ℕ). drop (at + j) (put_mid at (length out - at) out ys)) el
            ∙ put_drop at out a.text ys r ey
            ∙ ap (drop (length a.text)) g.rest
            ∙ drop-drop (length a.text) at out₀
            ∙ ap (λ (j : ℕ). drop (at + j) out₀) (sym el);
        out_len = same_len_mid at (length out - at) out ys hy ∙ g.out_len;
        fits = omega (arith, g.out_len);
        few = omega arith;
        next = next;
        within = omega (arith, line_le (drop (end + 1) s), length-drop (end + 1) s);
      }

  -- no line feed is left, or no room: what follows is kept
  pub ends : (h : List ℕ) → (ltb end (length s) && leb 1342 (length out - at)) ≡ false
      → h ≡ keep (take n kept ++ take (end - from) (drop from s))
      → stream_buffers c h end at out ≡ puts (piece_by program (length out₀) c₀ h₀ s) out₀
  ends h stop e =
      let d = drop from s in
      let p = take at out in
      let lp : length p ≡ at = omega (arith, length-take at out, g.fits, g.out_len) in
      let i : from + line_length d ≡ end = sym g.next in
      let w : piece_by program (length out₀) c₀ h₀ s ≡ piece_result c h end p =
      g.so_far
      ∙ ap (ahead from p)
      (stop_step program d (length out₀ - at) c (take n kept) (omega (arith, length-take n kept, g.few))
      (λ l. omega (arith, g.out_len, leb-false 1342 (length out - at) (second (ltb end (length s)) (leb 1342 (length out - at)) stop (lt-ltb end (length s) (omega (arith, g.next, length-drop from s)))))))
      ∙ rw (i, append-nil p, k, ← e) in
      let same : sets out₀ 0 p ≡ out =
      sets-eq p out₀ 0 (omega (arith, g.fits))
      ∙ ap (λ (j : ℕ). p ++ drop j out₀) (zero_and lp)
      ∙ ap (λ (z : List ℕ). p ++ z) (sym g.rest)
      ∙ take-append-drop at out in
      sym (ap (λ (f : PieceResult S). puts f out₀) w ∙ rw (lp, same))
    where
      second : (x y : Bool) → (x && y) ≡ false → x ≡ true → y ≡ false
      second true y f t = f
      second false true f t = sym t
      second false false f t = refl

      zero_and : {a b : ℕ} → a ≡ b → 0 + a ≡ b
      zero_and f = omega arith
