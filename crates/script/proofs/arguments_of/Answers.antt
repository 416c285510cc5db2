use native.Mathlib.Omega.{arith}
use mathlib.Core.Path.{◌≡◌, sym, ap, ◌∙◌}
use mathlib.Core.List.{List}
use Prim.Native.Nat.{ℕ, ◌-◌, ◌≤◌}
use lib.ListN.{length, take, drop, length-drop}
use lib.Seq.{sets, take_all}
use Rattle.std.specs.Prelude.{Option, Some, None}
use Rattle.crc.specs.Crc.{closed}
use Rattle.script.specs.Bench.{bench_call, line_result, closed_frame, bench_of}
use Rattle.reading.specs.Line.{ScriptLine, line_of, line_by}
use Rattle.hexadecimal.specs.Hex.{hex_bytes}
use Rattle.reading.specs.declared.Reading.{Reading}
use Rattle.reading.proofs.LineLaws.{framed, Framed}
use Rattle.script.proofs.arguments_of.Goals as goal

-- what the line says, by what was read
said : (s : List ℕ) (r x : Option Reading) → line_by r (drop 2 s) ≡ line_of s → r ≡ x → line_of s ≡ line_by x (drop 2 s)
said s r x e h = sym e ∙ ap (λ (y : Option Reading). line_by y (drop 2 s)) h

-- all that stands behind the tab
behind : (s : List ℕ) → take (length s - 2) (drop 2 s) ≡ drop 2 s
behind s = take_all (length s - 2) (drop 2 s) (omega (arith, length-drop 2 s))

pub slice_bounds-put_frame-count : goal.slice_bounds-put_frame-count
unfolding line_by
slice_bounds-put_frame-count c =
    let s = c.args.s.now in
    let r = c.in-Some-Frame in
    let f : Framed s = framed s (hex_bytes (drop 2 s)) (said s _ _ c.read.ensures (r.is ∙ ap Some r.field-0-is)) in
    omega (arith, f)

pub slice_bounds-put_frame-start : goal.slice_bounds-put_frame-start
unfolding line_by
slice_bounds-put_frame-start c =
    let s = c.args.s.now in
    let r = c.in-Some-Frame in
    let f : Framed s = framed s (hex_bytes (drop 2 s)) (said s _ _ c.read.ensures (r.is ∙ ap Some r.field-0-is)) in
    omega (arith, f)

pub returns-in-None : goal.returns-in-None
unfolding bench_of line_result line_by closed_frame
returns-in-None c =
    let a = c.args in
    let e = said a.s.now _ _ c.read.ensures c.in-None.is in
    record { bad = λ named b m o. ap (λ (x : ScriptLine). line_result named x b m o) (sym e); good = tt; length_in_bounds = tt; frame_after = ap (λ (x : ScriptLine). sets a.frame.now 0 (closed_frame x)) (sym e) }

pub returns-in-Some-Signal : goal.returns-in-Some-Signal
unfolding bench_of line_result line_by closed_frame
returns-in-Some-Signal c =
    let a = c.args in
    let r = c.in-Some-Signal in
    let e = said a.s.now _ _ c.read.ensures (r.is ∙ ap Some r.field-0-is) in
    record { bad = tt; good = λ named b m o. ap (λ (x : ScriptLine). line_result named x b m o) (sym e); length_in_bounds = omega arith; frame_after = ap (λ (x : ScriptLine). sets a.frame.now 0 (closed_frame x)) (sym e) }

pub returns-in-Some-Frame : goal.returns-in-Some-Frame
unfolding bench_of line_result line_by closed_frame
returns-in-Some-Frame c =
    let a = c.args in
    let s = a.s.now in
    let r = c.in-Some-Frame in
    let w = c.put_frame in
    let e = said s _ _ c.read.ensures (r.is ∙ ap Some r.field-0-is) in
    let line : Framed s = framed s (hex_bytes (drop 2 s)) e in
    let short : length (take (length s - 2) (drop 2 s)) ≤ 1198 = rw (behind s) (omega (arith, line, length-drop 2 s)) in
    let f : take w.result w.new.frame ≡ closed (hex_bytes (drop 2 s)) = rw (behind s) at (w.ensures.frame_after short) in
    let g : w.new.frame ≡ sets a.frame.now 0 (closed (hex_bytes (drop 2 s))) = rw (behind s) at (w.ensures.frame_after_2 short) in
    record { bad = tt; good = λ named b m o. ap (λ (x : List ℕ). bench_call named b m o 8 0 x) f ∙ ap (λ (x : ScriptLine). line_result named x b m o) (sym e); length_in_bounds = w.ensures.upper_bound short; frame_after = g ∙ ap (λ (x : ScriptLine). sets a.frame.now 0 (closed_frame x)) (sym e) }
