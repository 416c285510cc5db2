use mathlib.Core.Path.{refl, ap, ◌∙◌}
use mathlib.Core.List.{List}
use Prim.Native.Nat.{ℕ}
use lib.ListN.{take}
use Rattle.text.specs.Place.{text_at}
use Rattle.hexadecimal.specs.Hex.{hex_text}
use Rattle.state.specs.Layout.{state_bytes}
use Rattle.example_states.proofs.States.{encoded, all_bytes}
use Rattle.example_states.proofs.put_state.Goals as goal

pub returns : goal.returns
returns c =
    let a = c.args in
    let e = c.encode.ensures in
    c.put_hex.ensures
    ∙ ap (λ (l : List ℕ). text_at a.text.now a.at (hex_text (take state_bytes l))) (encoded a.t _ _ refl e.t_len e.s_after)
    ∙ ap (λ (l : List ℕ). text_at a.text.now a.at (hex_text l)) (all_bytes a.t e.t_len)
