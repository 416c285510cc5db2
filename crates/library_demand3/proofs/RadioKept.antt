-- A frame keeps the passwords and the memory of bytes. Assumes nothing.
use Rattle.std.specs.Prelude.{Option}
use Rattle.bus.specs.declared.OpenTransfer.{OpenTransfer}
use mathlib.Core.Path.{sym, subst}
use mathlib.Core.Bool.{Bool}
use mathlib.Core.List.{List}
use Prim.Native.Nat.{ℕ}
use Rattle.parts.proofs.Below.{Below}
use Rattle.parts.proofs.Picks.{pick_case}
use Rattle.keys.specs.declared.Uid.{Uid}
use Rattle.keys.specs.declared.Passwords.{Passwords}
use Rattle.keys.specs.Keys.{password_at, with_radio_password}
use Rattle.reply.specs.declared.RadioSide.{RadioSide}
use Rattle.reply.specs.Outcome.{CommandResult}
use Rattle.radio.specs.Radio.{radio_of}
use Rattle.radio.proofs.EveryCommand.{KeysAfter, same_keys, new_key, frame_behaves}
use Rattle.state.specs.Claims.{PasswordsFit}
use Rattle.state.proofs.Decoded.{eight_run}

-- a radio password replaced
radio_fits : (n : ℕ) (p : Passwords) (s : List ℕ) (at : ℕ) → Below s → PasswordsFit p → PasswordsFit (with_radio_password n (password_at s at) p)
unfolding with_radio_password
radio_fits n p s at h f =
    let x = eight_run s at h in
    pick_case PasswordsFit _ _ _ (λ _. record { i2c = f.i2c; rf0 = x; rf1 = f.rf1; rf2 = f.rf2; rf3 = f.rf3 })
    (λ _. pick_case PasswordsFit _ _ _ (λ _. record { i2c = f.i2c; rf0 = f.rf0; rf1 = x; rf2 = f.rf2; rf3 = f.rf3 })
    (λ _. pick_case PasswordsFit _ _ _ (λ _. record { i2c = f.i2c; rf0 = f.rf0; rf1 = f.rf1; rf2 = x; rf3 = f.rf3 })
    (λ _. pick_case PasswordsFit _ _ _ (λ _. record { i2c = f.i2c; rf0 = f.rf0; rf1 = f.rf1; rf2 = f.rf2; rf3 = x }) (λ _. f))))

keys_fit : (f : List ℕ) (p next : Passwords) → Below f → PasswordsFit p → KeysAfter f p next → PasswordsFit next
keys_fit f p next h fits (same_keys e) = subst PasswordsFit (sym e) fits
keys_fit f p next h fits (new_key n at e) = subst PasswordsFit (sym e) (radio_fits n p f at h fits)

pub record Sound (d : CommandResult) : Type 0 where
  pub passwords : PasswordsFit d.side.core.passwords
  pub memory : Below d.memory

pub radio_sound : (v : RadioSide) (u : Uid) (vcc : Bool) (transfer : Option OpenTransfer) (programming : Bool) (m f : List ℕ) → PasswordsFit v.core.passwords → Below m → Below f
    → Sound (radio_of v u vcc transfer programming m f)
radio_sound v u vcc transfer programming m f p h b =
    let k = frame_behaves v vcc m f u transfer programming in
    record { passwords = keys_fit f _ _ b p k.keys; memory = k.bytes h b }
