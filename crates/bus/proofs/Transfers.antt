-- The library's words on an `Option` say the same of a transfer. Assumes nothing.
use Rattle.std.specs.Prelude.{◌≡◌, Option, Some, None, is_some, unwrap_or}
use mathlib.Core.Path.{refl}
use Rattle.register_types.specs.declared.RfMngt.{RfMngt}
use Rattle.bus.specs.declared.OpenTransfer.{OpenTransfer}
use Rattle.bus.specs.Bus.{is_open_transfer, counted_dynamic, kept_of}

pub some_open : (transfer : Option OpenTransfer) → is_some transfer ≡ is_open_transfer transfer
unfolding is_open_transfer
some_open None = refl
some_open (Some kept) = refl

pub kept_or_new : (transfer : Option OpenTransfer) (dynamic : RfMngt) → unwrap_or transfer (record { dynamic = dynamic }) ≡ kept_of transfer dynamic
unfolding kept_of
kept_or_new None dynamic = refl
kept_or_new (Some kept) dynamic = refl

pub counted_kept : (transfer : Option OpenTransfer) (dynamic : RfMngt) → (kept_of transfer dynamic).dynamic ≡ counted_dynamic transfer dynamic
unfolding kept_of counted_dynamic
counted_kept None dynamic = refl
counted_kept (Some kept) dynamic = refl
