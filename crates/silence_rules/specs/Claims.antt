-- What is proved of the list: its order, rule by rule.
use Rattle.std.specs.Prelude.{◌≡◌, not, ◌&&◌, ◌||◌, List, ℕ, ltb, eqb, length}
use Rattle.parts.specs.Pick.{pick}
use Rattle.parts.specs.Bits.{is_set}
use Rattle.crc.specs.Crc.{good_frame}
use Rattle.register_types.specs.declared.RfMngt.{RfMngt}
use Rattle.air.specs.declared.Air.{Air}
use Rattle.air.specs.Radio.{is_quiet, is_selected}
use Rattle.keys.specs.declared.Uid.{Uid}
use Rattle.frame.specs.Fields.{command, select_flag, address_flag}
use Rattle.silence_rules.specs.Silence.{maker_differs, uid_differs, first_silence}

-- "field off; RF_MNGT_Dyn b1; under 4 or over 270 bytes; bad CRC; .. both select and address; 02h missing or other; UID short or, except in Select, other;
-- select flag when not Selected; neither flag when Quiet; Select or Stay Quiet not addressed": the number of the first that holds, or 0
abbrev pub SilencesInOrder : Type 0
SilencesInOrder = (f : List ℕ) (a : Air) (u : Uid) (dynamic : RfMngt) → first_silence f a u dynamic
    ≡ pick (not a.field) 21
    (pick (is_set 2 dynamic.bits) 22
    (pick (ltb (length f) 4 || ltb 270 (length f)) 23
    (pick (not (good_frame f)) 24
    (pick (select_flag f && address_flag f) 26
    (pick (maker_differs f) 27
    (pick (uid_differs f u) 28
    (pick (select_flag f && not (is_selected a.radio)) 29
    (pick (not (select_flag f) && not (address_flag f) && is_quiet a.radio) 30
    (pick ((eqb (command f) 0x25 || eqb (command f) 0x02) && not (address_flag f)) 31
    0)))))))))
