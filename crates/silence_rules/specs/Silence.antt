-- "Silence and no change:", rule by rule, of a frame without the inventory flag. One with it meets the first four, and then the rule "inventory flag" as Ask 4 amends it,
-- "such frames' last rule": `inventory_silent` of crates/inventory/specs/Inventory.antt.
use Rattle.std.specs.Prelude.{Bool, not, ◌&&◌, ◌||◌, List, [], ◌∷◌, ◌++◌, ℕ, ltb, eqb, length, get_or}
use Rattle.parts.specs.Bits.{is_set}
use Rattle.crc.specs.Crc.{good_frame}
use Rattle.register_types.specs.declared.RfMngt.{RfMngt}
use Rattle.air.specs.declared.Air.{Air}
use Rattle.keys.specs.declared.Uid.{Uid}
use Rattle.air.specs.Radio.{is_quiet, is_selected}
use Rattle.rule_list.specs.RuleList.{any_holds, first_says}
use Rattle.commands.specs.Table.{select_code, stay_quiet_code}
use Rattle.frame.specs.Fields.{command, select_flag, address_flag, is_custom, param_place, crc_place, own_uid}

pub data SilenceRule : Type 0 where
  no_field rfSleep badSize badCrc bothFlags otherMaker otherUid notSelected neitherWhenQuiet notAddressed : SilenceRule

unfoldable pub maker_differs : List ℕ → Bool
maker_differs f = is_custom f && (ltb (crc_place f) 3 || not (eqb (get_or f 2 0) 0x02))

unfoldable pub uid_differs : List ℕ → Uid → Bool
uid_differs f u = address_flag f && (ltb (crc_place f) (param_place f) || (not (eqb (command f) select_code) && not (own_uid f u)))

-- the rule's condition, of a frame, the air side, the UID and RF_MNGT_Dyn
unfoldable pub silence_holds : List ℕ → Air → Uid → RfMngt → SilenceRule → Bool
-- "field off"
silence_holds f a u dynamic no_field = not a.field
-- "RF_MNGT_Dyn b1"
silence_holds f a u dynamic rfSleep = is_set 2 dynamic.bits
-- "under 4 or over 270 bytes"
silence_holds f a u dynamic badSize = ltb (length f) 4 || ltb 270 (length f)
-- "bad CRC"
silence_holds f a u dynamic badCrc = not (good_frame f)
-- "both select and address"
silence_holds f a u dynamic bothFlags = select_flag f && address_flag f
-- "02h missing or other"
silence_holds f a u dynamic otherMaker = maker_differs f
-- "UID short or, except in Select, other"
silence_holds f a u dynamic otherUid = uid_differs f u
-- "select flag when not Selected"
silence_holds f a u dynamic notSelected = select_flag f && not (is_selected a.radio)
-- "neither flag when Quiet"
silence_holds f a u dynamic neitherWhenQuiet = not (select_flag f) && not (address_flag f) && is_quiet a.radio
-- "Select or Stay Quiet not addressed"
silence_holds f a u dynamic notAddressed = (eqb (command f) select_code || eqb (command f) stay_quiet_code) && not (address_flag f)

-- the number under which the rule is named in an explanation (docs/LIBRARY.md); 0 is no rule
unfoldable pub silence_number : SilenceRule → ℕ
silence_number no_field = 21
silence_number rfSleep = 22
silence_number badSize = 23
silence_number badCrc = 24
silence_number bothFlags = 26
silence_number otherMaker = 27
silence_number otherUid = 28
silence_number notSelected = 29
silence_number neitherWhenQuiet = 30
silence_number notAddressed = 31

-- the rules that every frame meets first
unfoldable pub reception_silences : List SilenceRule
reception_silences = no_field ∷ rfSleep ∷ badSize ∷ badCrc ∷ []

-- and then a request
unfoldable pub address_silences : List SilenceRule
address_silences = bothFlags ∷ otherMaker ∷ otherUid ∷ notSelected ∷ neitherWhenQuiet ∷ notAddressed ∷ []

-- 01's list, in its order
unfoldable pub request_silences : List SilenceRule
request_silences = reception_silences ++ address_silences

-- the number of the first that holds, or 0
unfoldable pub first_silence : List ℕ → Air → Uid → RfMngt → ℕ
first_silence f a u dynamic = first_says (silence_holds f a u dynamic) silence_number 0 request_silences

unfoldable pub is_silent : List ℕ → Air → Uid → RfMngt → Bool
is_silent f a u dynamic = any_holds (silence_holds f a u dynamic) request_silences
