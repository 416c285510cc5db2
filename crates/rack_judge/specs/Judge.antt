-- A UID among others.
use Rattle.std.specs.Prelude.{Bool, false, ◌||◌, List, [], ℕ, zero, suc, get_or}
use Rattle.keys.specs.declared.Uid.{Uid}
use Rattle.keys.specs.Keys.{same_uid}

-- read past the last
abbrev pub no_uid : Uid
no_uid = record { bytes = [] }

-- one of the first n UIDs is u
unfoldable pub uid_among : List Uid → ℕ → Uid → Bool
uid_among uids zero u = false
uid_among uids (suc n) u = uid_among uids n u || same_uid (get_or uids n no_uid) u
