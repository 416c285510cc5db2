-- "1,024 lent bytes: user memory 0 to 511, mailbox 512 to 767, page buffer 768 to 1023. A second lent buffer of at least 643 bytes takes the radio reply."
use Rattle.std.specs.Prelude.{List, ℕ}
use Rattle.registers.specs.Passed.{bytes_at}

abbrev pub user_bytes : ℕ
user_bytes = 512

-- "128 blocks"
abbrev pub blocks : ℕ
blocks = 128

abbrev pub mailbox_place : ℕ
mailbox_place = 512

abbrev pub page_place : ℕ
page_place = 768

-- the first k bytes of the page buffer
abbrev pub page : ℕ → List ℕ → List ℕ
page k m = bytes_at m page_place k

abbrev pub memory_bytes : ℕ
memory_bytes = 1024

abbrev pub reply_bytes : ℕ
reply_bytes = 643
