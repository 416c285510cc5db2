-- Areas and their ends.
use Rattle.std.specs.Prelude.{Bool, true, ◌&&◌, ◌||◌, ℕ, ◌+◌, ◌*◌, leb, ltb, eqb}
use Rattle.register_table.specs.Passed.{pick, EndA}
use Rattle.registers.specs.declared.Ends.{Ends}
use Rattle.register_table.specs.declared.WriteRule.{WriteRule}
use Rattle.register_table.specs.declared.WriteRule.TheVariants.{Plain, AreaEnd, MailboxMode}
use Rattle.register_table.specs.Table.{row_of}

-- "ENDA1 to ENDA3 are 0 to 0Fh."
abbrev pub largest_end : ℕ
largest_end = 0x0F

-- "Area i ends at block 8·ENDAi+7, byte 32·ENDAi+31"
abbrev pub last_block : EndA → ℕ
last_block end = 8 * end.bits + 7

abbrev pub last_byte : EndA → ℕ
last_byte end = 32 * end.bits + 31

-- "A block lies in the first area whose end reaches it"; "area 4 takes the rest of 128 blocks"
unfoldable pub area_of_block : Ends → ℕ → ℕ
area_of_block e block =
    pick (leb block (last_block e.end1)) 1
    (pick (leb block (last_block e.end2)) 2
    (pick (leb block (last_block e.end3)) 3
    4))

-- the same for a byte
unfoldable pub area_of_byte : Ends → ℕ → ℕ
area_of_byte e at =
    pick (leb at (last_byte e.end1)) 1
    (pick (leb at (last_byte e.end2)) 2
    (pick (leb at (last_byte e.end3)) 3
    4))

-- "Ends rise; two are equal only at 0Fh."
abbrev pub rises : EndA → EndA → Bool
rises lower upper = ltb lower.bits upper.bits || (eqb lower.bits largest_end && eqb upper.bits largest_end)

unfoldable pub ends_in_range : Ends → Bool
ends_in_range e =
    leb e.end1.bits largest_end
    && leb e.end2.bits largest_end
    && leb e.end3.bits largest_end
    && rises e.end1 e.end2
    && rises e.end2 e.end3

-- "all later ends are 0Fh": of ENDAi, i from 1 to 3
unfoldable pub later_largest : Ends → ℕ → Bool
later_largest e i =
    pick (eqb i 1) (eqb e.end2.bits largest_end && eqb e.end3.bits largest_end)
    (pick (eqb i 2) (eqb e.end3.bits largest_end)
    (eqb i 3))

-- "it exceeds the end before it (ENDA1 has none)"
unfoldable pub exceeds_before : Ends → ℕ → ℕ → Bool
exceeds_before e i x =
    pick (eqb i 1) true
    (pick (eqb i 2) (ltb e.end1.bits x)
    (ltb e.end2.bits x))

-- "A new ENDAi is accepted exactly when it is at most 0Fh, all later ends are 0Fh, and it exceeds the end before it (ENDA1 has none) or is itself 0Fh (house)."
unfoldable pub end_accepted : Ends → ℕ → ℕ → Bool
end_accepted e i x = leb x largest_end && later_largest e i && (exceeds_before e i x || eqb x largest_end)

-- the same for any register: no other has such a rule
abbrev pub rule_allows : WriteRule → Ends → ℕ → Bool
rule_allows Plain e x = true
rule_allows (AreaEnd i) e x = end_accepted e i x
rule_allows MailboxMode e x = true

unfoldable pub end_allows : Ends → ℕ → ℕ → Bool
end_allows e address x = rule_allows (row_of address).rule e x
