-- Document 01, "Trace and printing program": the example trace and what the program prints for it.
use Rattle.std.specs.Prelude.{ℕ, List, [], ◌∷◌, ◌++◌, codes}

-- 02 00 04 10 00 0D 80, 02 00 04 08 02 00 01, 02 00 04 11 08 00 01, 01 00 0B 00 01 00 00 00 00 00 00 01 00 01
unfoldable pub example : List ℕ
example =
    (0x02 ∷ 0x00 ∷ 0x04 ∷ 0x10 ∷ 0x00 ∷ 0x0D ∷ 0x80 ∷ [])
    ++ (0x02 ∷ 0x00 ∷ 0x04 ∷ 0x08 ∷ 0x02 ∷ 0x00 ∷ 0x01 ∷ [])
    ++ (0x02 ∷ 0x00 ∷ 0x04 ∷ 0x11 ∷ 0x08 ∷ 0x00 ∷ 0x01 ∷ [])
    ++ (0x01 ∷ 0x00 ∷ 0x0B ∷ 0x00 ∷ 0x01 ∷ 0x00 ∷ 0x00 ∷ 0x00 ∷ 0x00 ∷ 0x00 ∷ 0x00 ∷ 0x01 ∷ 0x00 ∷ 0x01 ∷ [])

unfoldable pub example_text : List ℕ
example_text =
    codes "STOP END NEXT 35 TICKS 1 RECORDS 4 REFUSED 0\n"
    ++ codes "NEG 0000 0000 0000 0000 0000 0000 0000 0000\n"
    ++ codes "POS 0001 0000 0000 0000 0000 0000 0000 0000\n"
    ++ codes "OUT 3e\n"
