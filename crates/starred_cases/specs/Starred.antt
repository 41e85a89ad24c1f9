-- Document 01, "Bench checks": the nine that are marked to be proved together as one table, in the paper's order.
use Rattle.std.specs.Prelude.{true, false, List, [], ◌∷◌, ◌++◌, pos, replicate}
use Rattle.numbers.specs.Signed.{word_of}
use Rattle.lists.specs.Checks.{Row, row}
use Rattle.counters.specs.Counter.{counter0, counter_step, with_count}
use Rattle.registers.specs.Calls.{Call, tick, write, download}
use Rattle.registers.proofs.Cases.{reads, reads_bit, answers, often, pulses, counting, triggered, asked, asked_often}

-- counter 0 counts input 0 and has positive threshold 5
abbrev pub threshold_five : List Call
threshold_five = counting 0 ++ (download 3 (5 ∷ replicate 511 0) ∷ []) ++ asked 3 0 ++ often 129 (tick 0 0)

unfoldable pub starred : List Row
starred =
    -- 0x063C reads 0x0307; 0x063D 0x0603
    row 0x0307 (reads [] 0x063C)
    ∷ row 0x0603 (reads [] 0x063D)
    -- threshold 5: count 5 clear, 6 over
    ∷ row 5 (reads (threshold_five ++ pulses 5) 0x1200)
    ∷ row 0 (reads_bit (threshold_five ++ pulses 5) 0x0708 0)
    ∷ row 6 (reads (threshold_five ++ pulses 6) 0x1200)
    ∷ row 1 (reads_bit (threshold_five ++ pulses 6) 0x0708 0)
    -- 2,147,483,647 and one more: -2,147,483,648
    ∷ row 0x8000_0000 (word_of 32 (counter_step (with_count counter0 (pos 2147483647)) false false true true false).count)
    -- UP and DOWN rise together: unchanged
    ∷ row 7 (word_of 32 (counter_step (with_count counter0 (pos 7)) false false true true true).count)
    -- timeout 0: the first low tick in PREPARE gives 4
    ∷ row 1 (reads (write 0x0A03 1 ∷ tick 0 0 ∷ []) 0x071A)
    ∷ row 4 (reads (write 0x0A03 1 ∷ tick 0 0 ∷ tick 0 0 ∷ []) 0x071A)
    -- 25,000 kHz rises first at tick 5, 24,900 at 6
    ∷ row 0 (reads (counting 63 ++ often 4 (tick 0 1)) 0x1200)
    ∷ row 1 (reads (counting 63 ++ often 5 (tick 0 1)) 0x1200)
    ∷ row 0 (reads (counting 62 ++ often 5 (tick 0 1)) 0x1200)
    ∷ row 1 (reads (counting 62 ++ often 6 (tick 0 1)) 0x1200)
    -- dataset 31 taken, 32 refused
    ∷ row 0 (answers [] (write 0x0A02 (triggered 31 0)))
    ∷ row 4 (answers [] (write 0x0A02 (triggered 32 0)))
    -- 16 requests taken, the 17th refused 5; one tick later taken
    ∷ row 0 (answers (asked_often 15) (write 0x0A02 (triggered 0 0)))
    ∷ row 5 (answers (asked_often 16) (write 0x0A02 (triggered 0 0)))
    ∷ row 0 (answers (asked_often 16 ++ (tick 0 0 ∷ [])) (write 0x0A02 (triggered 0 0)))
    -- 0xBFFF written; 0xC000 refused 2; 0x0700 refused 3
    ∷ row 0 (answers [] (write 0xBFFF 7))
    ∷ row 7 (reads (write 0xBFFF 7 ∷ []) 0xBFFF)
    ∷ row 2 (answers [] (write 0xC000 7))
    ∷ row 3 (answers [] (write 0x0700 7))
    ∷ []
