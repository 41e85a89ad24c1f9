-- A tick with the gate's output as it was and then k is k + 1, and a tick and then none is the tick: of a count, of a counter, and of all.
use Prim.{tt}
use Prim.Native.Nat.{ℕ, suc, ◌+◌, ◌-◌, ◌*◌, ◌%◌, ◌^◌, ◌<◌}
use native.Mathlib.Nat.{mod-lt}
use native.Mathlib.Omega.{arith}
use mathlib.Core.Bool.{Bool, true, false, not, ◌&&◌}
use mathlib.Core.List.{List}
use mathlib.Core.Path.{◌≡◌, refl, sym, ap, ◌∙◌}
use lib.Dec.{lit<, ltb}
use lib.IntN.{ℤ, pos, negsuc, ◌+ℤ◌, ◌-ℤ◌}
use lib.ListN.{get_or}
use lib.Signed.{mag}
use mir.Syntax.{w32}
use mir.Val.{SFits, of_z, to_z}
use Rattle.numbers.specs.Signed.{signed, word_of, wrapped}
use Rattle.words.specs.Word.{bit, bit_of}
use Rattle.numbers.proofs.Adding.{word_add}
use Rattle.numbers.proofs.Complement.{word_lt, word_signed, wrapped_lt, wrapped_same}
use Rattle.bools.proofs.Tests.{cases}
use Rattle.std.proofs.Math.Bool.{and-not_self}
use Rattle.lists.specs.Table.{each, tabulate}
use Rattle.lists.proofs.Tables.{each_then, get_or_each, get_d_tabulate, tabulate_ext}
use Rattle.counters.specs.declared.counter.Counter.{Counter}
use Rattle.counters.specs.Counter.{autoreset_on, counted, counter0, counter_step, counter_tick, down_of, gate_of, reset_on, tick_counters, up_of, with_count}
use Rattle.counters.specs.Leap.{Ranged, count_after, counter_after, counter_leap, leap_counters}

-- ---- a count

word_wrapped : (z : ℤ) → word_of 32 (wrapped 32 z) ≡ word_of 32 z
word_wrapped z = word_signed 32 (word_of 32 z) (word_lt 32 z)

-- modulo 2^32: what one tick adds and what the others add
added : (w u d ups downs : ℕ) → ((w + u + 4294967295 * d) % 4294967296 + ups + 4294967295 * downs) % 4294967296 ≡ (w + (u + ups) + 4294967295 * (d + downs)) % 4294967296
added w u d ups downs = omega arith

counted_word : (z : ℤ) (up down : Bool) → word_of 32 (counted z up down) ≡ (word_of 32 z + bit_of up + 4294967295 * bit_of down) % 4294967296
counted_word z true true = omega (arith, word_lt 32 z)
counted_word z true false = word_wrapped (z +ℤ pos 1) ∙ word_add 32 z (pos 1) ∙ omega arith
counted_word z false true = word_wrapped (z -ℤ pos 1) ∙ word_add 32 z (negsuc 0) ∙ omega arith
counted_word z false false = omega (arith, word_lt 32 z)

count_more : (z : ℤ) (up down : Bool) (ups downs : ℕ) → count_after (counted z up down) ups downs ≡ count_after z (bit_of up + ups) (bit_of down + downs)
unfolding count_after
count_more z up down ups downs =
    ap (signed 32)
    (ap (λ (n : ℕ). (n + ups + 4294967295 * downs) % 4294967296) (counted_word z up down) ∙ added (word_of 32 z) (bit_of up) (bit_of down) ups downs)

count_none : (z : ℤ) → mag z < 2 ^ 31 → count_after z 0 0 ≡ z
unfolding count_after
count_none z h =
    let e : (word_of 32 z + 0 + 4294967295 * 0) % 4294967296 ≡ word_of 32 z = omega (arith, word_lt 32 z) in
    ap (signed 32) e ∙ wrapped_same 32 z h

-- the same as the code has it, in the bits of the number
number_of : (z : ℤ) → SFits w32 z → of_z w32 z ≡ word_of 32 z
number_of (pos n) f = omega (arith, f.sfits)
number_of (negsuc n) f = omega (arith, f.sfits)

signed_of : (n : ℕ) → n < 2 ^ 32 → to_z w32 n ≡ signed 32 n
signed_of n h =
    cases (ltb n 2147483648)
    (λ e. rw e)
    (λ e. let s : 2 ^ 32 - suc n ≡ 2 ^ 32 - (n + 1) = omega arith in rw e (ap negsuc s))

pub count_code : (z : ℤ) (ups downs : ℕ) → SFits w32 z → downs < 2 ^ 32 →
    to_z w32 (((of_z w32 z + ups) % 2 ^ 32 + (2 ^ 32 - downs)) % 2 ^ 32) ≡ count_after z ups downs
unfolding count_after
count_code z ups downs f h =
    let e : ((word_of 32 z + ups) % 2 ^ 32 + (2 ^ 32 - downs)) % 2 ^ 32 ≡ (word_of 32 z + ups + 4294967295 * downs) % 4294967296 = omega arith in
    signed_of _ (mod-lt _ (lit< tt)) ∙ ap (signed 32) (rw (number_of z f) e)

-- ---- a counter whose gate's output is as it was at the last tick

leap_more : (c : Counter) (hold opened up down : Bool) (ups downs : ℕ) →
    counter_leap (counter_step c hold false opened up down) hold opened ups downs ≡ counter_leap c hold opened (bit_of up + ups) (bit_of down + downs)
unfolding counter_leap counter_step
leap_more c true opened up down ups downs = refl
leap_more c false true up down ups downs = ap (with_count c) (count_more c.count up down ups downs)
leap_more c false false up down ups downs = refl

counted_in : (z : ℤ) (up down : Bool) → mag z < 2 ^ 31 → mag (counted z up down) < 2 ^ 31
counted_in z true true h = h
counted_in z true false h = wrapped_lt 32 (z +ℤ pos 1)
counted_in z false true h = wrapped_lt 32 (z -ℤ pos 1)
counted_in z false false h = h

leap_none : (c : Counter) (hold opened up down : Bool) → mag c.count < 2 ^ 31 →
    counter_leap (counter_step c hold false opened up down) hold opened 0 0 ≡ counter_step c hold false opened up down
unfolding counter_leap counter_step
leap_none c true opened up down h = refl
leap_none c false true up down h = ap (with_count c) (count_none _ (counted_in c.count up down h))
leap_none c false false up down h = refl

step_input : (c : Counter) (hold opened up down : Bool) → (counter_step c hold false opened up down).input ≡ c.input
unfolding counter_step
step_input c true opened up down = refl
step_input c false true up down = refl
step_input c false false up down = refl

step_count : (c : Counter) (hold opened up down : Bool) → mag c.count < 2 ^ 31 → mag (counter_step c hold false opened up down).count < 2 ^ 31
unfolding counter_step
step_count c true opened up down h = lit< tt
step_count c false true up down h = counted_in c.count up down h
step_count c false false up down h = h

no_clear : (a b : Bool) → a && b && not b ≡ false
no_clear true b = and-not_self b
no_clear false b = refl

module _ (control w is : ℕ) (c : Counter) where
  tick_step : counter_tick control w is is c ≡
      counter_step c (reset_on control) false (bit is (gate_of c.input)) (bit w (up_of c.input)) (bit w (down_of c.input))
  unfolding counter_tick
  tick_step = rw (no_clear (autoreset_on control) (bit is (gate_of c.input)))

  tick_input : (counter_tick control w is is c).input ≡ c.input
  tick_input = rw tick_step (step_input c _ _ _ _)

  tick_count : mag c.count < 2 ^ 31 → mag (counter_tick control w is is c).count < 2 ^ 31
  tick_count h = rw tick_step (step_count c _ _ _ _ h)

  -- a leap of the stepped counter, by the flags of the counter before
  after_step : (rises : ℕ → ℕ) → counter_after control rises is (counter_tick control w is is c) ≡
      counter_leap (counter_tick control w is is c) (reset_on control) (bit is (gate_of c.input)) (rises (up_of c.input)) (rises (down_of c.input))
  unfolding counter_after
  after_step rises =
      ap (λ (i : ℕ). counter_leap (counter_tick control w is is c) (reset_on control) (bit is (gate_of i)) (rises (up_of i)) (rises (down_of i))) tick_input

  counter_more : (rises : ℕ → ℕ) → counter_after control rises is (counter_tick control w is is c) ≡ counter_after control (λ u. bit_of (bit w u) + rises u) is c
  unfolding counter_after
  counter_more rises =
      after_step rises
      ∙ ap (λ (x : Counter). counter_leap x (reset_on control) (bit is (gate_of c.input)) (rises (up_of c.input)) (rises (down_of c.input))) tick_step
      ∙ leap_more c (reset_on control) (bit is (gate_of c.input)) (bit w (up_of c.input)) (bit w (down_of c.input)) (rises (up_of c.input)) (rises (down_of c.input))

  counter_none : mag c.count < 2 ^ 31 → counter_after control (λ u. 0) is (counter_tick control w is is c) ≡ counter_tick control w is is c
  counter_none h =
      after_step (λ u. 0)
      ∙ ap (λ (x : Counter). counter_leap x (reset_on control) (bit is (gate_of c.input)) 0 0) tick_step
      ∙ leap_none c (reset_on control) (bit is (gate_of c.input)) (bit w (up_of c.input)) (bit w (down_of c.input)) h
      ∙ sym tick_step

-- only the rises of UP and DOWN matter, and these are values of six bits
counter_rises : (control is : ℕ) (f g : ℕ → ℕ) → ((u : ℕ) → u < 64 → f u ≡ g u) → (c : Counter) → counter_after control f is c ≡ counter_after control g is c
unfolding counter_after
counter_rises control is f g e c =
    rw (e (up_of c.input) (mod-lt _ (lit< tt)), e (down_of c.input) (mod-lt _ (lit< tt)))

-- the rises as the code has them, in a table
pub table_rises : (control is : ℕ) (f : ℕ → ℕ) (xs : List Counter) → leap_counters control (λ u. get_or (tabulate 64 f) u 0) is xs ≡ leap_counters control f is xs
unfolding leap_counters each
table_rises control is f xs =
    tabulate_ext 128 _ _ (λ n h. counter_rises control is _ f (λ u l. get_d_tabulate 64 f u 0 l) (get_or xs n counter0))

-- ---- all counters

module _ (control w is : ℕ) (xs : List Counter) where
  -- what a tick's rises and those of the other ticks add up to, for each selection value
  pub counters_more : (f g : ℕ → ℕ) → ((u : ℕ) → u < 64 → bit_of (bit w u) + f u ≡ g u) →
      leap_counters control f is (tick_counters control w is is xs) ≡ leap_counters control g is xs
  unfolding leap_counters tick_counters
  counters_more f g e =
      each_then 128 counter0 _ _ _ xs
      (λ i h.
      let c = get_or xs i counter0 in counter_more control w is c f ∙ counter_rises control is _ g e c)

  pub counters_none : (f : ℕ → ℕ) → ((u : ℕ) → u < 64 → f u ≡ 0) → Ranged xs 128 →
      leap_counters control f is (tick_counters control w is is xs) ≡ tick_counters control w is is xs
  unfolding leap_counters tick_counters
  counters_none f e range =
      each_then 128 counter0 _ _ _ xs
      (λ i h.
      let c = get_or xs i counter0 in counter_rises control is f (λ u. 0) e _ ∙ counter_none control w is c (range.counts i h))

  pub counters_ranged : Ranged xs 128 → Ranged (tick_counters control w is is xs) 128
  unfolding tick_counters
  counters_ranged range = record {
    counts = λ n h. rw (get_or_each 128 counter0 _ xs n h) (tick_count control w is (get_or xs n counter0) (range.counts n h));
  }
