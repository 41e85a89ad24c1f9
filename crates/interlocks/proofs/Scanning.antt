-- Laws of the scan: the first word that finds a signal, kept while the words go up, ends the least prefix that makes the output 0.
use Prim.Native.Nat.{ℕ, zero, suc, ◌+◌, ◌<◌}
use native.Mathlib.Nat.{lt_irrefl}
use native.Mathlib.Numerals.{add-one}
use native.Mathlib.Omega.{arith}
use mathlib.Core.Bool.{Bool, true, false, false≢true}
use mathlib.Core.List.{List}
use mathlib.Core.Path.{◌≡◌, refl, sym, ap, ◌∙◌}
use lib.ListN.{get_or}
use Rattle.std.proofs.Common.{Option, None, Some}
use Rattle.std.specs.Option.{is_none, unwrap_or}
use Rattle.bools.specs.Pick.{pick}
use Rattle.bools.proofs.Tests.{cases}
use Rattle.words.proofs.Packing.{bit_zero}
use Rattle.lists.specs.Table.{any, least, tabulate}
use Rattle.lists.proofs.Tables.{any_each, any_fewer, any_found, any_none, get_d_tabulate, least_is, tabulate_ext}
use Rattle.device.specs.declared.state.Crate.{Crate}
use Rattle.device.specs.Map.{output_count, output_words}
use Rattle.interlocks.specs.Interlock.{interlock, meets, selected, signals, trips, trips_by}
use Rattle.interlocks.specs.Scan.{words_read}
use Rattle.interlocks.specs.Together.{ended_at, ended_next, word_next, words_next}

-- what is kept of the first n tests, and whether the next one holds
abbrev kept : Option ℕ → Bool → ℕ → Option ℕ
kept None here n = pick here (Some (suc n)) None
kept (Some w) here n = Some w

-- the first of n tests that holds, counted from 1
unfoldable pub first : (ℕ → Bool) → ℕ → Option ℕ
first f zero = None
first f (suc n) = kept (first f n) (f n) n

first_none : (n : ℕ) (f : ℕ → Bool) → any n f ≡ false → first f n ≡ None
unfolding first
first_none zero f e = refl
first_none (suc n) f e =
    rw (first_none n f (any_fewer (suc n) n f (omega arith) e), any_each (suc n) f n e (omega arith))

-- it holds there, and none before it
abbrev Place : (ℕ → Bool) → ℕ → Type 0
Place f n = (j : ℕ) × (first f n ≡ Some (suc j)) × (j < n) × (f j ≡ true) × (any j f ≡ false)

first_place : (n : ℕ) (f : ℕ → Bool) → any n f ≡ true → Place f n
unfolding first any
first_place zero f e = absurd (false≢true e)
first_place (suc n) f e =
    cases (any n f)
    (λ a. let p = first_place n f a in (p.0, rw p.1, omega (arith, p.2), p.3, p.4))
    (λ a. (n, rw (first_none n f a, rw a at e), omega arith, rw a at e, a))

pub first_is : (n : ℕ) (f : ℕ → Bool) → first f n ≡ pick (any n f) (Some (least n (λ w. any w f))) None
first_is n f =
    cases (any n f)
    (λ e.
    let p = first_place n f e in
    p.1
    ∙ rw e
    (ap Some
    (sym (least_is n (λ w. any w f) (suc p.0) (omega (arith, p.2)) (λ i h. any_fewer p.0 i f (omega arith) p.4)
    (λ h. any_found (suc p.0) f p.0 (omega arith) p.3)))))
    (λ e. first_none n f e ∙ rw e)

-- selection word k of output o finds a signal
abbrev finds : List (List ℕ) → (ℕ → ℕ) → ℕ → ℕ → Bool
finds selections present o k = meets (selected selections o k) (present k)

-- what is kept of the outputs after k words of each
abbrev pub ended_after : List (List ℕ) → (ℕ → ℕ) → ℕ → List (Option ℕ)
ended_after selections present k = tabulate output_count (λ o. first (finds selections present o) k)

meets_none : (present : ℕ) → meets 0 present ≡ false
meets_none present = any_none 16 _ (λ b h. rw (bit_zero b))

-- one word more, where the code reads 0 once the scan has ended
kept_next : (e : Option ℕ) (word present k : ℕ) → pick (meets (word_next e word) present) (Some (suc k)) e ≡ kept e (meets word present) k
kept_next None word present k = refl
kept_next (Some w) word present k = rw (meets_none present)

module _ (selections : List (List ℕ)) (present : ℕ → ℕ) where
  pub ended_none : tabulate output_count (λ o. None) ≡ ended_after selections present 0
  unfolding first
  ended_none = refl

  -- what is kept of output o, and the word of it that is read next
  told : (k o : ℕ) → o < output_count → get_or (ended_after selections present k) o None ≡ first (finds selections present o) k
  told k o h = get_d_tabulate output_count (λ n. first (finds selections present n) k) o None h

  told_word : (k o : ℕ) → o < output_count → get_or (words_next (ended_after selections present k) selections k) o 0 ≡ word_next (first (finds selections present o) k) (selected selections o k)
  unfolding words_next
  told_word k o h = get_d_tabulate output_count _ o 0 h ∙ ap (λ (e : Option ℕ). word_next e (selected selections o k)) (told k o h)

  -- word k of each is read
  pub ended_more : (k : ℕ) → ended_next (ended_after selections present k) (words_next (ended_after selections present k) selections k) (present k) (k + 1) ≡ ended_after selections present (k + 1)
  unfolding ended_next first
  ended_more k =
      rw add-one
      (tabulate_ext output_count _ _ (λ o h.
      rw (told_word k o h, told k o h) (kept_next (first (finds selections present o) k) (selected selections o k) (present k) k)))

  -- no output that is still 1 selects something in word k
  pub ended_unwanted : (k : ℕ) → words_next (ended_after selections present k) selections k ≡ tabulate output_count (λ o. 0) →
      ended_after selections present k ≡ ended_after selections present (k + 1)
  unfolding first
  ended_unwanted k e =
      rw add-one
      (tabulate_ext output_count _ _ (λ o h.
      let f = first (finds selections present o) k in
      let none : word_next f (selected selections o k) ≡ 0 = sym (told_word k o h) ∙ ap (λ (w : List ℕ). get_or w o 0) e ∙ get_d_tabulate output_count (λ n. 0) o 0 h in
      rw (none, meets_none (present k)) at (kept_next f (selected selections o k) (present k) k)))

-- after all words of a crate
pub ended_all : (s : Crate) → ended_after s.settings.selections (signals s) output_words ≡ tabulate output_count (ended_at s)
unfolding trips trips_by words_read
ended_all s = tabulate_ext output_count _ _ (λ o h. first_is output_words (finds s.settings.selections (signals s) o))

-- ---- the level and the words read, from what is kept at the end

-- all words are read where the level is 1
pub words_all : (s : Crate) (o : ℕ) → trips s o output_words ≡ false → words_read s o ≡ output_words
unfolding words_read trips trips_by
words_all s o e =
    least_is output_words (trips s o) output_words (omega arith) (λ i h. any_fewer output_words i (finds s.settings.selections (signals s) o) (omega arith) e) (λ h. absurd (lt_irrefl output_words h))

pub ended_level : (s : Crate) (o : ℕ) → is_none (ended_at s o) ≡ interlock s o
ended_level s o =
    cases (trips s o output_words)
    (λ e. rw e)
    (λ e. rw e)

pub ended_words : (s : Crate) (o : ℕ) → unwrap_or (ended_at s o) output_words ≡ words_read s o
ended_words s o =
    cases (trips s o output_words)
    (λ e. rw e)
    (λ e. rw e (sym (words_all s o e)))
