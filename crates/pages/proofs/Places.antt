-- Numbers digit by digit: the digits of a number are those of its front and the last one.
use Prim.Native.Nat.{ℕ, zero, suc, ◌-◌, ◌/◌, ◌%◌, ◌^◌, ◌<◌, ◌≤◌}
use native.Mathlib.Omega.{arith}
use mathlib.Core.Bool.{false}
use mathlib.Core.List.{List, [], ◌∷◌, ◌++◌, append_assoc, append-nil}
use mathlib.Core.Path.{◌≡◌, refl, sym, ◌∙◌}
use borrow.Author.Tests.{ltb-true, ltb-false, eq-eqb, ne_eqb}
use lib.Dec.{ltb}
use lib.ListN.{length}
use Rattle.std.specs.Char.{digit_char}
use Rattle.std.specs.Fmt.{digits, digits_onto, digit_glyph, decimal as std_decimal}
use Rattle.bools.proofs.Tests.{cases, pick_same}
use Rattle.pages.specs.declared.page.Page.{Page}
use Rattle.pages.specs.Page.{written, cut}
use Rattle.pages.specs.Text.{digit, decimal_in, decimal, hexadecimal}
use Rattle.pages.proofs.Pages.{cut_two, same_page}

-- std writes the same digit
same_digit : (d : ℕ) → digit_glyph false d ≡ digit d
same_digit d = cases (ltb d 10) (λ e. rw e) (λ e. rw e)

same_char : (d : ℕ) → digit_char d ≡ digit d
same_char d = cases (ltb d 10) (λ e. rw e) (λ e. rw e)

-- std's digits, which stand before `rest`
onto : (k places n : ℕ) (rest : List ℕ) → places ≤ k → n < 10 ^ suc places →
    digits_onto (suc k) 10 false n rest ≡ decimal_in (suc places) n ++ rest
unfolding decimal_in
onto k zero n rest h small =
    let e : n / 10 ≡ 0 = omega arith in
    rw (eq-eqb (n / 10) 0 e, same_digit (n % 10), pick_same {A = List ℕ} (ltb n 10) [])
onto zero (suc places) n rest h small = absurd (omega arith)
onto (suc k) (suc places) n rest h small =
    cases (ltb n 10)
    (λ t.
    let e : n / 10 ≡ 0 = omega (arith, ltb-true n 10 t) in rw (t, eq-eqb (n / 10) 0 e, same_digit (n % 10)))
    (λ t.
    let e : n / 10 ≡ 0 → ⊥ = λ z. omega (arith, ltb-false n 10 t) in
    rw (t, ne_eqb (n / 10) 0 e, same_digit (n % 10))
    (onto k places (n / 10) (digit (n % 10) ∷ rest) (omega arith) (omega arith) ∙ sym (append_assoc (decimal_in (suc places) (n / 10)) (digit (n % 10) ∷ []) rest)))

-- what std prints in decimal
pub decimal_text : (n : ℕ) → n < 2 ^ 64 → std_decimal n ≡ decimal n
unfolding digits decimal
decimal_text n h = onto 63 19 n [] (omega arith) (omega arith) ∙ append-nil _

hexadecimal_more : (places n : ℕ) → (places ≡ 0 → ⊥) →
    hexadecimal places n ≡ hexadecimal (places - 1) (n / 16) ++ (digit (n % 16) ∷ [])
unfolding hexadecimal
hexadecimal_more zero n some = absurd (some refl)
hexadecimal_more (suc k) n some =
    let e : suc k - 1 ≡ k = omega arith in rw e

module _ (places n : ℕ) where
  -- no digits, which leave a page as it is
  pub no_digits : (p : Page) → length p.bytes ≡ 256 → places ≡ 0 → cut (written p ++ hexadecimal places n) ≡ written p
  unfolding hexadecimal
  no_digits p e none = rw none (sym (same_page p e))

  -- one more, behind those of the front
  pub one_more_digit : (w : List ℕ) → (places ≡ 0 → ⊥) →
      cut (cut (w ++ hexadecimal (places - 1) (n / 16)) ++ (digit_char (n % 16) ∷ [])) ≡ cut (w ++ hexadecimal places n)
  one_more_digit w some = rw (cut_two, same_char (n % 16), hexadecimal_more places n some)
