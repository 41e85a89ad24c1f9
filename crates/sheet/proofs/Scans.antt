-- Document 02, CR 3: what a scan gives, of every crate and memory.
use Prim.Native.Nat.{ℕ, ◌<◌}
use native.Mathlib.Nat.{not-suc-le-zero}
use native.Mathlib.Omega.{arith}
use mathlib.Core.Bool.{true, false}
use mathlib.Core.Path.{◌≡◌, refl}
use borrow.Author.Tests.{not-false}
use Rattle.bools.proofs.Tests.{cases}
use Rattle.words.specs.Word.{bit}
use Rattle.words.proofs.Packing.{bit_pack, bit_zero}
use Rattle.lists.proofs.Tables.{get_d_tabulate, least_at, least_below, least_within}
use Rattle.loader.specs.Memory.{is_whole}
use Rattle.device.specs.Map.{decode_of, output_count, output_words, status_map}
use Rattle.device.specs.State.{Machine}
use Rattle.interlocks.specs.Interlock.{interlocks, trips}
use Rattle.interlocks.specs.Scan.{output_scan, scan_of, words_read}
use Rattle.interlocks.proofs.Scanning.{words_all}
use Rattle.reading.specs.Read.{read_of, readout_word, word_in, word_shown}
use Rattle.sheet.specs.Scans.{no_scan, scan_at}

module _ (m : Machine) (o : ℕ) (h : o < output_count) where
  made : is_whole m.memory ≡ true → scan_at (scan_of m) o ≡ output_scan m.state o
  unfolding scan_of
  made e = rw e (get_d_tabulate output_count (output_scan m.state) o no_scan h)

  refused : is_whole m.memory ≡ false → scan_at (scan_of m) o ≡ no_scan
  unfolding scan_of
  refused e = rw e refl

  pub scan_level : (scan_at (scan_of m) o).level ≡ bit (word_shown (read_of m 0x0719)) o
  unfolding read_of word_in readout_word interlocks decode_of status_map
  scan_level = grind (arith, made, bit_pack, refused, bit_zero)

  pub scan_least : (w : ℕ) → w < (scan_at (scan_of m) o).words → trips m.state o w ≡ false
  unfolding words_read
  scan_least w l =
      cases (is_whole m.memory)
      (λ e. least_below output_words (trips m.state o) w (rw (made e) at l))
      (λ e. absurd (not-suc-le-zero (rw (refused e) at l)))

  ends : trips m.state o output_words ≡ true → trips m.state o (words_read m.state o) ≡ true
  unfolding words_read
  ends t = grind (arith, least_at, least_within)

  pub scan_ends : is_whole m.memory ≡ true → (scan_at (scan_of m) o).level ≡ false → trips m.state o (scan_at (scan_of m) o).words ≡ true
  scan_ends e low = rw (made e) (ends (not-false (trips m.state o output_words) (rw (made e) at low)))

  pub scan_whole : (scan_at (scan_of m) o).level ≡ true → (scan_at (scan_of m) o).words ≡ output_words
  scan_whole high = grind (arith, made, words_all, refused)
