-- Document 02, CR 2: what holds of a capture and the trace that is made of it.
use Prim.Native.Nat.{ℕ, ◌%◌, ◌^◌, ◌≤◌, ◌<◌}
use native.Mathlib.Omega.{arith}
use mathlib.Core.Bool.{false}
use mathlib.Core.List.{List}
use mathlib.Core.Option.{some}
use mathlib.Core.Path.{◌≡◌, refl, ap, subst, ◌∙◌}
use lib.ListN.{length, get_or, take}
use Rattle.std.proofs.Common.{Ok}
use Rattle.records.specs.Records.{repeat_bytes}
use Rattle.captures.specs.Captures.{frame_bytes, frames_of, has_bad, records_of, same_frame, trace_of}
use Rattle.captures.specs.ReadBack.{repeats_from, repeats_in}
use Rattle.captures.specs.Repeats.{Fit, NoLongerFirst, Repeat, expand, joined}
use Rattle.captures.specs.Returned.{Made}
use Rattle.captures.specs.Written.{Frame, captured, largest_repeat, written}
use Rattle.captures.proofs.convert.Reads as convert_reads
use Rattle.captures.proofs.Done.{made_done}
use Rattle.captures.proofs.Fewest.{expand_joined, fewest, longest_first}
use Rattle.captures.proofs.Lossless.{captured_frames}
use Rattle.captures.proofs.Levels.{good_joined}
use Rattle.captures.proofs.ReadBack.{read_fits, written_read}
use Rattle.captures.proofs.Joins.{frames_told}

-- ---- of frames, for every largest repeat

module _ (limit : ℕ) (xs : List Frame) where
  abbrev repeats : List (Repeat Frame)
  repeats = joined same_frame limit xs

  -- "among all tick-record traces of those frames none has fewer records"
  pub joined_fewest : (rs : List (Repeat Frame)) → Fit limit rs → expand rs ≡ xs → length repeats ≤ length rs
  joined_fewest rs f e = fewest same_frame frames_told limit xs rs f e

  -- "the longest repeats": where another list of repeats for these frames first differs, it has the shorter one; so of several shortest
  -- lists this is the one with the longest repeats first
  pub joined_longest : (rs : List (Repeat Frame)) → Fit limit rs → expand rs ≡ xs → NoLongerFirst rs repeats
  joined_longest rs f e =
      subst (λ (ys : List Frame). NoLongerFirst rs (joined same_frame limit ys)) e (longest_first same_frame frames_told limit rs f)

  -- "Reading the result back gives the frames": for a largest repeat of at least 1 that fits its two bytes, as the reader takes two, and for levels of
  -- lines that exist, the reader that runs use finds these repeats up to the end, and they are the frames in order
  pub joined_back : 1 ≤ limit → limit < 256 ^ repeat_bytes → has_bad xs ≡ false → (repeats_in (written repeats) ≡ some repeats) × (expand repeats ≡ xs)
  joined_back least fits good = (written_read repeats (good_joined limit fits least xs good), expand_joined same_frame frames_told limit xs)

-- ---- of a capture

module _ (capture : List ℕ) where
  -- the trace of a capture without a bad level is read back as its frames
  pub converted_back : has_bad (frames_of capture) ≡ false →
      (repeats_in (trace_of capture) ≡ some (records_of capture)) × (expand (records_of capture) ≡ frames_of capture)
  unfolding trace_of records_of
  converted_back good = joined_back largest_repeat (frames_of capture) (omega arith) (omega arith) good

  -- of every string of bytes that is read as tick records of these frames, however far the reader goes
  pub fewest_trace : (t : List ℕ) → ((i : ℕ) → get_or t i 0 < 256) → (fuel : ℕ) (rs : List (Repeat Frame)) → repeats_from fuel t 0 ≡ some rs →
      expand rs ≡ frames_of capture → length (records_of capture) ≤ length rs
  unfolding records_of
  fewest_trace t bytes fuel rs read e = joined_fewest largest_repeat (frames_of capture) rs (read_fits t bytes fuel 0 rs read) e

  -- the frames of a capture of whole frames are the capture
  pub frames_whole : ((i : ℕ) → get_or capture i 0 < 256) → length capture % frame_bytes ≡ 0 → captured (frames_of capture) ≡ capture
  frames_whole bytes whole = captured_frames capture bytes whole

-- ---- of the code

-- what a caller learns from `convert` is the statement of specs/Returned.antt: a holds the arguments, s what the lent ones are at the end
pub convert_contract : convert_reads.Learnt ≡ (λ κs a r s. Made a.0.now a.1.0.now r s.1.0.now)
convert_contract = refl

module _ (capture out left : List ℕ) (bytes : ℕ) (made : Made capture out (Ok bytes) left) where
  -- what it wrote, up to the length that it told, is read back as the frames
  pub convert_back : (repeats_in (take bytes left) ≡ some (records_of capture)) × (expand (records_of capture) ≡ frames_of capture)
  convert_back =
      let d = made_done capture bytes left out made in
      let b = converted_back capture d.good in
      (ap repeats_in d.trace ∙ b.0, b.1)
