-- Which blocks grow, how long they are then, and the stores by which code grows one. Assumes nothing.
use mathlib.Core.Path.{◌≡◌, refl, sym, ap, ◌∙◌}
use mathlib.Core.Logic.{◌≢◌}
use mathlib.Core.Bool.{◌||◌, or-false}
use mathlib.Core.List.{List, ◌++◌}
use Prim.Native.Nat.{ℕ, ◌^◌, ◌<◌, ◌≤◌}
use native.Mathlib.Decide.{ℕ_discrete}
use native.Mathlib.Nat.{zero-add}
use native.Mathlib.Omega.{arith}
use lib.Dec.{eqb}
use lib.ListN.{length, get_or, drop, replicate, length-append}
use lib.Seq.{sets, sets-eq}
use borrow.Author.Tests.{ne_eqb}
use Rattle.bits.specs.Bits.{byte}
use Rattle.lists.specs.Words.{Bytes, half_at, put_half, bytes_from, as_bytes}
use Rattle.lists.proofs.RowStores.{sets_whole}
use Rattle.chip.specs.Video.{fresh_video, fresh_scan}
use Rattle.block.specs.Block.{block_bytes}
use Rattle.hosts.specs.Grown.{base_bytes, fresh_display, growths, length_at, longer, grown_by, grown_through, grown}
use Rattle.hosts.proofs.Longer.{put_again, length_longer, zero_bytes, longer_bytes}

-- ---- what is filled in for the display

pub fresh_zeros : fresh_display ≡ replicate 164 0
unfolding fresh_video fresh_scan as_bytes bytes_from byte
fresh_zeros = refl

pub fresh_long : length fresh_display ≡ 164
fresh_long = ap length fresh_zeros

-- ---- which lengths grow

pub grown_base : (s : List ℕ) → length s ≡ base_bytes → grown s ≡ longer fresh_display s
unfolding grown growths grown_through grown_by
grown_base s e = rw e

pub grown_other : (s : List ℕ) → length s ≢ base_bytes → grown s ≡ s
unfolding grown growths grown_through grown_by
grown_other s f = rw (ne_eqb (length s) base_bytes f)

-- a block of bytes stays one
pub grown_bytes : (s : List ℕ) → Bytes s → Bytes (grown s)
grown_bytes s bytes a = go (ℕ_discrete (length s) base_bytes)
  where
    go : Dec (length s ≡ base_bytes) → get_or (grown s) a 0 < 2 ^ 8
    go (yes e) = rw (grown_base s e, fresh_zeros) (longer_bytes (replicate 164 0) s bytes (zero_bytes 164) a)
    go (no f) = rw (grown_other s f) (bytes a)

-- those of two lengths have the newest length, grown
pub grown_long : (s : List ℕ) → eqb (length (grown s)) block_bytes ≡ (eqb (length s) block_bytes || eqb (length s) base_bytes)
grown_long s = go (ℕ_discrete (length s) base_bytes)
  where
    go : Dec (length s ≡ base_bytes) → eqb (length (grown s)) block_bytes ≡ (eqb (length s) block_bytes || eqb (length s) base_bytes)
    go (yes e) = rw (grown_base s e, length_longer fresh_display s, e, fresh_long)
    go (no f) = rw (grown_other s f, ne_eqb (length s) base_bytes f) (sym (or-false (eqb (length s) block_bytes)))

-- ---- the stores of code

module _ (s : List ℕ) (long : length (grown s) ≡ block_bytes) where
  newest : length s ≢ base_bytes → length s ≡ block_bytes
  newest f = sym (ap length (grown_other s f)) ∙ long

  pub grown_fits : (base_bytes ≤ length s) × (length s ≤ block_bytes)
  grown_fits = go (ℕ_discrete (length s) base_bytes)
    where
      go : Dec (length s ≡ base_bytes) → (base_bytes ≤ length s) × (length s ≤ block_bytes)
      go (yes e) = (omega arith, omega arith)
      go (no f) = (omega (arith, newest f), omega (arith, newest f))

  -- the block over a list that ends as it is filled, and the newest length in its header
  pub grown_stored : (l : List ℕ) → length l ≡ block_bytes → drop base_bytes l ≡ fresh_display → Bytes s → half_at s length_at ≡ length s
      → put_half length_at block_bytes (sets l 0 s) ≡ grown s
  unfolding longer
  grown_stored l room end bytes said = go (ℕ_discrete (length s) base_bytes)
    where
      go : Dec (length s ≡ base_bytes) → put_half length_at block_bytes (sets l 0 s) ≡ grown s
      go (yes e) =
          let over : sets l 0 s ≡ s ++ fresh_display = sets-eq s l 0 (omega arith) ∙ rw (zero-add, e, end) in
          let whole : length (s ++ fresh_display) ≡ block_bytes = length-append s fresh_display ∙ rw (e, fresh_long) in
          rw (over, ← whole) (sym (grown_base s e))
      go (no f) =
          let e = newest f in
          rw (sets_whole s l (e ∙ sym room), put_again length_at block_bytes s bytes (said ∙ e)) (sym (grown_other s f))
