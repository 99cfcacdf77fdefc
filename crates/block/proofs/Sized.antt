-- A chip of its sizes stays so where one part is changed. Assumes nothing.
use Rattle.std.proofs.Common.{◌≡◌, ℕ, ◌^◌, ◌<◌, Bool, List, length, set, length-set}
use Rattle.lists.specs.Update.{update}
use Rattle.lists.proofs.Updates.{update_all}
use Rattle.chip.specs.declared.Scan.{Scan}
use Rattle.chip.specs.declared.Chip.{Chip}
use Rattle.chip.specs.Video.{video_bytes}
use Rattle.chip.specs.Changes.{with_parts, with_scan}
use Rattle.block.specs.Block.{pixel_bytes}
use Rattle.block.specs.Kept.{Listed, Sized}

pub listed_set : {n m : ℕ} {l : List ℕ} → Listed n m l → (p y : ℕ) → y < m → Listed n m (set l p y)
unfolding update
listed_set {n} {m} {l} k p y h = record {
  long = simp length-set k.long;
  fit = update_all (λ v. v < m) 1 (λ i. p) (λ i was. y) l (λ i was hi hw. h) k.fit;
}

-- a sized chip with other arrays, flags and counter is sized where these are
pub resized : {chip : Chip} → Sized chip → {banks registers tags : List ℕ} {picking hit : Bool} {counter : ℕ}
    → Listed 4 (2 ^ 16) banks → Listed 7 (2 ^ 32) registers → counter < 2 ^ 32 → Listed 8 (2 ^ 32) tags
    → Sized (record { control = with_parts chip.control banks registers picking hit counter tags; pixels = chip.pixels; video = chip.video })
resized z b r k t = record {
  pages_fit = z.pages_fit;
  banks = b;
  registers = r;
  counter_fits = k;
  tags = t;
  scan_fits = z.scan_fits;
  pixels_long = z.pixels_long;
  video_long = z.video_long;
}

-- with other counter and select
pub rescanned : {chip : Chip} → Sized chip → {v : Scan} → (v.counter < 2 ^ 16) × (v.select < 2 ^ 16)
    → Sized (record { control = with_scan chip.control v; pixels = chip.pixels; video = chip.video })
rescanned z fits = record {
  pages_fit = z.pages_fit;
  banks = z.banks;
  registers = z.registers;
  counter_fits = z.counter_fits;
  tags = z.tags;
  scan_fits = fits;
  pixels_long = z.pixels_long;
  video_long = z.video_long;
}

-- with other bytes
pub rebuffered : {chip : Chip} → Sized chip → {pixels video : List ℕ} → length pixels ≡ pixel_bytes → length video ≡ video_bytes
    → Sized (record { control = chip.control; pixels = pixels; video = video })
rebuffered z p v = record {
  pages_fit = z.pages_fit;
  banks = z.banks;
  registers = z.registers;
  counter_fits = z.counter_fits;
  tags = z.tags;
  scan_fits = z.scan_fits;
  pixels_long = p;
  video_long = v;
}
