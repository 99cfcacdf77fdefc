-- A chip kept as a block and read back is that chip, and a block read and kept again is that block in the newest form: the round trips of the
-- stored state, where neither is refused. Assumes nothing.
use mathlib.Core.Path.{◌≡◌, ap, ◌∙◌}
use mathlib.Core.Bool.{true, ◌&&◌}
use mathlib.Core.List.{List}
use Prim.Native.Nat.{ℕ}
use lib.Dec.{eqb}
use lib.ListN.{length}
use borrow.Author.Tests.{eq-eqb, not-false}
use Rattle.numbers.specs.Numbers.{first}
use Rattle.numbers.proofs.Tests.{none_applies, and_right}
use Rattle.chip.specs.declared.Chip.{Chip}
use Rattle.chip.specs.State.{well_formed}
use Rattle.block.specs.Block.{block_bytes, encode, decode, well_formed_block}
use Rattle.block.specs.Kept.{ChipReadBack, BlockReadBack}
use Rattle.block.proofs.Parts.{length_encode}
use Rattle.block.proofs.RoundTrip.{well_parts}
use Rattle.block.proofs.ReadBack.{chip_read_back, block_read_back}
use Rattle.hosts.specs.Grown.{grown, says_length, readable, NewestIsRead}
use Rattle.hosts.specs.Keeping.{keep_number, kept_block, read_number, read_chip, KeptIsRead, ReadIsKept}
use Rattle.hosts.proofs.Growing.{grown_bytes}
use Rattle.hosts.proofs.OlderRead.{newest_is_read}

-- what was not refused has passed its test
keep_passed : (chip : Chip) (len : ℕ) → keep_number chip len ≡ 0 → (eqb len block_bytes && well_formed chip.control) ≡ true
unfolding keep_number
keep_passed chip len e = not-false _ (none_applies 0 _ _ e).0

read_passed : (s : List ℕ) → read_number s ≡ 0 → well_formed_block (grown s) ≡ true
unfolding read_number readable
read_passed s e = and_right (says_length s) (well_formed_block (grown s)) (not-false _ (none_applies 0 _ _ e).0)

pub kept_is_read : KeptIsRead
unfolding KeptIsRead ChipReadBack NewestIsRead kept_block read_chip read_number first
kept_is_read chip other s z done =
    let back = chip_read_back chip z in
    let newest = newest_is_read (encode chip) (length_encode chip z) in
    let well : well_formed chip.control ≡ true = and_right (eqb (length s) block_bytes) (well_formed chip.control) (keep_passed chip (length s) done) in
    let formed : readable (encode chip) ≡ true = newest.0 ∙ back.0 ∙ well in
    (rw (done, formed), rw (done, formed) (ap decode newest.1 ∙ back.1))

pub read_is_kept : ReadIsKept
unfolding ReadIsKept BlockReadBack kept_block read_chip keep_number first
read_is_kept other s over bytes done long =
    let formed = read_passed s done in
    let well = (well_parts (grown s) formed).3 in
    (rw (done, eq-eqb _ _ long, well), rw (done, eq-eqb _ _ long, well) (block_read_back (grown s) (grown_bytes s bytes) formed))
