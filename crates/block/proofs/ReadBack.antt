-- The round trips of the stored state, and what a refusal leaves of a block, by the laws of its parts. Assumes nothing.
use Rattle.std.proofs.Common.{◌≡◌, Bool, true, false, ◌≢◌, length, refl, ap, ◌∙◌}
use Rattle.chip.specs.State.{slots}
use Rattle.chip.specs.Refusals.{number}
use Rattle.chip.specs.Calls.{call_given, chip_of, memory_of}
use Rattle.chip.specs.Promises.{NumbersGiven, RefusalChangesNothing}
use Rattle.chip.proofs.NumbersGiven.{numbers_given, refusal_changes_nothing}
use Rattle.block.specs.Block.{encode, decode, well_formed_block}
use Rattle.block.specs.OnBlock.{block_given, block_after, block_memory}
use Rattle.block.specs.Kept.{ChipReadBack, BlockReadBack, RefusalChangesNoByte}
use Rattle.block.proofs.RoundTrip.{decode_encode, encoded_well, encode_decode}

pub chip_read_back : ChipReadBack
unfolding ChipReadBack
chip_read_back chip z = (encoded_well chip z, decode_encode chip z)

pub block_read_back : BlockReadBack
unfolding BlockReadBack
block_read_back s bytes well = encode_decode s bytes well

pub refusal_changes_no_byte : RefusalChangesNoByte
unfolding RefusalChangesNoByte block_given block_after block_memory call_given chip_of memory_of NumbersGiven RefusalChangesNothing
refusal_changes_no_byte s memory x bytes refused = go (well_formed_block s) refl
  where
    go : (well : Bool) → well_formed_block s ≡ well → (block_after s memory x ≡ s) × (block_memory s memory x ≡ memory)
    go false e = (rw e, rw e)
    go true e =
        let other : number slots (decode s).control (length memory) x ≢ 0 = λ q. refused (rw e (numbers_given slots (decode s) memory x ∙ q)) in
        let left = refusal_changes_nothing slots (decode s) memory x other in
        (rw e (ap encode left.1 ∙ encode_decode s bytes e), rw e left.2)
