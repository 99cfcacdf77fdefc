-- A call on the block of a chip gives back, and leaves chip and memory, as the call on the chip by value does. Assumes nothing.
use mathlib.Core.Path.{◌≡◌, refl, sym, ap, ◌∙◌}
use mathlib.Core.Bool.{Bool, true, false, cond}
use mathlib.Core.List.{List}
use Prim.Native.Nat.{ℕ, ◌^◌, ◌<◌}
use Rattle.numbers.specs.Numbers.{first}
use Rattle.chip.specs.declared.Call.{Call}
use Rattle.chip.specs.declared.Chip.{Chip}
use Rattle.chip.specs.State.{well_formed}
use Rattle.chip.specs.Answers.{numbered}
use Rattle.chip.specs.Refusals.{number}
use Rattle.chip.specs.Calls.{given_with, chip_with, memory_with, call_given, chip_of, memory_of}
use Rattle.block.specs.Block.{encode, decode}
use Rattle.block.specs.OnBlock.{block_given, block_after, block_memory}
use Rattle.block.specs.Kept.{Sized}
use Rattle.block.proofs.RoundTrip.{decode_encode, encoded_well}
use Rattle.stored.proofs.StaysSized.{stays_sized}

-- x by a test, and where it fails y, which is then x
either : {A : Type 0} (test : Bool) (x y : A) → (test ≡ false → x ≡ y) → cond test x y ≡ x
either true x y same = refl
either false x y same = sym (same refl)

module _ (chip : Chip) (z : Sized chip) (memory : List ℕ) (x : Call) where
  -- a chip that is not well formed is refused and left, and so is memory
  ill_formed : well_formed chip.control ≡ false
      → (call_given chip memory x ≡ numbered 1) × (chip_of chip memory x ≡ chip) × (memory_of chip memory x ≡ memory)
  unfolding call_given chip_of memory_of given_with chip_with memory_with number first
  ill_formed e = (rw e, rw e, rw e)

  pub given_by_value : block_given (encode chip) memory x ≡ call_given chip memory x
  unfolding block_given
  given_by_value = rw (encoded_well chip z, decode_encode chip z) (either _ _ _ (λ e. (ill_formed e).0))

  pub block_by_value : block_after (encode chip) memory x ≡ encode (chip_of chip memory x)
  unfolding block_after
  block_by_value = rw (encoded_well chip z, decode_encode chip z) (either _ _ _ (λ e. ap encode (ill_formed e).1))

  pub memory_by_value : block_memory (encode chip) memory x ≡ memory_of chip memory x
  unfolding block_memory
  memory_by_value = rw (encoded_well chip z, decode_encode chip z) (either _ _ _ (λ e. (ill_formed e).2))

  -- the chip that is read from the block after
  pub chip_by_value : x.given < 2 ^ 32 → decode (block_after (encode chip) memory x) ≡ chip_of chip memory x
  chip_by_value h = ap decode block_by_value ∙ decode_encode (chip_of chip memory x) (stays_sized chip memory x z h)
