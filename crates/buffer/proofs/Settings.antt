-- Which bits a register's write may have, what the action bits do, and a register's write as puts. Assumes nothing.
use mathlib.Core.Path.{◌≡◌, refl, sym}
use mathlib.Core.Bool.{Bool, true, false, ◌&&◌}
use Prim.Native.Nat.{ℕ, zero, suc, ◌-◌, ◌/◌, ◌%◌, ◌^◌, ◌<◌, ◌≤◌}
use native.Mathlib.Omega.{arith}
use lib.Dec.{eqb, leb}
use lib.ListN.{get_or}
use borrow.Author.Tests.{leb-true, eqb-true}
use Rattle.bits.specs.Bits.{every}
use Rattle.bits.proofs.Bytes.{every_at}
use Rattle.numbers.proofs.Tests.{and_left, and_right}
use Rattle.chip.specs.declared.Control.{Control}
use Rattle.chip.specs.State.{writable}
use Rattle.chip.specs.Changes.{switched, with_flags, with_stored, with_register}

-- the numbers of registers
pub register_range : (n : ℕ) → (leb 1 n && leb n 7) ≡ true → (1 ≤ n) × (n ≤ 7)
register_range n e = (leb-true 1 n (and_left (leb 1 n) (leb n 7) e), leb-true n 7 (and_right (leb 1 n) (leb n 7) e))

-- registers 1 to 4: all bits
pub writable_low : (n : ℕ) → 1 ≤ n → n < 5 → ◌≡◌ {A = ℕ} 0xffff_ffff (get_or writable (n - 1) 0)
unfolding writable every
writable_low n l h = sym (eqb-true (get_or writable (n - 1) 0) 0xffff_ffff (every_at 4 (λ i. eqb (get_or writable i 0) 0xffff_ffff) refl (n - 1) (omega arith)))

-- a leading 0 changes nothing; else the second bit is the flag
pub switched_low : (two : ℕ) (was : Bool) → two < 2 → was ≡ switched two was
unfolding switched
switched_low zero was h = refl
switched_low (suc zero) was h = refl
switched_low (suc (suc two)) was h = absurd (omega arith)

pub switched_high : (two : ℕ) (was : Bool) → 2 ≤ two → two < 4 → eqb two 3 ≡ switched two was
unfolding switched
switched_high zero was l h = absurd (omega arith)
switched_high (suc zero) was l h = absurd (omega arith)
switched_high (suc (suc zero)) was l h = refl
switched_high (suc (suc (suc zero))) was l h = refl
switched_high (suc (suc (suc (suc two)))) was l h = absurd (omega arith)

-- any register but compare control holds its bits as they are
pub plain_register : (c : Control) (n v : ℕ) → eqb n 6 ≡ false → with_stored c n v ≡ with_register c n v
unfolding with_register
plain_register c n v e = rw e

-- compare control is stored without bits 27 to 24, which act
pub compare_register : (c : Control) (v : ℕ)
    → with_flags (with_stored c 6 (v % 2 ^ 24)) (switched (v / 2 ^ 26 % 4) c.picking) (switched (v / 2 ^ 24 % 4) c.hit) ≡ with_register c 6 v
unfolding with_register
compare_register c v = refl
