-- Counter and select gone on in a block are those of the chip that it stores, gone on. Assumes nothing.
use mathlib.Core.Path.{◌≡◌}
use mathlib.Core.List.{List}
use Prim.Native.Nat.{ℕ, ◌+◌, ◌-◌, ◌≤◌}
use native.Mathlib.Decide.{ℕ_discrete}
use native.Mathlib.Omega.{arith}
use borrow.Author.Tests.{eq-eqb, ne_eqb}
use Rattle.chip.specs.declared.Chip.{Chip}
use Rattle.chip.specs.Changes.{with_scan}
use Rattle.chip.specs.Video.{clocked}
use Rattle.chip.proofs.Clocks.{clocked_on, clocked_wraps}
use Rattle.block.proofs.Parts.{under}
use Rattle.block.proofs.Puts.{Stores, stores_scan_counter, stores_scan_select}
use Rattle.video.specs.Clocks.{counted_in}

pub stores_counted : {s : List ℕ} {chip : Chip} → Stores s chip → chip.control.scan.counter ≤ 39
    → Stores (counted_in chip.control.scan s) (under chip (with_scan chip.control (clocked chip.control.scan)))
unfolding counted_in
stores_counted {s} {chip} h l = go (ℕ_discrete chip.control.scan.counter 39)
  where
    go : Dec (chip.control.scan.counter ≡ 39) → Stores (counted_in chip.control.scan s) (under chip (with_scan chip.control (clocked chip.control.scan)))
    go (yes e) =
        let v = chip.control.scan in
        rw (eq-eqb v.counter 39 e, clocked_wraps v e) (stores_scan_select (stores_scan_counter h 0 (omega arith)) (1 - v.select) (omega arith))
    go (no f) =
        let v = chip.control.scan in
        rw (ne_eqb v.counter 39 f, clocked_on v (omega arith)) (stores_scan_counter h (v.counter + 1) (omega arith))
