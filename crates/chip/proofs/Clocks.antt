-- What a video clock makes of counter and select, as code does it: the wrap by a test. Assumes nothing.
use Rattle.std.proofs.Common.{◌≡◌, ◌+◌, ◌-◌, ◌%◌, ◌<◌, mod-eq_of_lt, arith, ne_eqb}
use Rattle.chip.specs.declared.Scan.{Scan}
use Rattle.chip.specs.Video.{counted, clocked}

-- before the last pair only the counter goes on
pub clocked_on : (v : Scan) → v.counter < 39 → clocked v ≡ record { counter = v.counter + 1; select = v.select }
unfolding clocked counted
clocked_on v h =
    let on : (v.counter + 1) % 40 ≡ v.counter + 1 = mod-eq_of_lt (omega arith) in
    rw (on, ne_eqb (v.counter + 1) 0 (λ e. omega arith))

-- behind it comes counter 0, and the other buffer
pub clocked_wraps : (v : Scan) → v.counter ≡ 39 → clocked v ≡ record { counter = 0; select = 1 - v.select }
unfolding clocked counted
clocked_wraps v e = rw e
