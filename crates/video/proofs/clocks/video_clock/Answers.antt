-- `video::clocks::video_clock`: its value is read before counter and select go on. Assumes nothing.
use mathlib.Core.Path.{refl, ap, ◌∙◌}
use Prim.Native.Nat.{ℕ, ◌≤◌}
use native.Mathlib.Omega.{arith}
use Rattle.numbers.proofs.Tests.{test_holds}
use Rattle.numbers.specs.Numbers.{first}
use Rattle.chip.specs.declared.Scan.{Scan}
use Rattle.chip.specs.Changes.{with_scan}
use Rattle.chip.specs.Video.{clocked, video_byte, put_out}
use Rattle.chip.specs.Operations.{video_clock, in_range}
use Rattle.chip.specs.Effects.{still, giving, reading, effect}
use Rattle.chip.specs.Refusals.{asks}
use Rattle.chip.proofs.Accepted.{scan_fits_lem}
use Rattle.block.specs.Block.{decode_control, video_in}
use Rattle.block.proofs.Puts.{stores_of}
use Rattle.own.proofs.Lines.{nothing_given}
use Rattle.own.proofs.WellFormed.{well_control}
use Rattle.own.proofs.OwnLines.{row_video_clock}
use Rattle.own.proofs.Owns.{by_asks, operands_refused, put_done, as_stored}
use Rattle.video.specs.Clocks.{counted_in}
use Rattle.video.proofs.Counts.{stores_counted}
use Rattle.video.proofs.clocks.video_clock.Goals as goal

pub returns-then-not-fits : goal.returns-then-not-fits
unfolding in_range
returns-then-not-fits c =
    let x = c.args.x in
    operands_refused c.args.s.now x (row_video_clock x c.requires.2) (c.fits.ensures ∙ nothing_given c.args.x) c.if-not-fits.true

pub put_out-out-requires : goal.put_out-out-requires
put_out-out-requires c =
    let range : ((decode_control c.args.s.now).scan.counter ≤ 39) × ((decode_control c.args.s.now).scan.select ≤ 1) = scan_fits_lem _ (well_control c.args.s.now c.requires.1) in
    let read-range : (c.scan-scan.result.counter ≤ 39) × (c.scan-scan.result.select ≤ 1) = rw c.scan-scan.ensures range in
    (c.requires.0, read-range.0, read-range.1)

pub count-requires : goal.count-requires
count-requires c =
    let range : ((decode_control c.args.s.now).scan.counter ≤ 39) × ((decode_control c.args.s.now).scan.select ≤ 1) = scan_fits_lem _ (well_control c.args.s.now c.requires.1) in
    let read-range : (c.scan-scan.result.counter ≤ 39) × (c.scan-scan.result.select ≤ 1) = rw c.scan-scan.ensures range in
    (c.requires.0, read-range.0, read-range.1)

pub returns : goal.returns
unfolding in_range asks first effect reading
returns c =
    let range : ((decode_control c.args.s.now).scan.counter ≤ 39) × ((decode_control c.args.s.now).scan.select ≤ 1) = scan_fits_lem _ (well_control c.args.s.now c.requires.1) in
    let s = c.args.s.now in
    let x = c.args.x in
    let v = (decode_control s).scan in
    let none = by_asks (decode_control s) video_clock _ (test_holds (c.fits.ensures ∙ nothing_given c.args.x) c.if-not-fits.false) refl in
    let was = stores_of s (λ a. omega (arith, c.slice_known-1.given a)) c.requires.1 in
    let out = c.put_out-out.ensures ∙ ap (λ (w : Scan). put_out w (video_byte (video_in s))) c.scan-scan.ensures in
    put_done s x video_clock _ (row_video_clock x c.requires.2) none
    (as_stored (c.count.ensures ∙ ap (λ (w : Scan). counted_in w s) c.scan-scan.ensures) (stores_counted was range.0))
    (ap (λ (k : ℕ). giving k (with_scan (decode_control s) (clocked v)) still) out) c.done.ensures
