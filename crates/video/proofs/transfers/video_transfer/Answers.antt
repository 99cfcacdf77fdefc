-- `video::transfers::video_transfer`: refused by its three tests; past all the buffer holds the line, and the counter goes on. Assumes nothing.
use mathlib.Core.Path.{◌≡◌, refl, sym, ap, ◌∙◌}
use mathlib.Core.Bool.{Bool, true, ◌&&◌}
use mathlib.Core.List.{List, [], ◌∷◌}
use Prim.Native.Nat.{ℕ, ◌<◌}
use native.Mathlib.Omega.{arith}
use lib.ListN.{get_or}
use Rattle.numbers.proofs.Tests.{and_left, test_holds, equal, unequal}
use Rattle.numbers.specs.Numbers.{first}
use Rattle.layout.specs.Memory.{place, on_line}
use Rattle.bank.specs.Work.{in_buffer, transferred}
use Rattle.chip.specs.declared.Scan.{Scan}
use Rattle.chip.specs.Video.{buffer_of, in_use}
use Rattle.chip.specs.State.{open_page, is_closed, closed, slots}
use Rattle.chip.specs.declared.Call.{Call}
use Rattle.chip.specs.Operations.{video_transfer, in_range, all_zero}
use Rattle.chip.specs.Effects.{effect, pixels_after, video_after}
use Rattle.chip.specs.Refusals.{asks}
use Rattle.chip.proofs.Accepted.{line_range}
use Rattle.block.specs.Block.{decode_control}
use Rattle.block.proofs.Puts.{stores_of, stores_video}
use Rattle.own.proofs.Lines.{line_fits}
use Rattle.own.proofs.OwnLines.{row_video_transfer}
use Rattle.own.proofs.Owns.{tests, by_asks, refused, operand_outside, is_open, is_shut, shut_given, open_there, as_stored, ends_given, ends_block}
use Rattle.video.proofs.transfers.video_transfer.Goals as goal

-- past the operands' test, what the operation asks is the call's number
numbered_by : (s : List ℕ) (x : Call) {fit : Bool} → fit ≡ (in_range slots (decode_control s).pages (video_transfer x.a x.b) && all_zero (x.c ∷ x.d ∷ x.given ∷ [])) → fit ≡ true → {k : ℕ}
    → first (asks (decode_control s) (video_transfer x.a x.b)) ≡ k → tests (decode_control s) (video_transfer x.a x.b) (x.c ∷ x.d ∷ x.given ∷ []) ≡ k
numbered_by s x told fits = by_asks (decode_control s) (video_transfer x.a x.b) (x.c ∷ x.d ∷ x.given ∷ []) (test_holds told fits)

pub returns-then-not-fits : goal.returns-then-not-fits
unfolding in_range
returns-then-not-fits c =
    let res = operand_outside c.args.s.now c.args.x (row_video_transfer c.args.x c.requires.3) (c.fits.ensures ∙ line_fits c.args.x) c.if-not-fits.true in
    (res.0, res.1 _)

pub opened-requires : goal.opened-requires
opened-requires c =
    let range : let x = c.args.x in (x.a < 4) × (x.b < 16) = line_range _ _ (and_left _ _ (test_holds (c.fits.ensures ∙ line_fits c.args.x) c.if-not-fits.false)) in
    (c.requires.0, range.0)

pub returns-in_err-opened : goal.returns-in_err-opened
unfolding in_range asks first is_closed closed
returns-in_err-opened c =
    let shut = is_shut c.args.s.now c.args.x.a c.opened.ensures c.in_err-opened.was in
    let res = refused c.args.s.now c.args.x (video_transfer c.args.x.a c.args.x.b) _ (row_video_transfer c.args.x c.requires.3)
    (numbered_by c.args.s.now c.args.x (c.fits.ensures ∙ line_fits c.args.x) c.if-not-fits.false {k = 7} (rw (equal refl shut.0))) in
    (shut_given _ _ c.from_residual.ensures.1 shut.1 ∙ res.0, res.1 _)

pub returns-then-in_use : goal.returns-then-in_use
unfolding in_range asks first is_closed closed
returns-then-in_use c =
    let found = is_open c.args.s.now c.args.x.a c.opened.ensures c.in_ok-opened.was in
    let busy : c.in_use.result ≡ in_use (decode_control c.args.s.now).scan c.args.x.a = c.in_use.ensures ∙ ap (λ (v : Scan). in_use v c.args.x.a) c.scan.ensures in
    let res = refused c.args.s.now c.args.x (video_transfer c.args.x.a c.args.x.b) _ (row_video_transfer c.args.x c.requires.3)
    (numbered_by c.args.s.now c.args.x (c.fits.ensures ∙ line_fits c.args.x) c.if-not-fits.false {k = 10} (rw (unequal found.0 found.1, sym busy ∙ c.if-in_use.true))) in
    (res.0, res.1 _)

pub load_line-requires : goal.load_line-requires
load_line-requires c =
    let found = is_open c.args.s.now c.args.x.a c.opened.ensures c.in_ok-opened.was in
    let range : let x = c.args.x in (x.a < 4) × (x.b < 16) = line_range _ _ (and_left _ _ (test_holds (c.fits.ensures ∙ line_fits c.args.x) c.if-not-fits.false)) in
    let there = open_there c.args.s.now c.args.memory.now c.args.x.a c.requires.1 c.requires.2 range.0 found.0 found.1 in
    (c.requires.0, there.0, there.1, there.2, there.3, range.1)

pub returns : goal.returns
unfolding in_range asks first is_closed closed effect pixels_after video_after transferred
returns c =
    let found = is_open c.args.s.now c.args.x.a c.opened.ensures c.in_ok-opened.was in
    let busy : c.in_use.result ≡ in_use (decode_control c.args.s.now).scan c.args.x.a = c.in_use.ensures ∙ ap (λ (v : Scan). in_use v c.args.x.a) c.scan.ensures in
    let done = c.done in
    let s = c.args.s.now in
    let x = c.args.x in
    let r = row_video_transfer x c.requires.3 in
    let none = numbered_by c.args.s.now c.args.x (c.fits.ensures ∙ line_fits c.args.x) c.if-not-fits.false {k = 0} (rw (unequal found.0 found.1, sym busy ∙ c.if-in_use.false)) in
    let at : ℕ → ℕ = λ j. place (decode_control s).pages x.a (open_page (decode_control s).banks x.a) (on_line x.b j) in
    let was = stores_of s (λ a. omega (arith, c.slice_known-1.given a)) c.requires.1 in
    let held = stores_video was 80 (in_buffer (buffer_of x.a)) (λ j old. get_or c.args.memory.now (at j) 0) (λ j hj. unfold in_buffer buffer_of in omega arith) in
    (ends_given s x r none done.ensures.0, ends_block s x r none _ done.ensures.1 (as_stored c.load_line.ensures held))
