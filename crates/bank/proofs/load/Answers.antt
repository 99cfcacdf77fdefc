-- `bank::load`, by the loop's invariant: after w turns the slot has the block's first w words. Assumes nothing.
use mathlib.Core.Path.{◌≡◌, refl, ap, ◌∙◌}
use Prim.Native.Nat.{ℕ, ◌+◌, ◌*◌}
use native.Mathlib.Omega.{arith}
use Rattle.lists.specs.Update.{update}
use Rattle.bank.specs.Work.{loaded}
use Rattle.bank.proofs.Blocks.{word_in_page, load_turn}
use Rattle.bank.proofs.load.Goals as goal

pub loop-w-init : goal.loop-w-init
unfolding update
loop-w-init c = refl

pub get-requires : goal.get-requires
get-requires c =
    omega (arith, c.in_page.ensures.0, word_in_page c.args.place.block c.loop-w.w c.requires.1 c.loop-w-test.true)

pub loop-w-preserved : goal.loop-w-preserved
loop-w-preserved c =
    let turn = c.loop-w in
    let a = c.args in
    c.put.ensures
    ∙ load_turn a.place.page a.place.block a.slot turn.w _ (ap (λ (r : ℕ). a.place.page * 1280 + r) c.in_page.ensures.0)
    a.part.now a.pixels.now turn.pixels (λ i. omega (arith, c.type_inv.part i)) turn.invariant _ c.get.ensures

pub returns : goal.returns
unfolding loaded
returns c =
    let last : c.loop-w.w ≡ 8 = omega arith in
    rw last at c.loop-w.invariant
