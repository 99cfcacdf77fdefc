-- `panel::panel_fresh`: number 1 for a wrong length, 4 for a wrong P, and past both tests the fresh chip, stored. Assumes nothing.
use mathlib.Core.Path.{◌≡◌, ap, ◌∙◌}
use mathlib.Core.Bool.{true}
use Prim.Native.Nat.{◌≤◌}
use lib.Dec.{eqb}
use lib.ListN.{length}
use native.Mathlib.Omega.{arith}
use borrow.Author.Tests.{eq-eqb, ne_eqb}
use Rattle.numbers.specs.Numbers.{first}
use Rattle.layout.proofs.ScanLines.{pages_between}
use Rattle.numbers.proofs.Tests.{test_holds, test_fails}
use Rattle.block.specs.Block.{block_bytes, encode}
use Rattle.block.specs.OnBlock.{fresh_block_number, fresh_block}
use Rattle.panel.specs.Packs.{fresh_packed}
use Rattle.panel.proofs.panel_fresh.Goals as goal

pub returns-then-state-ne-BLOCK_BYTES : goal.returns-then-state-ne-BLOCK_BYTES
unfolding fresh_packed fresh_block fresh_block_number first
returns-then-state-ne-BLOCK_BYTES c =
    let wrong = ne_eqb (length c.args.state.now) block_bytes c.if-state-ne-BLOCK_BYTES.true in
    (c.refused.ensures ∙ rw wrong, rw wrong)

pub returns-then-not-pages_fit : goal.returns-then-not-pages_fit
unfolding fresh_packed fresh_block fresh_block_number first
returns-then-not-pages_fit c =
    let long : eqb (length c.args.state.now) block_bytes ≡ true = eq-eqb _ block_bytes c.if-state-ne-BLOCK_BYTES.false in
    let outside = test_fails c.pages_fit.ensures c.if-not-pages_fit.true in
    (c.refused-then-not-pages_fit.ensures ∙ rw (long, outside), rw (long, outside))

pub overflow_cast-pages : goal.overflow_cast-pages
overflow_cast-pages c =
    let between : let P = c.args.pages in (1 ≤ P) × (P ≤ 257) = pages_between _ (test_holds c.pages_fit.ensures c.if-not-pages_fit.false) in
    omega (arith, between.1)

pub returns : goal.returns
unfolding fresh_packed fresh_block fresh_block_number first
returns c =
    let long : eqb (length c.args.state.now) block_bytes ≡ true = eq-eqb _ block_bytes c.if-state-ne-BLOCK_BYTES.false in
    let inside = test_holds c.pages_fit.ensures c.if-not-pages_fit.false in
    (c.pack.ensures ∙ rw (long, inside), c.store.ensures ∙ rw (long, inside) (ap encode c.fresh.ensures))

pub fresh-requires : goal.fresh-requires
fresh-requires c =
    let between : let P = c.args.pages in (1 ≤ P) × (P ≤ 257) = pages_between _ (test_holds c.pages_fit.ensures c.if-not-pages_fit.false) in
    between
