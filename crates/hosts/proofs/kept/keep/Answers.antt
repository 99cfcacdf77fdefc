-- `hosts::kept::keep`: a slice of another length and a chip that is not well formed are refused, each by its test; past both the chip is stored.
-- Assumes nothing.
use mathlib.Core.Path.{◌≡◌, refl}
use mathlib.Core.Bool.{true}
use lib.Dec.{eqb}
use lib.ListN.{length}
use borrow.Author.Tests.{eq-eqb, ne_eqb}
use Rattle.numbers.specs.Numbers.{first}
use Rattle.numbers.proofs.Tests.{test_holds, test_fails}
use Rattle.block.specs.Block.{block_bytes}
use Rattle.hosts.specs.Keeping.{keep_number, kept_block}
use Rattle.hosts.proofs.kept.keep.Goals as goal

pub returns-then-not-is_block_long : goal.returns-then-not-is_block_long
unfolding kept_block keep_number first
returns-then-not-is_block_long c = rw (ne_eqb _ block_bytes c.if-not-is_block_long.true) (refl, refl)

pub returns-then-not-well_formed : goal.returns-then-not-well_formed
unfolding kept_block keep_number first
returns-then-not-well_formed c =
    let long : eqb (length c.args.state.now) block_bytes ≡ true = eq-eqb _ block_bytes c.if-not-is_block_long.false in
    rw (long, test_fails c.well_formed-2.ensures c.if-not-well_formed.true) (refl, refl)

pub returns : goal.returns
unfolding kept_block keep_number first
returns c =
    let long : eqb (length c.args.state.now) block_bytes ≡ true = eq-eqb _ block_bytes c.if-not-is_block_long.false in
    rw (long, test_holds c.well_formed-2.ensures c.if-not-well_formed.false) (c.done.ensures, c.store.ensures)
