-- `hosts::older::says_its_length`: a length that no block has or had fails the test before the header is read. Assumes nothing.
use mathlib.Core.Path.{◌≡◌, sym, ◌∙◌}
use mathlib.Core.Bool.{true, false, and-true, and-false}
use native.Mathlib.Omega.{arith}
use lib.Dec.{eqb}
use lib.ListN.{length}
use borrow.Author.Tests.{eqb-true}
use Rattle.block.specs.Block.{block_bytes}
use Rattle.hosts.specs.Grown.{grown, says_length}
use Rattle.hosts.proofs.Growing.{grown_long, grown_fits}
use Rattle.hosts.proofs.older.says_its_length.Goals as goal

pub returns-then-not-length : goal.returns-then-not-length
returns-then-not-length c =
    let s = c.args.state.now in
    let unknown : eqb (length (grown s)) block_bytes ≡ false = grown_long s ∙ c.if-not-length.true in
    rw unknown (sym (and-false (says_length s)))

pub get-requires : goal.get-requires
get-requires c =
    let known : eqb (length (grown c.args.state.now)) block_bytes ≡ true = grown_long _ ∙ c.if-not-length.false in
    omega (arith, grown_fits c.args.state.now (eqb-true _ _ known))

pub returns : goal.returns
returns c =
    let known : eqb (length (grown c.args.state.now)) block_bytes ≡ true = grown_long _ ∙ c.if-not-length.false in
    rw (known, c.get.ensures) (sym (and-true _))
