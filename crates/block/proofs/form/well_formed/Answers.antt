-- `block::form::well_formed`: the tests of the definition, in another order. Assumes nothing.
use Rattle.std.proofs.Common.{◌≡◌, ℕ, true, eqb, length, sym, ap, ◌∙◌, eq-eqb, ne_eqb}
use mathlib.Core.Bool.{and-false, and-true}
use Rattle.bits.specs.Bits.{within}
use Rattle.numbers.proofs.Tests.{test_holds, test_fails}
use Rattle.lists.specs.Words.{half_at, word_at, halves_at}
use Rattle.block.specs.Block.{flags_at, block_bytes, header, same, well_formed_block}
use Rattle.block.proofs.form.well_formed.Goals as goal

pub returns-then-s-ne-BLOCK_BYTES : goal.returns-then-s-ne-BLOCK_BYTES
unfolding well_formed_block
returns-then-s-ne-BLOCK_BYTES c = sym (rw (ne_eqb _ _ c.if-s-ne-BLOCK_BYTES.true))

pub returns-then-not-header_fits : goal.returns-then-not-header_fits
unfolding well_formed_block
returns-then-not-header_fits c =
    let long : eqb (length c.args.s.now) block_bytes ≡ true = eq-eqb _ _ c.if-s-ne-BLOCK_BYTES.false in
    sym (rw (long, test_fails c.header_fits.ensures c.if-not-header_fits.true))

pub returns-then-not-is_well_formed : goal.returns-then-not-is_well_formed
unfolding well_formed_block
returns-then-not-is_well_formed c =
    let long : eqb (length c.args.s.now) block_bytes ≡ true = eq-eqb _ _ c.if-s-ne-BLOCK_BYTES.false in
    let headed : same (halves_at 8 c.args.s.now 0) (header (half_at c.args.s.now 0)) ≡ true = test_holds c.header_fits.ensures c.if-not-header_fits.false in
    sym (rw (long, headed, test_fails c.is_well_formed.ensures c.if-not-is_well_formed.true) (and-false (within (word_at c.args.s.now flags_at) 3)))

pub returns : goal.returns
unfolding well_formed_block
returns c =
    let long : eqb (length c.args.s.now) block_bytes ≡ true = eq-eqb _ _ c.if-s-ne-BLOCK_BYTES.false in
    let headed : same (halves_at 8 c.args.s.now 0) (header (half_at c.args.s.now 0)) ≡ true = test_holds c.header_fits.ensures c.if-not-header_fits.false in
    let stored = test_holds c.is_well_formed.ensures c.if-not-is_well_formed.false in
    c.within.ensures ∙ ap (λ (x : ℕ). within x 3) c.get.ensures
    ∙ sym (rw (long, headed, stored) (and-true (within (word_at c.args.s.now flags_at) 3)))
