-- `block::form::header_fits`: a pair of fields is one word. Assumes nothing.
use Rattle.std.proofs.Common.{◌≡◌, ℕ, ◌&&◌, eqb, sym, ap, ◌∙◌, arith}
use Rattle.lists.specs.Words.{half_at, word_at, halves_at}
use Rattle.block.specs.Block.{banks_at, registers_at, flags_at, tags_at, pixels_at, block_bytes, header, same}
use Rattle.block.proofs.HeaderForm.{pair, header_test}
use Rattle.numbers.proofs.Tests.{equal, unequal}
use Rattle.block.proofs.form.header_fits.Goals as goal

pub returns-then-get-ne8 : goal.returns-then-get-ne8
returns-then-get-ne8 c =
    let tested : same (halves_at 8 c.args.s.now 0) (header (half_at c.args.s.now 0))
    ≡ (eqb (half_at c.args.s.now 2) 8
    && (eqb (word_at c.args.s.now 4) (pair banks_at registers_at)
    && (eqb (word_at c.args.s.now 8) (pair flags_at tags_at) && eqb (word_at c.args.s.now 12) (pair pixels_at block_bytes)))) = header_test c.args.s.now (λ a. omega (arith, c.type_inv.s a)) in
    sym (tested ∙ rw (unequal c.get.ensures c.if-get-ne8.true))

pub returns-then-get-ne-BANKS_AND_REGISTERS : goal.returns-then-get-ne-BANKS_AND_REGISTERS
returns-then-get-ne-BANKS_AND_REGISTERS c =
    let tested : same (halves_at 8 c.args.s.now 0) (header (half_at c.args.s.now 0))
    ≡ (eqb (half_at c.args.s.now 2) 8
    && (eqb (word_at c.args.s.now 4) (pair banks_at registers_at)
    && (eqb (word_at c.args.s.now 8) (pair flags_at tags_at) && eqb (word_at c.args.s.now 12) (pair pixels_at block_bytes)))) = header_test c.args.s.now (λ a. omega (arith, c.type_inv.s a)) in
    let one = equal c.get.ensures c.if-get-ne8.false in
    sym (tested ∙ rw (one, unequal c.get-2.ensures c.if-get-ne-BANKS_AND_REGISTERS.true))

pub returns-then-get-ne-FLAGS_AND_TAGS : goal.returns-then-get-ne-FLAGS_AND_TAGS
returns-then-get-ne-FLAGS_AND_TAGS c =
    let tested : same (halves_at 8 c.args.s.now 0) (header (half_at c.args.s.now 0))
    ≡ (eqb (half_at c.args.s.now 2) 8
    && (eqb (word_at c.args.s.now 4) (pair banks_at registers_at)
    && (eqb (word_at c.args.s.now 8) (pair flags_at tags_at) && eqb (word_at c.args.s.now 12) (pair pixels_at block_bytes)))) = header_test c.args.s.now (λ a. omega (arith, c.type_inv.s a)) in
    let one = equal c.get.ensures c.if-get-ne8.false in
    let two = equal c.get-2.ensures c.if-get-ne-BANKS_AND_REGISTERS.false in
    sym (tested ∙ rw (one, two, unequal c.get-3.ensures c.if-get-ne-FLAGS_AND_TAGS.true))

pub returns : goal.returns
returns c =
    let tested : same (halves_at 8 c.args.s.now 0) (header (half_at c.args.s.now 0))
    ≡ (eqb (half_at c.args.s.now 2) 8
    && (eqb (word_at c.args.s.now 4) (pair banks_at registers_at)
    && (eqb (word_at c.args.s.now 8) (pair flags_at tags_at) && eqb (word_at c.args.s.now 12) (pair pixels_at block_bytes)))) = header_test c.args.s.now (λ a. omega (arith, c.type_inv.s a)) in
    let one = equal c.get.ensures c.if-get-ne8.false in
    let two = equal c.get-2.ensures c.if-get-ne-BANKS_AND_REGISTERS.false in
    let three = equal c.get-3.ensures c.if-get-ne-FLAGS_AND_TAGS.false in
    ap (λ (x : ℕ). eqb x (pair pixels_at block_bytes)) c.get-4.ensures ∙ sym (tested ∙ rw (one, two, three))
