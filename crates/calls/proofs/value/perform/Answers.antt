-- `calls::value::perform`: the stored chip, acted on and read back. Assumes nothing.
use mathlib.Core.List.{List}
use mathlib.Core.Path.{ap, ◌∙◌}
use Prim.Native.Nat.{ℕ, ◌^◌, ◌<◌}
use borrow.Author.Rules.{rules}
use Rattle.block.specs.OnBlock.{block_given, block_after, block_memory}
use Rattle.block.specs.Block.{decode}
use Rattle.stored.proofs.ByValue.{given_by_value, chip_by_value, memory_by_value}
use Rattle.stored.proofs.Sizes.{sized}
use Rattle.calls.proofs.value.perform.Goals as goal

pub returns : goal.returns
returns c =
    let given-fits : c.args.x.given < 2 ^ 32 = search rules in
    let chip = c.args.chip in
    let m = c.args.memory.now in
    let x = c.args.x in
    let z = sized chip _ c.well_formed.0 in
    let kept = c.store.ensures in
    let own = c.act-answer.ensures in
    let gives = own.0 ∙ ap (λ (l : List ℕ). block_given l m x) kept ∙ given_by_value chip z m x in
    let leaves = c.read.ensures ∙ ap decode (own.1 ∙ ap (λ (l : List ℕ). block_after l m x) kept) ∙ chip_by_value chip z m x given-fits in (
      gives,
      leaves,
      own.2 ∙ ap (λ (l : List ℕ). block_memory l m x) kept ∙ memory_by_value chip z m x,
    )
