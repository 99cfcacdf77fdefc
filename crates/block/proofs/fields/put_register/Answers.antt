-- `block::fields::put_register`: registers are numbered from 1. Assumes nothing.
use Rattle.std.proofs.Common.{◌≡◌, ℕ, ◌+◌, ◌*◌, ap, ◌∙◌, arith}
use Rattle.lists.specs.Words.{put_word}
use Rattle.block.specs.Block.{register_at}
use Rattle.block.proofs.fields.put_register.Goals as goal

pub returns : goal.returns
returns c =
    let a = c.args in
    let place : 20 + 4 * a.number ≡ register_at a.number = omega arith in
    c.put.ensures ∙ ap (λ (p : ℕ). put_word p a.value a.s.now) place
