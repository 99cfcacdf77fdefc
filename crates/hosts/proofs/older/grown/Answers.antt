-- `hosts::older::grown`: the block over zeros, and the newest length in its header. Assumes nothing.
use mathlib.Core.Path.{refl, sym, ap, ◌∙◌}
use native.Mathlib.Omega.{arith}
use Rattle.lists.specs.Words.{put_half}
use Rattle.block.specs.Block.{block_bytes}
use Rattle.hosts.specs.Grown.{length_at}
use Rattle.hosts.proofs.Growing.{fresh_zeros, grown_fits, grown_stored}
use Rattle.hosts.proofs.older.grown.Goals as goal

pub put_bytes-requires : goal.put_bytes-requires
put_bytes-requires c = omega (arith, grown_fits c.args.state.now c.requires.1)

pub returns : goal.returns
returns c =
    c.put.ensures ∙ ap (put_half length_at block_bytes) c.put_bytes.ensures
    ∙ grown_stored c.args.state.now c.requires.1 _ refl (sym fresh_zeros) (λ a. omega (arith, c.type_inv.state a)) c.requires.0
