-- `buffer::writes::mark_hit`: the flags are put, or the block stays. Assumes nothing.
use mathlib.Core.Bool.{Bool, true, false, ◌&&◌}
use mathlib.Core.Path.{◌≡◌, sym, ap, ◌∙◌}
use Rattle.block.specs.Block.{decode_control}
use Rattle.own.specs.Own.{hit_marked}
use Rattle.buffer.proofs.writes.mark_hit.Goals as goal

pub returns-then-picking-hits : goal.returns-then-picking-hits
unfolding hit_marked
returns-then-picking-hits c =
    let on : ((decode_control c.args.s.now).picking && c.args.hits) ≡ true
    = sym (ap (λ (p : Bool). p && c.args.hits) c.picking.ensures) ∙ c.if-picking-hits.true in
    c.put_flags.ensures ∙ rw on

pub returns-else-picking-hits : goal.returns-else-picking-hits
unfolding hit_marked
returns-else-picking-hits c =
    let off : ((decode_control c.args.s.now).picking && c.args.hits) ≡ false
    = sym (ap (λ (p : Bool). p && c.args.hits) c.picking.ensures) ∙ c.if-picking-hits.false in
    rw off
