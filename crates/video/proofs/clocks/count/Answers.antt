-- `video::clocks::count`: the two puts of the definition, or the one. Assumes nothing.
use mathlib.Core.Path.{ap, ◌∙◌}
use borrow.Author.Tests.{eq-eqb, ne_eqb}
use Rattle.lists.specs.Words.{put_half}
use Rattle.block.specs.Block.{select_at}
use Rattle.video.specs.Clocks.{counted_in}
use Rattle.video.proofs.clocks.count.Goals as goal

pub returns-then-scan-eq-LAST_PAIR : goal.returns-then-scan-eq-LAST_PAIR
unfolding counted_in
returns-then-scan-eq-LAST_PAIR c =
    rw (eq-eqb _ _ c.if-scan-eq-LAST_PAIR.true) (c.put_scan_select.ensures ∙ ap (put_half select_at _) c.put_scan_counter.ensures)

pub returns-else-scan-eq-LAST_PAIR : goal.returns-else-scan-eq-LAST_PAIR
unfolding counted_in
returns-else-scan-eq-LAST_PAIR c =
    rw (ne_eqb _ _ c.if-scan-eq-LAST_PAIR.false) c.put_scan_counter-else-scan-eq-LAST_PAIR.ensures
