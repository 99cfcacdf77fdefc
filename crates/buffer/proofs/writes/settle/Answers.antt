-- `buffer::writes::settle`: what each call put, one in the other, is `settled`. Assumes nothing.
use mathlib.Core.Path.{refl}
use Rattle.own.specs.Own.{settled}
use Rattle.buffer.proofs.writes.settle.Goals as goal

pub returns : goal.returns
unfolding settled
returns c = (
  refl,
  rw (
    c.tick.ensures,
    c.mark_hit.ensures,
    c.put_tag.ensures,
    c.put_slot_word.ensures,
    c.pick-before.ensures,
    c.tag.ensures,
  ),
)
