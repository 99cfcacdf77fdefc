-- `buffer::writes::drawn`: the outcome of the two words read. Assumes nothing.
use Rattle.buffer.proofs.writes.drawn.Goals as goal

pub returns : goal.returns
returns c = rw (c.stateful.ensures, c.slot_word-dest.ensures, c.slot_word-old.ensures)
