-- `pixel::merge`: the product does not wrap, and bit by bit the word is `merge_law`. Assumes nothing.
use Rattle.pixel.proofs.Rules.{merge_law}
use Rattle.pixel.proofs.rop.merge.Goals as goal

pub returns : goal.returns
returns c = rw (c.mux.ensures, c.spread-bytes.ensures) (merge_law c.args.dest c.args.drawn c.args.plane_mask c.args.taken)
