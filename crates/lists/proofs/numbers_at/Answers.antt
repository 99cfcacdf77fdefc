-- `lists::numbers_at`: each call of the closure reads its number. Assumes nothing.
use Rattle.std.proofs.Common.{rules}
use Rattle.lists.proofs.RowReads.{read_row}
use Rattle.lists.proofs.numbers_at.Goals as goal

pub returns : goal.returns
returns g c = let m = g.N.LittleEndian in read_row _ _ m.WIDTH m.reads c.args.s.now c.args.at (λ i x f' k. search rules) _ _ c.from_fn.ensures.items
