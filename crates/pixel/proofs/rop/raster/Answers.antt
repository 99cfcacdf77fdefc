-- `pixel::raster`: what the calls ensure, and `raster_law`. Assumes nothing.
use Rattle.pixel.proofs.Rules.{raster_law}
use Rattle.pixel.proofs.rop.raster.Goals as goal

pub returns : goal.returns
returns c =
    let a = c.args in
    rw (
      c.mux.ensures,
      c.mux-zero.ensures,
      c.spread-4.ensures,
      c.spread-3.ensures,
      c.mux-one.ensures,
      c.spread-2.ensures,
      c.spread.ensures,
    )
    (raster_law a.rop a.new a.old)
