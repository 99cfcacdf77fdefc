-- `pixel::select_new`: what the calls ensure, and `select_law`. Assumes nothing.
use Rattle.pixel.proofs.Rules.{select_law}
use Rattle.pixel.proofs.rop.select_new.Goals as goal

pub returns : goal.returns
returns c =
    let a = c.args in
    rw (c.mux.ensures, c.spread.ensures) (select_law a.rop a.given a.constant)
