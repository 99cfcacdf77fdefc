-- `lists::put_numbers`: one turn stores one number more. Assumes nothing.
use Rattle.std.proofs.Common.{◌∙◌, rules, arith}
use Rattle.lists.proofs.RowStores.{put_more}
use Rattle.lists.proofs.put_numbers.Goals as goal

pub loop-i-preserved : goal.loop-i-preserved
loop-i-preserved g c =
    let at = c.loop-i in
    let put = rw c.WIDTH.ensures at c.put.ensures in
    record {
      in_range = omega arith;
      stored = put ∙ put_more g.met.N.LittleEndian.laws c.args.row.now _ at.s c.args.s.now c.args.at at.i (omega arith) (search rules) at.invariant.stored;
    }
