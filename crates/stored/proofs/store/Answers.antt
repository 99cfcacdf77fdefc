-- `stored::store`: the byte parts and the display's numbers behind the control part. Assumes nothing.
use Rattle.block.specs.Kept.{Sized}
use Rattle.stored.proofs.Sizes.{sized}
use Rattle.stored.proofs.PartStores.{chip_stored}
use Rattle.stored.proofs.store.Goals as goal

pub returns : goal.returns
returns c =
    let whole : Sized c.args.chip = sized c.args.chip _ c.well_formed.1.0 in
    chip_stored c.args.chip c.args.s.now whole c.requires c.put_control.ensures c.put_bytes.ensures
    c.put_bytes-2.ensures c.put_numbers.ensures
