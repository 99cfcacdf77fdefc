-- `buffer::registers::put_compare`: the register's word, then the flags' as the action bits switch them. Assumes nothing.
use Rattle.buffer.proofs.registers.put_compare.Goals as goal

pub returns : goal.returns
returns c =
    rw (
      c.put_flags.ensures,
      c.put_register.ensures,
      c.switched_by-hit.ensures,
      c.hit.ensures,
      c.switched_by-picking.ensures,
      c.picking.ensures,
    )
