-- `paneltest::session::Session::run`, by the loop's invariant: a byte more. Assumes nothing.
use mathlib.Core.Path.{ap}
use native.Mathlib.Omega.{arith}
use lib.ListN.{length, get_or, length-append}
use Rattle.paneltest.specs.Session.{start_run, byte_run}
use Rattle.paneltest.proofs.SessionRuns.{byte_room, leaves_more}
use Rattle.paneltest.proofs.session.Session.run.Goals as goal

pub loop-byte-preserved : goal.loop-byte-preserved
loop-byte-preserved g c =
    let at = c.loop-byte in
    let a = c.args in
    let byte = get_or a.input.now at.byte-index 0 in record {
      room = omega (arith, byte_room at.self at.memory byte, length-append at.output.bytes (byte_run at.self at.memory byte).printed, ap length c.take_byte.ensures.output);
      left = leaves_more (start_run a.self.now a.memory.now) a.input.now at.byte-index (omega arith) at.invariant.left c.take_byte.ensures;
    }
