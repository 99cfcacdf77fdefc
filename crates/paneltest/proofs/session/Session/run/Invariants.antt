-- `paneltest::session::Session::run`, by the loop's invariant: what is left after some bytes is what the run over them leaves, and at most
-- 44 bytes are printed for each. Assumes nothing.
use Prim.Native.Nat.{◌+◌, ◌*◌, ◌≤◌}
use lib.ListN.{take}
use Rattle.arrayvec.specs.ArrayString.{array_string_len}
use Rattle.paneltest.specs.Session.{start_run, ran, Leaves}
use Rattle.paneltest.proofs.session.Session.run.Given as goal

abbrev pub invariant-loop-byte : goal.invariant-loop-byte
invariant-loop-byte g l = record {
  room : array_string_len l.output ≤ array_string_len l.initial.output + l.byte-index * 44;
  left : Leaves (ran (start_run l.initial.self l.initial.memory) (take l.byte-index l.input)) l.self l.memory l.initial.output.bytes l.output.bytes;
}
