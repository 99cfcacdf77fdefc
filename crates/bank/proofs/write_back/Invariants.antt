-- `bank::write_back`, by the loop's invariant: after n turns the part is written back at the block's first n words, and is bytes.
-- A turn puts its word, or skips it where its four tag bits are 0. Assumes nothing.
use mathlib.Core.Path.{◌≡◌}
use Prim.Native.Nat.{◌*◌}
use lib.ListN.{get_or}
use Rattle.lists.specs.Words.{Bytes}
use Rattle.layout.specs.Memory.{in_bank, in_page}
use Rattle.lists.specs.Update.{update}
use Rattle.bank.specs.Work.{in_slot, back_byte}
use Rattle.bank.proofs.write_back.Given as goal

abbrev pub invariant-loop-word : goal.invariant-loop-word
invariant-loop-word l = record {
  bytes : Bytes l.part;
  written : l.part ≡ update (4 * l.word) (λ i. in_bank l.fn.place.page (in_page l.fn.place.block i)) (back_byte l.mask l.tag (λ i. get_or l.pixels (in_slot l.slot i) 0)) l.initial.part;
}
