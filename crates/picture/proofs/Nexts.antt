-- One call on a chip, its memory and its book, done or refused, read off the definitions (the flat side: Shared.antt); and that no move
-- changes memory's length. Assumes nothing.
use mathlib.Core.Path.{◌≡◌, refl}
use mathlib.Core.List.{List}
use Prim.Native.Nat.{ℕ, suc}
use lib.ListN.{length}
use Rattle.bank.specs.Work.{written_back, copied}
use Rattle.lists.proofs.Updates.{length_update}
use Rattle.chip.specs.declared.Control.{Control}
use Rattle.chip.specs.declared.Chip.{Chip}
use Rattle.chip.specs.declared.Call.{Call}
use Rattle.chip.specs.Operations.{operation}
use Rattle.chip.specs.Effects.{Move, still, copy, load, back, paint, transfer, memory_after}
use Rattle.chip.specs.Refusals.{number}
use Rattle.chip.specs.Calls.{read_in, effect_in, chip_after, chip_with, memory_with}
use Rattle.picture.specs.Book.{Book, note}
use Rattle.picture.specs.Flat.{Flat}
use Rattle.picture.specs.Drawing.{World, number_in, next}

-- a chip over this memory, with this book and this flat picture
unfoldable pub world_of : Chip → List ℕ → Book → Flat → World
world_of k m g f = record { chip = k; memory = m; book = g; flat = f }

module _ (n : ℕ) (k : Chip) (m : List ℕ) (g : Book) (f : Flat) (x : Call) where
  pub next_done : number n k.control (length m) x ≡ 0
      → let e = effect_in n k x in
      next n (world_of k m g f) x
      ≡ world_of (chip_after k m e) (memory_after k.control k.pixels m e.move)
      (note n k.control g (operation x) (read_in n k x)) (next n (world_of k m g f) x).flat
  unfolding next number_in chip_with memory_with world_of
  next_done r = rw r

  pub next_refused : (r : ℕ) → number n k.control (length m) x ≡ suc r → next n (world_of k m g f) x ≡ world_of k m g (next n (world_of k m g f) x).flat
  unfolding next number_in chip_with memory_with world_of
  next_refused r e = rw e

-- no move changes the number of bytes
pub length_after : (c : Control) (p m : List ℕ) (v : Move) → length (memory_after c p m v) ≡ length m
unfolding memory_after copied written_back
length_after c p m still = refl
length_after c p m (copy b from to) = length_update 1280 _ _ m
length_after c p m (load b q k s) = refl
length_after c p m (back b q k s mask tag) = length_update 32 _ _ m
length_after c p m (paint w s old) = refl
length_after c p m (transfer b q l) = refl
