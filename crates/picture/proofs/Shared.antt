-- The flat picture's control part is the chip's without its tags: operation by operation each call does the same to both, and both answer alike.
-- Assumes nothing.
use mathlib.Core.Path.{◌≡◌, refl, sym, ap, ◌∙◌}
use mathlib.Core.List.{List, []}
use Prim.Native.Nat.{ℕ, suc}
use lib.ListN.{length}
use Rattle.chip.specs.declared.Control.{Control}
use Rattle.chip.specs.declared.Chip.{Chip}
use Rattle.chip.specs.declared.Call.{Call}
use Rattle.chip.specs.State.{well_formed}
use Rattle.chip.specs.Operations.{Operation, access, precharge, duplicate, read_block, write_block, data_read, data_write, write_tag, write_register, read_register, video_transfer, video_clock, unknown, operation}
use Rattle.chip.specs.Changes.{with_register, ticked}
use Rattle.chip.specs.Effects.{Reading, nothing_read, effect, memory_after, video_after}
use Rattle.chip.specs.Answers.{GivenBack, effect_given}
use Rattle.chip.specs.Refusals.{operands_fit, asks, call_tests, number}
use Rattle.chip.specs.Calls.{read_in, effect_in, chip_after}
use Rattle.picture.specs.Book.{Book, note}
use Rattle.picture.specs.Transfers.{Transfer, transfers_after}
use Rattle.picture.specs.Flat.{Flat, picture_after, flat_read, flat_step}
use Rattle.picture.specs.Drawing.{World, counts_tags, seen, next}
use Rattle.picture.proofs.Buffers.{Shows, move_shows}
use Rattle.picture.proofs.Nexts.{world_of, next_done, next_refused}

-- ---- the control part without slots: what the flat picture has

abbrev pub shared : Control → Control
shared c = record {
  pages = c.pages;
  banks = c.banks;
  registers = c.registers;
  picking = c.picking;
  hit = c.hit;
  counter = c.counter;
  tags = [];
  scan = c.scan;
}

-- no call looks at the tags, but for the count of a write-back: it asks the same, does the same to what is shared, draws the same, and the same is
-- seen of it. And none changes P
pub shared_call : (n : ℕ) (c : Control) (o : Operation) (r : Reading)
    → (asks (shared c) o ≡ asks c o)
    × ((effect n (shared c) o r).control ≡ shared (effect n c o r).control)
    × ((g : Book) (l : List ℕ) → picture_after (shared c) g l (effect n (shared c) o r).move ≡ picture_after c g l (effect n c o r).move)
    × ((m : List ℕ) (t : List Transfer) → transfers_after m t (effect n (shared c) o r).move ≡ transfers_after m t (effect n c o r).move)
    × ((c' : Control) → seen o (effect_given (effect n c o r)) c' ≡ seen o (effect_given (effect n (shared c) o r)) (shared c'))
    × ((effect n c o r).control.pages ≡ c.pages)
unfolding asks effect with_register picture_after transfers_after seen counts_tags
shared_call n c (access b p) r = (refl, refl, λ g l. refl, λ m t. refl, λ c'. refl, refl)
shared_call n c (precharge b) r = (refl, refl, λ g l. refl, λ m t. refl, λ c'. refl, refl)
shared_call n c (duplicate b p) r = (refl, refl, λ g l. refl, λ m t. refl, λ c'. refl, refl)
shared_call n c (read_block b k s) r = (refl, refl, λ g l. refl, λ m t. refl, λ c'. refl, refl)
shared_call n c (write_block m b k s) r = (refl, refl, λ g l. refl, λ m t. refl, λ c'. refl, refl)
shared_call n c (data_read s w) r = (refl, refl, λ g l. refl, λ m t. refl, λ c'. refl, refl)
shared_call n c (data_write w) r = (refl, refl, λ g l. refl, λ m t. refl, λ c'. refl, refl)
shared_call n c (write_tag m s x) r = (refl, refl, λ g l. refl, λ m t. refl, λ c'. refl, refl)
shared_call n c (write_register a v) r = (refl, refl, λ g l. refl, λ m t. refl, λ c'. refl, refl)
shared_call n c (read_register a) r = (refl, refl, λ g l. refl, λ m t. refl, λ c'. refl, refl)
shared_call n c (video_transfer b l) r = (refl, refl, λ g l. refl, λ m t. refl, λ c'. refl, refl)
shared_call n c video_clock r = (refl, refl, λ g l. refl, λ m t. refl, λ c'. refl, refl)
shared_call n c unknown r = (refl, refl, λ g l. refl, λ m t. refl, λ c'. refl, refl)

pub shared_number : (n : ℕ) (c : Control) (len : ℕ) (x : Call) → number n (shared c) len x ≡ number n c len x
unfolding number call_tests operands_fit well_formed
shared_number n c len x = rw (shared_call n c (operation x) nothing_read).0

pub pages_after : (n : ℕ) (c : Control) (o : Operation) (r : Reading) → (ticked (effect n c o r).control).pages ≡ c.pages
unfolding ticked
pages_after n c o r = (shared_call n c o r).5

shared_ticked : (c : Control) → ticked (shared c) ≡ shared (ticked c)
unfolding ticked
shared_ticked c = refl

pub seen_shared : (o : Operation) (g : GivenBack) (c : Control) → seen o g c ≡ seen o g (shared c)
unfolding seen
seen_shared o g c = refl

-- ---- a world in which both have the same control part

-- the flat side of a chip of this control part, with this picture and these last transfers
abbrev pub flat_of : Control → List ℕ → List Transfer → Flat
flat_of c l t = record { control = shared c; picture = l; transfers = t }

unfoldable pub build : Chip → List ℕ → Book → List ℕ → List Transfer → World
build k m g l t = world_of k m g (flat_of k.control l t)

-- a world whose two control parts are alike is built of its parts
pub parts : (w : World) → w.flat.control ≡ shared w.chip.control
    → build w.chip w.memory w.book w.flat.picture w.flat.transfers ≡ w
unfolding build world_of
parts w e =
    ap (λ (c : Control). world_of w.chip w.memory w.book (record { control = c; picture = w.flat.picture; transfers = w.flat.transfers })) (sym e)

-- ---- a call on both, done or refused

module _ (n : ℕ) (k : Chip) (m : List ℕ) (g : Book) (l : List ℕ) (t : List Transfer) (x : Call) where
  abbrev c : Control
  c = k.control

  abbrev flat_next : Flat
  flat_next = (next n (build k m g l t) x).flat

  flat_done : number n (shared c) (length l) x ≡ 0 → flat_read n g (flat_of c l t) x ≡ read_in n k x
      → let e = effect_in n k x in flat_next ≡ flat_of (ticked e.control) (picture_after c g l e.move) flat_next.transfers
  unfolding build world_of next flat_step
  flat_done rf q =
      let same = shared_call n c (operation x) (read_in n k x) in
      rw (rf, q, same.1, same.2 g l, shared_ticked (effect_in n k x).control)

  flat_refused : (r : ℕ) → number n (shared c) (length l) x ≡ suc r → flat_next ≡ flat_of c l t
  unfolding build world_of next flat_step
  flat_refused r rf = rw rf

  pub done_next : number n c (length m) x ≡ 0 → number n (shared c) (length l) x ≡ 0 → flat_read n g (flat_of c l t) x ≡ read_in n k x
      → let e = effect_in n k x in
      next n (build k m g l t) x
      ≡ build (chip_after k m e) (memory_after c k.pixels m e.move) (note n c g (operation x) (read_in n k x))
      (picture_after c g l e.move) flat_next.transfers
  unfolding build
  done_next r rf q = next_done n k m g (flat_of c l t) x r ∙ ap (world_of _ _ _) (flat_done rf q)

  pub refused_next : (r : ℕ) → number n c (length m) x ≡ suc r → number n (shared c) (length l) x ≡ suc r → next n (build k m g l t) x ≡ build k m g l t
  unfolding build
  refused_next r e ef = next_refused n k m g (flat_of c l t) x r e ∙ ap (world_of k m g) (flat_refused r ef)

  -- after it the video buffers have what was last transferred into them
  pub done_shows : number n (shared c) (length l) x ≡ 0 → flat_read n g (flat_of c l t) x ≡ read_in n k x → Shows c.pages k.video t
      → Shows c.pages (video_after c k.video m (effect_in n k x).move) flat_next.transfers
  unfolding build world_of next flat_step
  done_shows rf q s =
      let same = (shared_call n c (operation x) (read_in n k x)).3 m t in
      rw (rf, q) (rw (← same) at (move_shows c m (effect_in n k x).move s))
