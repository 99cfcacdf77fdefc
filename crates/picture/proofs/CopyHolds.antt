-- A page copied over another keeps `Holds`, where no slot stands for a block of either: no byte of a standing block lies in them. Assumes nothing.
use mathlib.Core.Path.{◌≡◌, sym, ◌∙◌}
use mathlib.Core.Logic.{◌≢◌}
use mathlib.Core.List.{List}
use Prim.Native.Nat.{ℕ, ◌^◌, ◌<◌}
use lib.ListN.{get_or, length}
use Rattle.layout.specs.Memory.{place, address, size, in_page}
use Rattle.layout.proofs.Places.{place_inj, place_lt, in_page_lt}
use Rattle.lists.specs.Update.{update}
use Rattle.lists.proofs.Updates.{length_update, update_other, update_same, update_all, find}
use Rattle.picture.specs.Book.{at, Book, stands}
use Rattle.picture.proofs.Holds.{Free, Holds}

module _ {P n plane : ℕ} {tags pixels memory picture : List ℕ} {g : Book} (h : Holds P n plane tags pixels memory picture g)
    (b from to : ℕ) (hb : b < 4) (hf : from < P) (ht : to < P)
    (clear : (s k : ℕ) → (stands g s ≢ at b from k) × (stands g s ≢ at b to k)) where
  unfoldable pub over : List ℕ → List ℕ
  over l = update 1280 (place P b to) (λ j was. get_or l (place P b from j) 0) l

  over_same : (l : List ℕ) → length l ≡ size P → (j : ℕ) → j < 1280 → get_or (over l) (place P b to j) 0 ≡ get_or l (place P b from j) 0
  unfolding over
  over_same l q = update_same 1280 (place P b to) (λ j was. get_or l (place P b from j) 0) l
      (λ i j hi hj r. (place_inj P b to i b to j ht ht hi hj r).2)
      (λ j hj. rw q (place_lt P b to j hb ht hj))

  over_other : (l : List ℕ) (a : ℕ) → ((j : ℕ) → j < 1280 → a ≢ place P b to j) → get_or (over l) a 0 ≡ get_or l a 0
  unfolding over
  over_other l a f = update_other 1280 (place P b to) (λ j was. get_or l (place P b from j) 0) l a f

  -- no byte of a block that a slot stands for is in a page for which none does
  outside : (s b' p' k' i to' j : ℕ) → to' < P → ((k : ℕ) → stands g s ≢ at b to' k) → stands g s ≡ at b' p' k' → i < 32 → j < 1280
      → address P b' p' k' i ≢ place P b to' j
  unfolding address
  outside s b' p' k' i to' j ht' none' e hi hj q =
      let u = h.inside s b' p' k' e in
      let r = place_inj P b' p' (in_page k' i) b to' j u.1 ht' (in_page_lt k' i u.2 hi) hj q in
      none' k' (rw (← r.0, ← r.1) e)

  block_same : (l : List ℕ) (s b' p' k' i : ℕ) → stands g s ≡ at b' p' k' → i < 32 → get_or (over l) (address P b' p' k' i) 0 ≡ get_or l (address P b' p' k' i) 0
  block_same l s b' p' k' i e hi =
      over_other l (address P b' p' k' i) (λ j hj. outside s b' p' k' i to j ht (λ k. (clear s k).1) e hi hj)

  pub copy_holds : Holds P n plane tags pixels (over memory) (over picture) g
  copy_holds = record {
    memory_length = unfold over in (simp length_update h.memory_length);
    picture_length = unfold over in (simp length_update h.picture_length);
    pixels_length = h.pixels_length;
    tags_length = h.tags_length;
    stand_length = h.stand_length;
    wait_length = h.wait_length;
    inside = h.inside;
    alone = h.alone;
    slots = λ s b' p' k' i e hi. rw (block_same picture s b' p' k' i e hi) (h.slots s b' p' k' i e hi);
    tagged = h.tagged;
    bytes = unfold over in (update_all (λ x. x < 2 ^ 8) 1280 (place P b to) (λ j was. get_or picture (place P b from j) 0) picture (λ j x hj q. h.bytes _) h.bytes);
    rest = λ a free. rest' a free (find 1280 (place P b to) a);
    held = λ s b' p' k' i e hi. rw (block_same picture s b' p' k' i e hi, block_same memory s b' p' k' i e hi) (h.held s b' p' k' i e hi);
  }
    where
      rest' : (a : ℕ) → Free P g a → Dec ((j : ℕ) × (j < 1280) × (a ≡ place P b to j)) → get_or (over memory) a 0 ≡ get_or (over picture) a 0
      rest' a free (yes (j, hj, q)) = rw q
          (over_same memory h.memory_length j hj
          ∙ h.rest (place P b from j) (λ s b' p' k' i e hi w r. outside s b' p' k' i from j hf (λ k. (clear s k).0) e hi hj (sym r))
          ∙ sym (over_same picture h.picture_length j hj))
      rest' a free (no f) =
          over_other memory a (λ j hj q. f (j, hj, q)) ∙ h.rest a free ∙ sym (over_other picture a (λ j hj q. f (j, hj, q)))
