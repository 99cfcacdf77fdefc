-- A write-back of a slot to its own block keeps `Holds`: by a rule that leaves untagged bytes and makes tagged ones the slot's. Assumes nothing.
use mathlib.Core.Path.{◌≡◌, refl, sym, ap, ◌∙◌}
use mathlib.Core.Logic.{◌≢◌}
use mathlib.Core.Bool.{Bool, true, false, false≢true}
use mathlib.Core.List.{List}
use Prim.Native.Nat.{ℕ, ◌+◌, ◌*◌, ◌%◌, ◌^◌, ◌<◌}
use native.Mathlib.Omega.{arith}
use native.Mathlib.Decide.{ℕ_discrete}
use lib.ListN.{get_or, set, length-set}
use lib.Seq.{get_or-set_same, get_or-set_other}
use Rattle.bits.specs.Bits.{bit}
use Rattle.bits.proofs.Merges.{merge_same}
use Rattle.layout.specs.Memory.{address}
use Rattle.lists.specs.Update.{update}
use Rattle.lists.proofs.Updates.{length_update, update_other, update_same, find}
use Rattle.picture.specs.Book.{at, Book, stands, Waits}
use Rattle.picture.proofs.Holds.{at_inj, not_waiting, Free, UnderMask, Holds, same_byte, stands_lt, at_lt}

module _ {P n plane : ℕ} {tags pixels memory picture : List ℕ} {g : Book} (h : Holds P n plane tags pixels memory picture g)
    (s b p k : ℕ) (new : ℕ → ℕ → ℕ) (e : stands g s ≡ at b p k)
    (leaves : (i x : ℕ) → bit (get_or tags s 0) i ≡ false → x < 2 ^ 8 → new i x ≡ x)
    (settles : (i x : ℕ) → bit (get_or tags s 0) i ≡ true → get_or pixels (s * 32 + i) 0 < 2 ^ 8
    → UnderMask plane (i % 4) x (get_or pixels (s * 32 + i) 0)
    → new i x ≡ get_or pixels (s * 32 + i) 0) where
  unfoldable pub back_memory : List ℕ
  back_memory = update 32 (address P b p k) new memory

  unfoldable pub back_book : Book
  back_book = record { stand = g.stand; wait = set g.wait s 0 }

  memory_same : (i : ℕ) → i < 32 → get_or back_memory (address P b p k i) 0 ≡ new i (get_or memory (address P b p k i) 0)
  unfolding back_memory
  memory_same = update_same 32 (address P b p k) new memory
      (λ i j hi hj q. (same_byte h s b p k i s b p k j e e hi hj q).1)
      (λ i hi. rw h.memory_length (at_lt h s b p k i e hi))

  memory_other : (a : ℕ) → ((i : ℕ) → i < 32 → a ≢ address P b p k i) → get_or back_memory a 0 ≡ get_or memory a 0
  unfolding back_memory
  memory_other a f = update_other 32 (address P b p k) new memory a f

  -- the whole block is the picture's then
  settled : (i : ℕ) → i < 32 → get_or back_memory (address P b p k i) 0 ≡ get_or picture (address P b p k i) 0
  settled i hi = memory_same i hi ∙ go (bit (get_or tags s 0) i) refl
    where
      free : bit (get_or tags s 0) i ≡ false → Free P g (address P b p k i)
      free y t b' p' k' i' e' hi' w q =
          let r = same_byte h s b p k i t b' p' k' i' e e' hi hi' q in
          false≢true (sym y ∙ h.tagged s i hi (rw (r.0, r.1) w))

      go : (x : Bool) → bit (get_or tags s 0) i ≡ x → new i (get_or memory (address P b p k i) 0) ≡ get_or picture (address P b p k i) 0
      go true y = settles i _ y (rw (h.slots s b p k i e hi) (h.bytes _)) (rw (h.slots s b p k i e hi) (h.held s b p k i e hi)) ∙ h.slots s b p k i e hi
      go false y = leaves i _ y (rw (h.rest (address P b p k i) (free y)) (h.bytes _)) ∙ h.rest (address P b p k i) (free y)

  pub back_holds : Holds P n plane tags pixels back_memory picture back_book
  unfolding back_memory back_book
  back_holds = record {
    memory_length = simp length_update h.memory_length;
    picture_length = h.picture_length;
    pixels_length = h.pixels_length;
    tags_length = h.tags_length;
    stand_length = h.stand_length;
    wait_length = simp length-set h.wait_length;
    inside = h.inside;
    alone = h.alone;
    slots = h.slots;
    tagged = λ t i hi w. tags' t i hi w (ℕ_discrete t s);
    bytes = h.bytes;
    rest = λ a free. rest' a free (find 32 (address P b p k) a);
    held = λ t b' p' k' i e' hi. held' t b' p' k' i e' hi (find 32 (address P b p k) (address P b' p' k' i));
  }
    where
      tags' : (t i : ℕ) → i < 32 → Waits back_book t i → Dec (t ≡ s) → bit (get_or tags t 0) i ≡ true
      tags' t i hi w (yes q) =
          absurd (not_waiting back_book s i (get_or-set_same g.wait s 0 0 (omega (arith, stands_lt h s b p k e, h.wait_length))) (rw q at w))
      tags' t i hi w (no f) = h.tagged t i hi (rw (get_or-set_other g.wait s t 0 0 f) at w)

      before : (a : ℕ) → Free P back_book a → ¬ ((i : ℕ) × (i < 32) × (a ≡ address P b p k i)) → Free P g a
      before a free f t b' p' k' i e' hi w q = go (ℕ_discrete t s)
        where
          go : Dec (t ≡ s) → ⊥
          go (yes ts) =
              let block = at_inj (sym e' ∙ ap (stands g) ts ∙ e) in
              f (i, hi, rw (block.0, block.1, block.2) at q)
          go (no ts) = free t b' p' k' i e' hi (rw (get_or-set_other g.wait s t 0 0 ts) w) q

      rest' : (a : ℕ) → Free P back_book a → Dec ((i : ℕ) × (i < 32) × (a ≡ address P b p k i)) → get_or back_memory a 0 ≡ get_or picture a 0
      rest' a free (yes (i, hi, q)) = rw q (settled i hi)
      rest' a free (no f) = memory_other a (λ i hi q. f (i, hi, q)) ∙ h.rest a (before a free f)

      held' : (t b' p' k' i : ℕ) → stands g t ≡ at b' p' k' → i < 32 → Dec ((j : ℕ) × (j < 32) × (address P b' p' k' i ≡ address P b p k j))
          → UnderMask plane (i % 4) (get_or back_memory (address P b' p' k' i) 0) (get_or picture (address P b' p' k' i) 0)
      held' t b' p' k' i e' hi (yes (j, hj, q)) = rw (q, settled j hj) (merge_same true _ _ (h.bytes _))
      held' t b' p' k' i e' hi (no f) = rw (memory_other (address P b' p' k' i) (λ i hi q. f (i, hi, q))) (h.held t b' p' k' i e' hi)
