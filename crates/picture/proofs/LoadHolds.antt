-- A load keeps `Holds`: of a block that no other slot stands for, into a slot of which no byte waits. By cases: this slot, or another that stands as
-- it stood. Assumes nothing.
use mathlib.Core.Path.{◌≡◌, sym, ◌∙◌}
use mathlib.Core.Logic.{◌≢◌, ◌⊎◌, inl, inr}
use mathlib.Core.Bool.{true}
use mathlib.Core.List.{List}
use Prim.Native.Nat.{ℕ, ◌+◌, ◌*◌, ◌%◌, ◌<◌}
use native.Mathlib.Omega.{arith}
use native.Mathlib.Decide.{ℕ_discrete}
use lib.ListN.{get_or, set, length-set}
use lib.Seq.{get_or-set_same, get_or-set_other}
use Rattle.bits.specs.Bits.{bit}
use Rattle.bits.proofs.Merges.{merge_same}
use Rattle.layout.specs.Memory.{address}
use Rattle.layout.proofs.Places.{address_inj}
use Rattle.lists.specs.Update.{update}
use Rattle.lists.proofs.Updates.{length_update, update_other, update_same}
use Rattle.picture.specs.Book.{none, at, Book, stands, Waits}
use Rattle.picture.proofs.Holds.{at_inj, not_waiting, Free, UnderMask, Holds}

module _ {P n plane : ℕ} {tags pixels memory picture : List ℕ} {g : Book} (h : Holds P n plane tags pixels memory picture g)
    (s b p k : ℕ) (hs : s < n) (hb : b < 4) (hp : p < P) (hk : k < 40)
    (idle : get_or g.wait s 0 ≡ 0) (apart : (t : ℕ) → t ≢ s → stands g t ≢ at b p k) where
  unfoldable pub load_tags : List ℕ
  load_tags = set tags s 0

  unfoldable pub load_pixels : List ℕ
  load_pixels = update 32 (λ i. s * 32 + i) (λ i was. get_or memory (address P b p k i) 0) pixels

  unfoldable pub load_book : Book
  load_book = record { stand = set g.stand s (at b p k); wait = g.wait }

  -- the slot itself, or another that stands as it stood
  abbrev Which : ℕ → ℕ → ℕ → ℕ → Type 0
  Which t b' p' k' = ((t ≡ s) × (b' ≡ b) × (p' ≡ p) × (k' ≡ k)) ⊎ ((t ≢ s) × (stands g t ≡ at b' p' k'))

  which : (t b' p' k' : ℕ) → stands load_book t ≡ at b' p' k' → Which t b' p' k'
  unfolding load_book
  which t b' p' k' e = go (ℕ_discrete t s)
    where
      go : Dec (t ≡ s) → Which t b' p' k'
      go (yes q) =
          let block = at_inj (sym (rw q at e) ∙ get_or-set_same g.stand s (at b p k) none (omega (arith, h.stand_length))) in
          inl (q, block.0, block.1, block.2)
      go (no f) = inr (f, sym (get_or-set_other g.stand s t (at b p k) none f) ∙ e)

  -- nothing waits for the block
  fresh_block_lem : (i : ℕ) → i < 32 → get_or memory (address P b p k i) 0 ≡ get_or picture (address P b p k i) 0
  fresh_block_lem i hi = h.rest (address P b p k i) go
    where
      go : Free P g (address P b p k i)
      go t b' p' k' i' e' hi' w q =
          let u = h.inside t b' p' k' e' in
          let r = address_inj P b p k i b' p' k' i' hp hk hi u.1 u.2 hi' q in
          let e : stands g t ≡ at b p k = rw (r.0, r.1, r.2) e' in
          slot t (ℕ_discrete t s) e w
        where
          slot : (t : ℕ) → Dec (t ≡ s) → stands g t ≡ at b p k → Waits g t i' → ⊥
          slot t (yes q) e w = not_waiting g s i' idle (rw q at w)
          slot t (no f) e w = apart t f e

  pub load_holds : Holds P n plane load_tags load_pixels memory picture load_book
  unfolding load_tags load_pixels load_book
  load_holds = record {
    memory_length = h.memory_length;
    picture_length = h.picture_length;
    pixels_length = simp length_update h.pixels_length;
    tags_length = simp length-set h.tags_length;
    stand_length = simp length-set h.stand_length;
    wait_length = h.wait_length;
    inside = λ t b' p' k' e. in_range_lem t b' p' k' (which t b' p' k' e);
    alone = λ t u b' p' k' e e'. one t u b' p' k' (which t b' p' k' e) (which u b' p' k' e');
    slots = λ t b' p' k' i e hi. bytes' t b' p' k' i hi (which t b' p' k' e);
    tagged = λ t i hi w. tags' t i hi w (ℕ_discrete t s);
    bytes = h.bytes;
    rest = λ a free. h.rest a (λ t b' p' k' i e hi w. free t b' p' k' i (still t b' p' k' i e w (ℕ_discrete t s)) hi w);
    held = λ t b' p' k' i e hi. held' t b' p' k' i hi (which t b' p' k' e);
  }
    where
      in_range_lem : (t b' p' k' : ℕ) → Which t b' p' k' → (b' < 4) × (p' < P) × (k' < 40)
      in_range_lem t b' p' k' (inl (q, bb, pp, kk)) = (rw bb hb, rw pp hp, rw kk hk)
      in_range_lem t b' p' k' (inr (f, e)) = h.inside t b' p' k' e

      one : (t u b' p' k' : ℕ) → Which t b' p' k' → Which u b' p' k' → t ≡ u
      one t u b' p' k' (inl x) (inl y) = x.0 ∙ sym y.0
      one t u b' p' k' (inl (q, bb, pp, kk)) (inr (f, e)) = absurd (apart u f (rw (← bb, ← pp, ← kk) e))
      one t u b' p' k' (inr (f, e)) (inl (q, bb, pp, kk)) = absurd (apart t f (rw (← bb, ← pp, ← kk) e))
      one t u b' p' k' (inr (f, e)) (inr (f', e')) = h.alone t u b' p' k' e e'

      bytes' : (t b' p' k' i : ℕ) → i < 32 → Which t b' p' k' → get_or load_pixels (t * 32 + i) 0 ≡ get_or picture (address P b' p' k' i) 0
      bytes' t b' p' k' i hi (inl (q, bb, pp, kk)) = rw (q, bb, pp, kk)
          (update_same 32 (λ i. s * 32 + i) (λ i was. get_or memory (address P b p k i) 0) pixels (λ i j hi hj q. omega arith)
          (λ j hj. omega (arith, h.pixels_length)) i hi
          ∙ fresh_block_lem i hi)
      bytes' t b' p' k' i hi (inr (f, e)) =
          update_other 32 (λ i. s * 32 + i) (λ i was. get_or memory (address P b p k i) 0) pixels (t * 32 + i) (λ j hj q. f (omega arith))
          ∙ h.slots t b' p' k' i e hi

      tags' : (t i : ℕ) → i < 32 → Waits g t i → Dec (t ≡ s) → bit (get_or load_tags t 0) i ≡ true
      tags' t i hi w (yes q) = absurd (not_waiting g s i idle (rw q at w))
      tags' t i hi w (no f) = rw (get_or-set_other tags s t 0 0 f) (h.tagged t i hi w)

      still : (t b' p' k' i : ℕ) → stands g t ≡ at b' p' k' → Waits g t i → Dec (t ≡ s) → stands load_book t ≡ at b' p' k'
      still t b' p' k' i e w (yes q) = absurd (not_waiting g s i idle (rw q at w))
      still t b' p' k' i e w (no f) = get_or-set_other g.stand s t (at b p k) none f ∙ e

      held' : (t b' p' k' i : ℕ) → i < 32 → Which t b' p' k'
          → UnderMask plane (i % 4) (get_or memory (address P b' p' k' i) 0) (get_or picture (address P b' p' k' i) 0)
      held' t b' p' k' i hi (inl (q, bb, pp, kk)) = rw (bb, pp, kk, fresh_block_lem i hi) (merge_same true _ _ (h.bytes _))
      held' t b' p' k' i hi (inr (f, e)) = h.held t b' p' k' i e hi
