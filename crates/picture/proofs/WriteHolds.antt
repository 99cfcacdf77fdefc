-- A data write keeps `Holds`: bytes of one word of a standing slot, in the pixels and in the picture, by a rule that leaves the bytes that are not
-- taken and keeps the bits outside the plane mask. Assumes nothing.
use mathlib.Core.Path.{◌≡◌, refl, sym, ap, ◌∙◌}
use mathlib.Core.Logic.{◌≢◌}
use mathlib.Core.Bool.{Bool, true, false}
use mathlib.Core.List.{List}
use Prim.Native.Nat.{ℕ, ◌+◌, ◌*◌, ◌%◌, ◌^◌, ◌<◌}
use native.Mathlib.Omega.{arith}
use native.Mathlib.Decide.{ℕ_discrete}
use lib.ListN.{get_or, set, length-set}
use lib.Seq.{get_or-set_same, get_or-set_other}
use Rattle.bits.specs.Bits.{bit}
use Rattle.layout.specs.Memory.{address}
use Rattle.lists.specs.Update.{update}
use Rattle.lists.proofs.Updates.{length_update, update_other, update_same, update_all, find}
use Rattle.chip.specs.Painting.{marked}
use Rattle.chip.proofs.Tags.{marked_stays, marked_new, marked_more}
use Rattle.picture.specs.Book.{at, Book, stands, Waits}
use Rattle.picture.proofs.Holds.{at_inj, Free, UnderMask, Holds, same_byte, stands_lt, at_lt}

module _ {P n plane : ℕ} {tags pixels memory picture : List ℕ} {g : Book} (h : Holds P n plane tags pixels memory picture g)
    (t b p k word bits : ℕ) (new : ℕ → ℕ → ℕ) (e : stands g t ≡ at b p k) (hw : word < 8)
    (skips : (j x : ℕ) → bit bits j ≡ false → x < 2 ^ 8 → new j x ≡ x)
    (fits : (j x : ℕ) → new j x < 2 ^ 8)
    (keeps : (j m x : ℕ) → UnderMask plane j m x → UnderMask plane j m (new j x)) where
  -- where the word's byte j lies, in the pixels and in the picture
  abbrev in_pixels : ℕ → ℕ
  in_pixels j = t * 32 + (4 * word + j)

  abbrev in_picture : ℕ → ℕ
  in_picture j = address P b p k (4 * word + j)

  unfoldable pub write_tags : List ℕ
  write_tags = set tags t (marked (get_or tags t 0) word bits)

  unfoldable pub write_pixels : List ℕ
  write_pixels = update 4 in_pixels new pixels

  unfoldable pub write_picture : List ℕ
  write_picture = update 4 in_picture new picture

  unfoldable pub write_book : Book
  write_book = record { stand = g.stand; wait = set g.wait t (marked (get_or g.wait t 0) word bits) }

  in_word : (j : ℕ) → j < 4 → 4 * word + j < 32
  in_word j hj = omega arith

  pixels_same : (j : ℕ) → j < 4 → get_or write_pixels (in_pixels j) 0 ≡ new j (get_or pixels (in_pixels j) 0)
  unfolding write_pixels
  pixels_same = update_same 4 in_pixels new pixels (λ i j hi hj q. omega arith)
      (λ j hj. omega (arith, stands_lt h t b p k e, h.pixels_length))

  picture_same : (j : ℕ) → j < 4 → get_or write_picture (in_picture j) 0 ≡ new j (get_or picture (in_picture j) 0)
  unfolding write_picture
  picture_same = update_same 4 in_picture new picture
      (λ i j hi hj q. let r = same_byte h t b p k (4 * word + i) t b p k (4 * word + j) e e (in_word i hi) (in_word j hj) q in omega (arith, r.1))
      (λ j hj. rw h.picture_length (at_lt h t b p k (4 * word + j) e (in_word j hj)))

  wait_same : get_or write_book.wait t 0 ≡ marked (get_or g.wait t 0) word bits
  unfolding write_book
  wait_same = get_or-set_same g.wait t _ 0 (omega (arith, stands_lt h t b p k e, h.wait_length))

  wait_other : (s : ℕ) → s ≢ t → get_or write_book.wait s 0 ≡ get_or g.wait s 0
  unfolding write_book
  wait_other s f = get_or-set_other g.wait t s _ 0 f

  wait_grows : (s i : ℕ) → i < 32 → Waits g s i → Waits write_book s i
  wait_grows s i hi w = go (ℕ_discrete s t)
    where
      go : Dec (s ≡ t) → Waits write_book s i
      go (yes q) = rw (q, wait_same) (marked_stays (get_or g.wait t 0) word bits i hi (rw q at w))
      go (no f) = rw (wait_other s f) w

  wait_new : (j : ℕ) → j < 4 → bit bits j ≡ true → Waits write_book t (4 * word + j)
  wait_new j hj q = rw wait_same (marked_new (get_or g.wait t 0) word bits j hw hj q)

  write_tagged : (s i : ℕ) → i < 32 → Waits write_book s i → bit (get_or write_tags s 0) i ≡ true
  unfolding write_tags
  write_tagged s i hi w = go (ℕ_discrete s t)
    where
      go : Dec (s ≡ t) → bit (get_or (set tags t (marked (get_or tags t 0) word bits)) s 0) i ≡ true
      go (yes q) =
          rw (q, get_or-set_same tags t _ 0 (omega (arith, stands_lt h t b p k e, h.tags_length)))
          (marked_more (get_or g.wait t 0) (get_or tags t 0) word bits i hi (h.tagged t i hi) (rw (q, wait_same) at w))
      go (no f) = rw (get_or-set_other tags t s _ 0 f) (h.tagged s i hi (rw (wait_other s f) at w))

  write_slots : (s b' p' k' i : ℕ) → stands g s ≡ at b' p' k' → i < 32
      → get_or write_pixels (s * 32 + i) 0 ≡ get_or write_picture (address P b' p' k' i) 0
  unfolding write_pixels write_picture
  write_slots s b' p' k' i e' hi = go (find 4 in_pixels (s * 32 + i))
    where
      go : Dec ((j : ℕ) × (j < 4) × (s * 32 + i ≡ in_pixels j))
          → get_or write_pixels (s * 32 + i) 0 ≡ get_or write_picture (address P b' p' k' i) 0
      go (yes (j, hj, q)) =
          let st : s ≡ t = omega arith in
          let ij : i ≡ 4 * word + j = omega arith in
          let block = at_inj (sym e' ∙ ap (stands g) st ∙ e) in
          rw (q, block.0, block.1, block.2, ij) (pixels_same j hj ∙ ap (new j) (h.slots t b p k (4 * word + j) e (in_word j hj)) ∙ sym (picture_same j hj))
      go (no f) =
          update_other 4 in_pixels new pixels (s * 32 + i) (λ j hj q. f (j, hj, q))
          ∙ h.slots s b' p' k' i e' hi
          ∙ sym (update_other 4 in_picture new picture (address P b' p' k' i)
          (λ j hj q. let r = same_byte h s b' p' k' i t b p k (4 * word + j) e' e hi (in_word j hj) q in f (j, hj, omega (arith, r.0, r.1))))

  write_rest : (a : ℕ) → Free P write_book a → get_or memory a 0 ≡ get_or write_picture a 0
  unfolding write_picture write_book
  write_rest a free = go (find 4 in_picture a)
    where
      before : get_or memory a 0 ≡ get_or picture a 0
      before = h.rest a (λ s b' p' k' i e' hi w. free s b' p' k' i e' hi (wait_grows s i hi w))

      byte : (j : ℕ) → j < 4 → a ≡ in_picture j → (x : Bool) → bit bits j ≡ x → get_or memory a 0 ≡ get_or write_picture a 0
      byte j hj q true y = absurd (free t b p k (4 * word + j) e (in_word j hj) (wait_new j hj y) q)
      byte j hj q false y = before ∙ rw q (sym (picture_same j hj ∙ skips j _ y (h.bytes _)))

      go : Dec ((j : ℕ) × (j < 4) × (a ≡ in_picture j)) → get_or memory a 0 ≡ get_or write_picture a 0
      go (yes (j, hj, q)) = byte j hj q (bit bits j) refl
      go (no f) = before ∙ sym (update_other 4 in_picture new picture a (λ j hj q. f (j, hj, q)))

  write_held : (s b' p' k' i : ℕ) → stands g s ≡ at b' p' k' → i < 32
      → UnderMask plane (i % 4) (get_or memory (address P b' p' k' i) 0) (get_or write_picture (address P b' p' k' i) 0)
  unfolding write_picture
  write_held s b' p' k' i e' hi = go (find 4 in_picture (address P b' p' k' i))
    where
      go : Dec ((j : ℕ) × (j < 4) × (address P b' p' k' i ≡ in_picture j))
          → UnderMask plane (i % 4) (get_or memory (address P b' p' k' i) 0) (get_or write_picture (address P b' p' k' i) 0)
      go (yes (j, hj, q)) =
          let r = same_byte h s b' p' k' i t b p k (4 * word + j) e' e hi (in_word j hj) q in
          let ij : i % 4 ≡ j = omega (arith, r.1) in
          rw (ij, q, picture_same j hj) (keeps j _ _ (rw (ij, q) at (h.held s b' p' k' i e' hi)))
      go (no f) =
          rw (update_other 4 in_picture new picture (address P b' p' k' i) (λ j hj q. f (j, hj, q)))
          (h.held s b' p' k' i e' hi)

  pub write_holds : Holds P n plane write_tags write_pixels memory write_picture write_book
  unfolding write_tags write_pixels write_picture write_book
  write_holds = record {
    memory_length = h.memory_length;
    picture_length = simp length_update h.picture_length;
    pixels_length = simp length_update h.pixels_length;
    tags_length = simp length-set h.tags_length;
    stand_length = h.stand_length;
    wait_length = simp length-set h.wait_length;
    inside = h.inside;
    alone = h.alone;
    slots = write_slots;
    tagged = write_tagged;
    bytes = update_all (λ x. x < 2 ^ 8) 4 in_picture new picture (λ j x hj q. fits j x) h.bytes;
    rest = write_rest;
    held = write_held;
  }
