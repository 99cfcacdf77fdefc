-- The parts of a chip stored one behind the other are its block. Assumes nothing.
use mathlib.Core.Path.{◌≡◌, refl, sym, ap, ap₂, ◌∙◌}
use mathlib.Core.List.{List, [], ◌∷◌, ◌++◌, flatten, append_assoc, append-nil}
use Prim.Native.Nat.{ℕ, ◌+◌, ◌*◌, ◌≤◌}
use native.Mathlib.Nat.{zero-add, add_assoc}
use lib.ListN.{length, take, drop, length-append}
use lib.Dec.{lit<}
use lib.Seq.{sets, sets-eq, drop-drop}
use borrow.Rule.Slice.PartMut.{put_mid}
use Rattle.lists.specs.Words.{halves, words}
use Rattle.lists.proofs.Seams.{start_long}
use Rattle.lists.specs.Laws.{length_row}
use Rattle.lists.proofs.RowStores.{sets_more, sets_whole}
use Rattle.chip.specs.declared.Control.{Control}
use Rattle.chip.specs.declared.Chip.{Chip}
use Rattle.block.specs.Block.{banks_at, registers_at, flags_at, tags_at, pixels_at, video_at, scan_at, IsBlock, header, flags, control_parts, parts, encode}
use Rattle.block.specs.Kept.{Sized}
use Rattle.block.proofs.Parts.{scan_row, starts, length_encode}
use Rattle.stored.specs.Laid.{laid}

laid_from : (ls : List (List ℕ)) (p : ℕ) (a s : List ℕ) → laid ls (p + length a) (sets s p a) ≡ sets s p (a ++ flatten ls)
unfolding laid flatten
laid_from [] p a s = ap (sets s p) (sym (append-nil a))
laid_from (l ∷ ls) p a s =
    ap₂ (laid ls) (add_assoc p (length a) (length l) ∙ ap (λ (n : ℕ). p + n) (sym (length-append a l))) (sets_more a l s p (length a) refl)
    ∙ laid_from ls p (a ++ l) s ∙ ap (sets s p) (append_assoc a l (flatten ls))

-- those before the pixels; f is the flags' word
pub control_stored : (c : Control) (f : ℕ) (s : List ℕ) {s₁ s₂ s₃ s₄ s₅ : List ℕ}
    → length c.banks ≡ 4 → length c.registers ≡ 7 → f ≡ flags c
    → s₁ ≡ sets s 0 (halves (header c.pages)) → s₂ ≡ sets s₁ banks_at (halves c.banks) → s₃ ≡ sets s₂ registers_at (words c.registers)
    → s₄ ≡ sets s₃ flags_at (words (f ∷ c.counter ∷ [])) → s₅ ≡ sets s₄ tags_at (words c.tags) → s₅ ≡ laid (control_parts c) 0 s
unfolding control_parts laid header
control_stored c f s banks registers e e₁ e₂ e₃ e₄ e₅ =
    let h = length_row 2 (header c.pages) in
    let b = length_row 2 c.banks ∙ ap (λ (n : ℕ). 2 * n) banks in
    let r = length_row 4 c.registers ∙ ap (λ (n : ℕ). 4 * n) registers in
    let g = length_row 4 (flags c ∷ c.counter ∷ []) in
    rw (e₅, e₄, e₃, e₂, e₁, e, h, b, r, g)

-- lists behind others
flatten_append : (ls ms : List (List ℕ)) → flatten (ls ++ ms) ≡ flatten ls ++ flatten ms
unfolding flatten
flatten_append [] ms = refl
flatten_append (l ∷ ls) ms = rw (flatten_append ls ms) (sym (append_assoc l (flatten ls) (flatten ms)))

-- and those from the pixels on behind them
pub chip_stored : (chip : Chip) (s : List ℕ) {s₁ s₂ s₃ s₄ : List ℕ} → Sized chip → IsBlock s
    → s₁ ≡ laid (control_parts chip.control) 0 s → s₂ ≡ sets s₁ pixels_at chip.pixels → s₃ ≡ sets s₂ video_at chip.video
    → s₄ ≡ sets s₃ scan_at (halves (scan_row chip.control)) → s₄ ≡ encode chip
unfolding encode parts
chip_stored chip s {s₁} z e e₁ e₂ e₃ e₄ =
    let before = control_parts chip.control in
    let scan = halves (scan_row chip.control) in
    let behind = chip.pixels ∷ chip.video ∷ scan ∷ [] in
    let long : length (flatten before) ≡ pixels_at = unfold parts control_parts in (start_long 5 (parts chip) (lit< tt) ∙ (starts chip z).4) in
    let three : sets (sets (sets s₁ pixels_at chip.pixels) video_at chip.video) scan_at scan ≡ laid behind pixels_at s₁ = unfold laid in rw (z.pixels_long, z.video_long) in
    rw (e₄, e₃, e₂) three
    ∙ ap (laid behind pixels_at) (e₁ ∙ laid_from before 0 [] s)
    ∙ (rw (zero-add, long) at (laid_from behind 0 (flatten before) s))
    ∙ ap (sets s 0) (sym (flatten_append before behind))
    ∙ sets_whole (encode chip) s (length_encode chip z ∙ sym e)
