-- What a well formed block says: its length, P, and that an open page is below P. Assumes nothing.
use mathlib.Core.Path.{◌≡◌}
use mathlib.Core.Bool.{true, false}
use mathlib.Core.List.{List}
use Prim.Native.Nat.{ℕ, ◌<◌, ◌≤◌}
use lib.Dec.{eqb}
use Rattle.chip.specs.State.{closed, open_page, is_closed, well_formed}
use Rattle.chip.proofs.Accepted.{pages_fit_lem, open_below}
use Rattle.block.specs.Block.{IsBlock, decode_control, well_formed_block}
use Rattle.block.proofs.RoundTrip.{well_parts}

module _ (s : List ℕ) (well : well_formed_block s ≡ true) where
  pub well_long : IsBlock s
  well_long = (well_parts s well).0

  pub well_control : well_formed (decode_control s) ≡ true
  well_control = (well_parts s well).3

  pub pages_in : (1 ≤ (decode_control s).pages) × ((decode_control s).pages ≤ 257)
  pages_in = pages_fit_lem (decode_control s) well_control

  -- an open page is below P
  pub page_below : (b : ℕ) → b < 4 → eqb (open_page (decode_control s).banks b) 65535 ≡ false → open_page (decode_control s).banks b < (decode_control s).pages
  page_below b hb e = open_below (decode_control s) well_control b hb (unfold is_closed closed in e)
