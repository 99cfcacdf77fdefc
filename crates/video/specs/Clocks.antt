-- 02, T-01: counter and select gone on, in the block. Assumes nothing.
use Rattle.std.specs.Prelude.{cond, List, ℕ, ◌+◌, ◌-◌, eqb}
use Rattle.lists.specs.Words.{put_half}
use Rattle.chip.specs.declared.Scan.{Scan}
use Rattle.block.specs.Block.{scan_at, select_at}

-- the pair at counter 39 is followed by counter 0 and the other select
unfoldable pub counted_in : Scan → List ℕ → List ℕ
counted_in v s = cond (eqb v.counter 39) (put_half select_at (1 - v.select) (put_half scan_at 0 s)) (put_half scan_at (v.counter + 1) s)
