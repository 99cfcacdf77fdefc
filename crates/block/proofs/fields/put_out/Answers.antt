-- `block::fields::put_out`: a half word of the video buffers, which start at 348. Assumes nothing.
use Rattle.std.proofs.Common.{◌≡◌, ℕ, ◌+◌, ◌*◌, ◌^◌, ◌<◌, ◌≤◌, List, get_or, drop, sym, ap, ◌∙◌, ap₂, arith, get_or-drop, get_or-take, rules}
use Rattle.lists.specs.Words.{half_at}
use Rattle.bank.specs.Work.{in_buffer}
use Rattle.chip.specs.Video.{video_byte, put_out}
use Rattle.block.specs.Block.{video_in}
use Rattle.block.proofs.fields.put_out.Goals as goal

-- byte j of a buffer, at its place in the block
video_byte_lem : (s : List ℕ) (buffer j at : ℕ) → buffer ≤ 1 → j < 80 → at ≡ 348 + (80 * buffer + j) → get_or s at 0 ≡ video_byte (video_in s) buffer j
unfolding video_byte video_in in_buffer
video_byte_lem s buffer j at hb hj e =
    ap (λ (k : ℕ). get_or s k 0) (omega arith)
    ∙ sym (get_or-take 160 (drop 348 s) (buffer * 80 + j) 0 (omega arith) ∙ get_or-drop 348 s (buffer * 80 + j) 0)

pub returns : goal.returns
unfolding put_out half_at
returns c =
    let a = c.args in
    c.get.ensures
    ∙ ap₂ (λ (low high : ℕ). low + high * 2 ^ 8) (video_byte_lem a.s.now a.scan.select (2 * a.scan.counter) _ (search rules) (omega arith) (omega arith))
    (video_byte_lem a.s.now a.scan.select (2 * a.scan.counter + 1) _ (search rules) (omega arith) (omega arith))
