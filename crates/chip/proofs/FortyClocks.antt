-- Forty video clocks from counter 0, by how many are left: each puts out the next two bytes, and the last one wraps. Assumes nothing.
use Rattle.std.proofs.Common.{◌≡◌, ℕ, zero, suc, ◌+◌, ◌-◌, ◌*◌, ◌≤◌, true, List, [], ◌∷◌, length, get_or, take, drop, sym, refl, ap, ◌∙◌, arith, drop-cons, eq-eqb}
use Rattle.bits.specs.Bits.{byte}
use Rattle.lists.proofs.Rows.{byte_half_0, byte_half_1}
use Rattle.lists.specs.Words.{Bytes}
use Rattle.layout.specs.Memory.{size}
use Rattle.numbers.specs.Numbers.{first}
use Rattle.bank.specs.Work.{in_buffer}
use Rattle.chip.specs.declared.Call.{Call}
use Rattle.chip.specs.declared.Scan.{Scan}
use Rattle.chip.specs.declared.Chip.{Chip}
use Rattle.chip.specs.Video.{video_bytes, video_byte, put_out, clocked}
use Rattle.chip.specs.State.{slots, well_formed}
use Rattle.chip.specs.Operations.{is_operation, call_table, row, operation, ask, video_clock, in_range}
use Rattle.chip.specs.Changes.{with_scan, ticked}
use Rattle.chip.specs.Effects.{nothing_read, reading, effect, pixels_after, video_after, memory_after}
use Rattle.chip.specs.Answers.{done_with}
use Rattle.chip.specs.Refusals.{operands_fit, asks, call_tests, number}
use Rattle.chip.specs.Calls.{read_in, given_with, chip_with, memory_with, call_given, chip_of, memory_of, given_each}
use Rattle.chip.specs.Clocks.{clocks, bytes_out, chip_each, FortyClocks}
use Rattle.chip.proofs.Accepted.{scan_fits_lem}
use Rattle.chip.proofs.Clocks.{clocked_on, clocked_wraps}
use Rattle.chip.proofs.Stays.{stays_well_formed}

-- the chip after one clock
abbrev after : Chip → Chip
after chip = record { control = ticked (with_scan chip.control (clocked chip.control.scan)); pixels = chip.pixels; video = chip.video }

-- byte n of what it puts out
abbrev out_of : Chip → ℕ → ℕ
out_of chip n = byte (put_out chip.control.scan (video_byte chip.video)) n

-- ---- one clock on a well formed chip is done

module _ (chip : Chip) (memory : List ℕ) (well : well_formed chip.control ≡ true) (sized : length memory ≡ size chip.control.pages) where
  done : (n : ℕ) → number n chip.control (length memory) (ask 17 0 0 0 0 0) ≡ 0
  unfolding number first call_tests operands_fit is_operation row call_table operation asks in_range
  done n = rw (well, eq-eqb _ _ sized)

  -- and puts out two bytes of the selected buffer
  pub clock_gives : (n : ℕ) → given_with n chip memory (ask 17 0 0 0 0 0) ≡ done_with (put_out chip.control.scan (video_byte chip.video)) 0 0
  unfolding given_with read_in reading effect operation row call_table
  clock_gives n = rw (done n)

  leaves : chip_of chip memory (ask 17 0 0 0 0 0) ≡ after chip
  unfolding chip_of chip_with read_in effect operation row call_table pixels_after video_after
  leaves = rw (done slots)

  keeps : memory_of chip memory (ask 17 0 0 0 0 0) ≡ memory
  unfolding memory_of memory_with read_in effect operation row call_table memory_after
  keeps = rw (done slots)

  -- and then come the others
  then_out : (xs : List Call) → bytes_out (given_each chip memory (ask 17 0 0 0 0 0 ∷ xs)) ≡ out_of chip 0 ∷ out_of chip 1 ∷ bytes_out (given_each (after chip) memory xs)
  unfolding bytes_out given_each call_given
  then_out xs = rw (clock_gives slots, leaves, keeps)

  then_chip : (xs : List Call) → chip_each chip memory (ask 17 0 0 0 0 0 ∷ xs) ≡ chip_each (after chip) memory xs
  unfolding chip_each
  then_chip xs = rw (leaves, keeps)

  stays : well_formed (after chip).control ≡ true
  unfolding effect in_range asks first
  stays = stays_well_formed slots chip.control video_clock nothing_read well refl refl

-- ---- so many clocks

-- where the next pair of bytes stands
abbrev next : Scan → ℕ
next v = 80 * v.select + 2 * v.counter

-- what is put out are the next two bytes
pair : (v : Scan) (video : List ℕ) → Bytes video → length video ≡ video_bytes → v.counter ≤ 39 → v.select ≤ 1
    → drop (next v) video ≡ byte (put_out v (video_byte video)) 0 ∷ byte (put_out v (video_byte video)) 1 ∷ drop (next v + 2) video
unfolding put_out video_byte in_buffer
pair v video bytes long hc hs =
    let p = next v in
    let first : v.select * 80 + 2 * v.counter ≡ p = omega arith in
    let second : v.select * 80 + (2 * v.counter + 1) ≡ suc p = omega arith in
    let third : p + 2 ≡ suc (suc p) = omega arith in
    rw (first, second, third, byte_half_0 (get_or video p 0) (get_or video (suc p) 0) (bytes p), byte_half_1 (get_or video p 0) (get_or video (suc p) 0) (bytes p) (bytes (suc p)))
    (drop-cons video p 0 (omega arith) ∙ ap (λ (l : List ℕ). get_or video p 0 ∷ l) (drop-cons video (suc p) 0 (omega arith)))

two : (m : ℕ) (chip : Chip) → Bytes chip.video → length chip.video ≡ video_bytes → (chip.control.scan.counter ≤ 39) × (chip.control.scan.select ≤ 1)
    → take (2 * suc m) (drop (next chip.control.scan) chip.video) ≡ out_of chip 0 ∷ out_of chip 1 ∷ take (2 * m) (drop (next chip.control.scan + 2) chip.video)
two m chip bytes long range =
    let more : 2 * suc m ≡ suc (suc (2 * m)) = omega arith in
    ap (take (2 * suc m)) (pair chip.control.scan chip.video bytes long range.0 range.1) ∙ rw more

module _ (memory : List ℕ) where
  -- so many clocks up to the wrap, by how many are left
  run : (m : ℕ) (chip : Chip) → Bytes chip.video → length chip.video ≡ video_bytes → well_formed chip.control ≡ true
      → length memory ≡ size chip.control.pages → chip.control.scan.counter + suc m ≡ 40
      → (bytes_out (given_each chip memory (clocks (suc m))) ≡ take (2 * suc m) (drop (next chip.control.scan) chip.video))
      × ((chip_each chip memory (clocks (suc m))).control.scan ≡ record { counter = 0; select = 1 - chip.control.scan.select })
  unfolding ticked bytes_out given_each chip_each
  run zero chip bytes long well sized left =
      let range = scan_fits_lem chip.control well in (
        then_out chip memory well sized [] ∙ sym (two 0 chip bytes long range),
        ap (λ (k : Chip). k.control.scan) (then_chip chip memory well sized []) ∙ clocked_wraps chip.control.scan (omega arith),
      )
  run (suc m) chip bytes long well sized left =
      let v = chip.control.scan in
      let range = scan_fits_lem chip.control well in
      let on : clocked v ≡ record { counter = v.counter + 1; select = v.select } = clocked_on v (omega arith) in
      let two_on : 80 * v.select + 2 * (v.counter + 1) ≡ next v + 2 = omega arith in
      let rest = run m (after chip) bytes long (stays chip memory well sized) sized (ap (λ (w : Scan). w.counter + suc m) on ∙ omega arith) in (
        then_out chip memory well sized (clocks (suc m))
            ∙ ap (λ (l : List ℕ). out_of chip 0 ∷ out_of chip 1 ∷ l)
            (rest.0 ∙ ap (λ (w : Scan). take (2 * suc m) (drop (next w) chip.video)) on ∙ ap (λ (k : ℕ). take (2 * suc m) (drop k chip.video)) two_on)
            ∙ sym (two (suc m) chip bytes long range),
        ap (λ (k : Chip). k.control.scan) (then_chip chip memory well sized (clocks (suc m))) ∙ rest.1
            ∙ ap (λ (w : Scan). record { counter = 0; select = 1 - w.select }) on,
      )

pub forty_clocks : FortyClocks
unfolding FortyClocks
forty_clocks chip memory well sized bytes long start =
    let all = run memory 39 chip bytes long well sized (omega arith) in
    let from : next chip.control.scan ≡ 80 * chip.control.scan.select = omega arith in
    (all.0 ∙ ap (λ (k : ℕ). take 80 (drop k chip.video)) from, all.1)
