-- 01, Chip state: the registers by number, their names and fresh values. Assumes nothing.
use Rattle.std.specs.Prelude.{List, [], ◌∷◌, ℕ, ◌-◌, get_or}

-- 01, Chip state: registers, by number
unfoldable pub register : List ℕ → ℕ → ℕ
register registers number = get_or registers (number - 1) 0

-- 01, Chip state, table: n and register
abbrev pub plane_mask : List ℕ → ℕ
plane_mask registers = register registers 1

abbrev pub constant_source : List ℕ → ℕ
constant_source registers = register registers 2

abbrev pub match_mask : List ℕ → ℕ
match_mask registers = register registers 3

abbrev pub magnitude_mask : List ℕ → ℕ
magnitude_mask registers = register registers 4

abbrev pub rop_control : List ℕ → ℕ
rop_control registers = register registers 5

abbrev pub compare_control : List ℕ → ℕ
compare_control registers = register registers 6

abbrev pub write_address_control : List ℕ → ℕ
write_address_control registers = register registers 7

-- 01, Chip state, table: fresh
unfoldable pub fresh_registers : List ℕ
fresh_registers = 0xffff_ffff ∷ 0 ∷ 0 ∷ 0 ∷ 0x0303_0303 ∷ 0 ∷ 0 ∷ []
