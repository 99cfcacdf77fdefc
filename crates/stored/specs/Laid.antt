-- Lists stored one behind the other over a list: how a chip's parts are stored. Assumes nothing.
use Rattle.std.specs.Prelude.{List, [], ◌∷◌, ℕ, ◌+◌, length}
use Rattle.std.proofs.lemmas.List.Edits.{sets}

-- from place p on, each where the one before it ends
unfoldable pub laid : List (List ℕ) → ℕ → List ℕ → List ℕ
laid [] p s = s
laid (l ∷ ls) p s = laid ls (p + length l) (sets s p l)
