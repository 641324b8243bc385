-- Indexes to choose from.
use Rattle.std.specs.Prelude.{ℕ, suc, Bool, List, [], ◌∷◌, if◌then◌else◌}
use Rattle.std.specs.Option.{unwrap_or}
use Rattle.wasm_smith_unstructured.specs.Draws.{choose_at}

-- the places of the things that pass a test, the first thing having this place
abbrev pub places : {A : Type 0} → (A → Bool) → ℕ → List A → List ℕ
places test place [] = []
places test place (x ∷ xs) = if test x then place ∷ places test (suc place) xs else places test (suc place) xs

-- one of these indexes, of which there is one
unfoldable pub index_at : List ℕ → List ℕ → ℕ × List ℕ
index_at indexes s = let choice = choose_at indexes s in (unwrap_or choice.0 0, choice.1)
