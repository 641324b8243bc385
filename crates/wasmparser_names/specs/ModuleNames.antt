-- Names of modules.
use Rattle.std.specs.Prelude.{ℕ, List, [], ◌∷◌, ◌++◌, IsSome, bytes_eq, if◌then◌else◌, nat_eq}
use Rattle.std.specs.List.{AllByRecursion, list_any}
use Rattle.std.specs.Map.{lookup}
use Rattle.wasmparser_names.specs.KeptExports.{hash_of}
use Rattle.wasmparser_names.specs.declared.name_hasher.NameHasher.{NameHasher}

-- the names, and what they are hashed by
pub record Names : Type 0 where
  pub names : List (List ℕ)
  pub hasher : NameHasher

-- one name more, unless it is there
abbrev pub with_name : List (List ℕ) → List ℕ → List (List ℕ)
with_name names name = if list_any (bytes_eq name) names then names else names ++ name ∷ []

-- the hashes of all names have numbers
abbrev pub AreHashed : NameHasher → List (ℕ × ℕ) → List (List ℕ) → Type 0
AreHashed hasher numbers names = AllByRecursion (λ name. IsSome (lookup (nat_eq (hash_of hasher name)) numbers)) names
