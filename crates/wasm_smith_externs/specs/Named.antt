-- Imports with their names, one by one.
use Rattle.std.specs.Prelude.{ℕ, ◌≤◌, Bool, ◌&&◌, List, [], ◌∷◌, length, map, bytes_eq}
use Rattle.std.specs.List.{flat_map}
use Rattle.wasm_spec.specs.Syntax.{ImportEntry, ImportItem, Import, CompactItems, CompactNames}
use Rattle.wasm_spec.specs.Types.{ExternalType}

-- an import: the name of its module, its own name, and its type
pub record Named : Type 0 where
  pub origin : List ℕ
  pub name : List ℕ
  pub type : ExternalType ℕ

abbrev pub named : List ℕ → ExternalType ℕ → List ℕ → Named
named origin type name = record { origin = origin; name = name; type = type }

abbrev pub named_item : List ℕ → ImportItem → Named
named_item origin item = named origin item.type item.name

-- the imports of an entry
abbrev pub named_by : ImportEntry → List Named
named_by (Import origin name type) = named origin type name ∷ []
named_by (CompactItems origin items) = map (named_item origin) items
named_by (CompactNames origin type names) = map (named origin type) names

-- the imports of several entries
abbrev pub all_named : List ImportEntry → List Named
all_named entries = flat_map named_by entries

abbrev pub types_of : List Named → List (ExternalType ℕ)
types_of imports = map (λ x. x.type) imports

abbrev pub have_same_names : Named → Named → Bool
have_same_names a b = bytes_eq a.origin b.origin && bytes_eq a.name b.name

abbrev pub HasPlainName : Named → Type 0
HasPlainName x = length x.name ≤ 1000

-- A name that is drawn has at most 1,000 bytes. One that has to be new may have a number at its end.
pub record IsShortlyNamed (x : Named) : Type 0 where
  pub origin : length x.origin ≤ 1000
  pub name : length x.name ≤ 1020
