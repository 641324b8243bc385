-- The imports of a module from the entries of a shape: which entries are taken, and how each is written.
use Rattle.std.specs.Prelude.{ℕ, Bool, true, List, [], ◌∷◌, ◌++◌, length, map, nat_lt, if◌then◌else◌}
use Rattle.std.specs.List.{flat_map}
use Rattle.wasm_spec.specs.Syntax.{ImportEntry, ImportItem, Import, CompactItems, CompactNames, imported_by}
use Rattle.wasm_spec.specs.TypeReferences.{external_map}
use Rattle.wasm_smith_unstructured.specs.Draws.{bool_at}
use Rattle.wasm_smith_externs.specs.Named.{Named, named_by}

-- ---- references to types moved

abbrev pub import_map : (ℕ → ℕ) → ImportItem → ImportItem
import_map f item = record { name = item.name; type = external_map f item.type }

-- an entry with the references to types of its items moved
abbrev pub entry_map : (ℕ → ℕ) → ImportEntry → ImportEntry
entry_map f (Import origin name type) = Import origin name (external_map f type)
entry_map f (CompactItems origin items) = CompactItems origin (map (import_map f) items)
entry_map f (CompactNames origin type names) = CompactNames origin (external_map f type) names

-- an import with its name, the references to types of its type moved
abbrev pub named_map : (ℕ → ℕ) → Named → Named
named_map f x = record { origin = x.origin; name = x.name; type = external_map f x.type }

-- ---- entries that are taken

-- what says that an entry is taken: a bool where one is drawn
abbrev pub takes_at : Bool → List ℕ → Bool × List ℕ
takes_at drawn s = if drawn then bool_at s else (true, s)

-- the entries that are taken: all of them, or each after a bool that is true
unfoldable pub chosen_at : Bool → List ImportEntry → List ℕ → List ImportEntry × List ℕ
chosen_at drawn [] s = ([], s)
chosen_at drawn (entry ∷ entries) s =
    let takes = takes_at drawn s in
    let others = chosen_at drawn entries takes.1 in
    ((if takes.0 then entry ∷ [] else []) ++ others.0, others.1)

-- ---- entries that are written

-- the entry of an import by itself
abbrev pub lone : Named → ImportEntry
lone x = Import x.origin x.name x.type

abbrev pub has_imports : ImportEntry → Bool
has_imports entry = nat_lt 0 (length (imported_by entry))

-- an entry as it is written: a group of no import isn't, and without compact forms each import is written by itself
abbrev pub written : Bool → ImportEntry → List ImportEntry
written compact entry = if compact then (if has_imports entry then entry ∷ [] else []) else map lone (named_by entry)

-- the imports of a module, from the entries of a shape
unfoldable pub shape_imports_at : Bool → Bool → (ℕ → ℕ) → List ImportEntry → List ℕ → List ImportEntry × List ℕ
shape_imports_at drawn compact f entries s = let taken = chosen_at drawn entries s in (flat_map (written compact) (map (entry_map f) taken.0), taken.1)
