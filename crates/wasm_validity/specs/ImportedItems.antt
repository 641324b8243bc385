-- The imports of a module by their names. Core Specification 3.0, Syntax, "Modules" (imports).
use Rattle.std.specs.Prelude.{ℕ, Bool, List, [], ◌∷◌, ◌&&◌, bytes_eq, not, if◌then◌else◌}
use Rattle.std.specs.List.{list_any}
use Rattle.wasm_spec.specs.Types.{ExternalKind}

-- an import: the module and the name that it is imported by, and which item of its kind it is
pub record Imported : Type 0 where
  pub origin : List ℕ
  pub name : List ℕ
  pub kind : ExternalKind
  pub index : ℕ

-- two imports have the same two names
abbrev pub have_same_names : Imported → Imported → Bool
have_same_names a b = bytes_eq a.origin b.origin && bytes_eq a.name b.name

-- Imports of the same two names stand together, where the first of them stands: one more goes after the last of these, and else after all.
abbrev pub with_import : List Imported → Imported → List Imported
with_import [] new = new ∷ []
with_import (x ∷ xs) new = if have_same_names new x && not (list_any (have_same_names new) xs) then x ∷ new ∷ xs else x ∷ with_import xs new

-- several more, one after the other
abbrev pub with_imports : List Imported → List Imported → List Imported
with_imports old [] = old
with_imports old (new ∷ news) = with_imports (with_import old new) news
