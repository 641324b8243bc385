-- The names of imports that were drawn.
use Rattle.std.specs.Prelude.{◌≡◌, ℕ, Bool, true, false, List, String}
use Rattle.std.specs.BTreeMap.{BTreeMap, get_by_text}
use Rattle.std.specs.List.{AllByRecursion, IsDistinct}
use Rattle.std.specs.Option.{option_map_or}
use Rattle.wasm_smith_unstructured.specs.Names.{is_name}
use Rattle.wasm_smith_externs.specs.Named.{Named, have_same_names}
use Rattle.wasm_smith_externs.specs.declared.names.DuplicateImportsBehavior.TheVariants.{Disallowed}
use Rattle.wasm_smith_externs.specs.declared.names.ImportNames.{ImportNames}

-- an import of these two names was drawn: the name of its module and its own
abbrev pub is_used : {Y : Type 0} → BTreeMap (String Y) (List (List ℕ)) → List ℕ → List ℕ → Bool
is_used used origin name = option_map_or (λ names. is_name names name) (get_by_text used origin) false

-- names that were used stay used
abbrev pub StayUsed : ImportNames → ImportNames → Type 0
StayUsed old new = (origin name : List ℕ) → is_used old.used origin name ≡ true → is_used new.used origin name ≡ true

-- A name is drawn: where two imports may not have the same two names, the name is new in its module.
pub record IsDrawnName (old new : ImportNames) (origin name : List ℕ) : Type 0 where
  pub duplicates : new.duplicates ≡ old.duplicates
  pub stay : StayUsed old new
  pub unused : old.duplicates ≡ Disallowed → is_used old.used origin name ≡ false
  pub used : old.duplicates ≡ Disallowed → is_used new.used origin name ≡ true

-- The names of these imports are drawn, one after the other.
pub record AreDrawnNames (old new : ImportNames) (xs : List Named) : Type 0 where
  pub duplicates : new.duplicates ≡ old.duplicates
  pub stay : StayUsed old new
  pub unused : old.duplicates ≡ Disallowed → AllByRecursion (λ x. is_used old.used x.origin x.name ≡ false) xs
  pub used : old.duplicates ≡ Disallowed → AllByRecursion (λ x. is_used new.used x.origin x.name ≡ true) xs
  pub distinct : old.duplicates ≡ Disallowed → IsDistinct have_same_names xs
