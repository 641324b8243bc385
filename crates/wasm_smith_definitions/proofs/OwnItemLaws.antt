-- The items of each kind among the items that exports ask for.
use Rattle.std.proofs.Common.{◌≡◌, ℕ, ◌+◌, List, [], ◌∷◌, ◌++◌, map, length, refl, ap, sym, ◌∙◌, arith}
use Rattle.std.specs.List.{flat_map}
use Rattle.std.proofs.lemmas.List.{map-append}
use Rattle.std.proofs.lemmas.List.Concat.{flat_map-append}
use Rattle.wasm_spec.specs.TypeReferences.{external_map, global_map, table_map}
use Rattle.wasm_spec.specs.Types.{ExternalType, FuncExternal, TableExternal, MemoryExternal, GlobalExternal, TagExternal}
use Rattle.wasm_smith_definitions.specs.OwnItems.{function_of, table_of, memory_of, global_of, tag_of, functions_in, tables_in, memories_in, globals_in, tags_in, OwnValue}

-- ---- each item is of one kind

pub as_many_own : (items : List (ExternalType ℕ))
    → length (functions_in items) + (length (tables_in items) + (length (memories_in items) + (length (globals_in items) + length (tags_in items)))) ≡ length items
as_many_own [] = omega arith
as_many_own (FuncExternal function ∷ items) = let others = as_many_own items in omega (arith, others)
as_many_own (TableExternal type ∷ items) = let others = as_many_own items in omega (arith, others)
as_many_own (MemoryExternal type ∷ items) = let others = as_many_own items in omega (arith, others)
as_many_own (GlobalExternal type ∷ items) = let others = as_many_own items in omega (arith, others)
as_many_own (TagExternal function ∷ items) = let others = as_many_own items in omega (arith, others)

-- ---- those of two lists

pub functions_append : (xs ys : List (ExternalType ℕ)) → functions_in (xs ++ ys) ≡ functions_in xs ++ functions_in ys
functions_append xs ys = flat_map-append function_of xs ys

pub tables_append : (xs ys : List (ExternalType ℕ)) → tables_in (xs ++ ys) ≡ tables_in xs ++ tables_in ys
tables_append xs ys = flat_map-append table_of xs ys

pub memories_append : (xs ys : List (ExternalType ℕ)) → memories_in (xs ++ ys) ≡ memories_in xs ++ memories_in ys
memories_append xs ys = flat_map-append memory_of xs ys

pub globals_append : (xs ys : List (ExternalType ℕ)) → globals_in (xs ++ ys) ≡ globals_in xs ++ globals_in ys
globals_append xs ys = flat_map-append global_of xs ys

pub tags_append : (xs ys : List (ExternalType ℕ)) → tags_in (xs ++ ys) ≡ tags_in xs ++ tags_in ys
tags_append xs ys = flat_map-append tag_of xs ys

-- ---- those of types that are mapped

module _ {A B X : Type 0} (part : X → List A) (mapped_part : X → List B) (on : X → X) (f : A → B) where
  each_mapped : ((x : X) → mapped_part (on x) ≡ map f (part x)) → (xs : List X) → flat_map mapped_part (map on xs) ≡ map f (flat_map part xs)
  each_mapped one [] = refl
  each_mapped one (x ∷ xs) =
      ap (λ ys. ys ++ flat_map mapped_part (map on xs)) (one x) ∙ ap (λ ys. map f (part x) ++ ys) (each_mapped one xs) ∙ sym (map-append f (part x) (flat_map part xs))

module _ (f : ℕ → ℕ) where
  function_mapped : (item : ExternalType ℕ) → function_of (external_map f item) ≡ map f (function_of item)
  function_mapped (FuncExternal function) = refl
  function_mapped (TableExternal type) = refl
  function_mapped (MemoryExternal type) = refl
  function_mapped (GlobalExternal type) = refl
  function_mapped (TagExternal function) = refl

  table_mapped : (item : ExternalType ℕ) → table_of (external_map f item) ≡ map (table_map f) (table_of item)
  table_mapped (FuncExternal function) = refl
  table_mapped (TableExternal type) = refl
  table_mapped (MemoryExternal type) = refl
  table_mapped (GlobalExternal type) = refl
  table_mapped (TagExternal function) = refl

  memory_mapped : (item : ExternalType ℕ) → memory_of (external_map f item) ≡ map (λ type. type) (memory_of item)
  memory_mapped (FuncExternal function) = refl
  memory_mapped (TableExternal type) = refl
  memory_mapped (MemoryExternal type) = refl
  memory_mapped (GlobalExternal type) = refl
  memory_mapped (TagExternal function) = refl

  global_mapped : (item : ExternalType ℕ) → global_of (external_map f item) ≡ map (global_map f) (global_of item)
  global_mapped (FuncExternal function) = refl
  global_mapped (TableExternal type) = refl
  global_mapped (MemoryExternal type) = refl
  global_mapped (GlobalExternal type) = refl
  global_mapped (TagExternal function) = refl

  tag_mapped : (item : ExternalType ℕ) → tag_of (external_map f item) ≡ map f (tag_of item)
  tag_mapped (FuncExternal function) = refl
  tag_mapped (TableExternal type) = refl
  tag_mapped (MemoryExternal type) = refl
  tag_mapped (GlobalExternal type) = refl
  tag_mapped (TagExternal function) = refl

  pub functions_mapped : (items : List (ExternalType ℕ)) → functions_in (map (external_map f) items) ≡ map f (functions_in items)
  functions_mapped items = each_mapped function_of function_of (external_map f) f function_mapped items

  pub tables_mapped : (items : List (ExternalType ℕ)) → tables_in (map (external_map f) items) ≡ map (table_map f) (tables_in items)
  tables_mapped items = each_mapped table_of table_of (external_map f) (table_map f) table_mapped items

  -- memories have no references to types
  pub memories_mapped : (items : List (ExternalType ℕ)) → memories_in (map (external_map f) items) ≡ memories_in items
  memories_mapped items = each_mapped memory_of memory_of (external_map f) (λ type. type) memory_mapped items ∙ unmapped (memories_in items)
    where
      unmapped : {A : Type 0} (xs : List A) → map (λ x. x) xs ≡ xs
      unmapped [] = refl
      unmapped (x ∷ xs) = ap (λ ys. x ∷ ys) (unmapped xs)

  pub globals_mapped : (items : List (ExternalType ℕ)) → globals_in (map (external_map f) items) ≡ map (global_map f) (globals_in items)
  globals_mapped items = each_mapped global_of global_of (external_map f) (global_map f) global_mapped items

  pub tags_mapped : (items : List (ExternalType ℕ)) → tags_in (map (external_map f) items) ≡ map f (tags_in items)
  tags_mapped items = each_mapped tag_of tag_of (external_map f) f tag_mapped items

-- ---- one after the other

-- the items of two lists, kind by kind
abbrev pub joined : OwnValue → OwnValue → OwnValue
joined a b = record {
  functions = a.functions ++ b.functions;
  tables = a.tables ++ b.tables;
  memories = a.memories ++ b.memories;
  globals = a.globals ++ b.globals;
  tags = a.tags ++ b.tags;
}
