-- How many items of each kind there are after imports, and few tables and memories.
use Rattle.std.proofs.Common.{◌≡◌, ℕ, ◌+◌, ◌≤◌, Bool, true, false, List, [], ◌∷◌, ◌++◌, length, inl, inr, refl, sym, ap, ◌∙◌, arith, append_assoc, length-append}
use Rattle.std.specs.Prelude.{◌||◌, nat_eq}
use Rattle.std.proofs.lemmas.Bool.{and_parts}
use Rattle.std.proofs.lemmas.Bool.Decides.{eqb_tells}
use Rattle.std.proofs.lemmas.List.{append-nil}
use Rattle.wasm_spec.specs.Features.{Features, has, MultiMemory, ReferenceTypes}
use Rattle.wasm_spec.specs.Types.{MemoryType, TableType, ExternalType, FuncExternal, TableExternal, MemoryExternal, GlobalExternal, TagExternal}
use Rattle.wasm_validity.specs.TypeRules.{is_memory_type}
use Rattle.wasm_smith_validity.specs.Rules.{is_table_type, keep_items, keeps_item, keeps_memory, keeps_table}
use Rattle.wasm_smith_validity.specs.Spaces.{Spaces, with_item, with_items}
use Rattle.wasm_smith_definitions.specs.OwnItems.{HasFewOf, functions_in, globals_in, memories_in, tables_in, tags_in}

-- ---- index spaces after imports

-- imports change no types
pub types_after : (spaces : Spaces) (items : List (ExternalType ℕ)) → (with_items spaces items).types ≡ spaces.types
types_after spaces [] = refl
types_after spaces (FuncExternal function ∷ items) = types_after (with_item spaces (FuncExternal function)) items
types_after spaces (TableExternal type ∷ items) = types_after (with_item spaces (TableExternal type)) items
types_after spaces (MemoryExternal type ∷ items) = types_after (with_item spaces (MemoryExternal type)) items
types_after spaces (GlobalExternal type ∷ items) = types_after (with_item spaces (GlobalExternal type)) items
types_after spaces (TagExternal function ∷ items) = types_after (with_item spaces (TagExternal function)) items

-- the imported functions come last
pub functions_after : (spaces : Spaces) (items : List (ExternalType ℕ))
    → (with_items spaces items).imported_functions ≡ spaces.imported_functions ++ functions_in items
functions_after spaces [] = sym (append-nil spaces.imported_functions)
functions_after spaces (FuncExternal function ∷ items) =
    functions_after (with_item spaces (FuncExternal function)) items ∙ append_assoc spaces.imported_functions (function ∷ []) (functions_in items)
functions_after spaces (TableExternal type ∷ items) = functions_after (with_item spaces (TableExternal type)) items
functions_after spaces (MemoryExternal type ∷ items) = functions_after (with_item spaces (MemoryExternal type)) items
functions_after spaces (GlobalExternal type ∷ items) = functions_after (with_item spaces (GlobalExternal type)) items
functions_after spaces (TagExternal function ∷ items) = functions_after (with_item spaces (TagExternal function)) items

-- the imported tables come last
pub tables_after : (spaces : Spaces) (items : List (ExternalType ℕ)) → (with_items spaces items).tables ≡ spaces.tables ++ tables_in items
tables_after spaces [] = sym (append-nil spaces.tables)
tables_after spaces (FuncExternal function ∷ items) = tables_after (with_item spaces (FuncExternal function)) items
tables_after spaces (TableExternal type ∷ items) =
    tables_after (with_item spaces (TableExternal type)) items ∙ append_assoc spaces.tables (type ∷ []) (tables_in items)
tables_after spaces (MemoryExternal type ∷ items) = tables_after (with_item spaces (MemoryExternal type)) items
tables_after spaces (GlobalExternal type ∷ items) = tables_after (with_item spaces (GlobalExternal type)) items
tables_after spaces (TagExternal function ∷ items) = tables_after (with_item spaces (TagExternal function)) items

-- the imported memories come last
pub memories_after : (spaces : Spaces) (items : List (ExternalType ℕ)) → (with_items spaces items).memories ≡ spaces.memories ++ memories_in items
memories_after spaces [] = sym (append-nil spaces.memories)
memories_after spaces (FuncExternal function ∷ items) = memories_after (with_item spaces (FuncExternal function)) items
memories_after spaces (TableExternal type ∷ items) = memories_after (with_item spaces (TableExternal type)) items
memories_after spaces (MemoryExternal type ∷ items) =
    memories_after (with_item spaces (MemoryExternal type)) items ∙ append_assoc spaces.memories (type ∷ []) (memories_in items)
memories_after spaces (GlobalExternal type ∷ items) = memories_after (with_item spaces (GlobalExternal type)) items
memories_after spaces (TagExternal function ∷ items) = memories_after (with_item spaces (TagExternal function)) items

-- the imported globals come last
pub globals_after : (spaces : Spaces) (items : List (ExternalType ℕ))
    → (with_items spaces items).imported_globals ≡ spaces.imported_globals ++ globals_in items
globals_after spaces [] = sym (append-nil spaces.imported_globals)
globals_after spaces (FuncExternal function ∷ items) = globals_after (with_item spaces (FuncExternal function)) items
globals_after spaces (TableExternal type ∷ items) = globals_after (with_item spaces (TableExternal type)) items
globals_after spaces (MemoryExternal type ∷ items) = globals_after (with_item spaces (MemoryExternal type)) items
globals_after spaces (GlobalExternal type ∷ items) =
    globals_after (with_item spaces (GlobalExternal type)) items ∙ append_assoc spaces.imported_globals (type ∷ []) (globals_in items)
globals_after spaces (TagExternal function ∷ items) = globals_after (with_item spaces (TagExternal function)) items

-- the imported tags come last
pub tags_after : (spaces : Spaces) (items : List (ExternalType ℕ)) → (with_items spaces items).tags ≡ spaces.tags ++ tags_in items
tags_after spaces [] = sym (append-nil spaces.tags)
tags_after spaces (FuncExternal function ∷ items) = tags_after (with_item spaces (FuncExternal function)) items
tags_after spaces (TableExternal type ∷ items) = tags_after (with_item spaces (TableExternal type)) items
tags_after spaces (MemoryExternal type ∷ items) = tags_after (with_item spaces (MemoryExternal type)) items
tags_after spaces (GlobalExternal type ∷ items) = tags_after (with_item spaces (GlobalExternal type)) items
tags_after spaces (TagExternal function ∷ items) =
    tags_after (with_item spaces (TagExternal function)) items ∙ append_assoc spaces.tags (function ∷ []) (tags_in items)

-- how many of each kind there are after imports
pub record AreCounted (spaces : Spaces) (items : List (ExternalType ℕ)) : Type 0 where
  pub types : (with_items spaces items).types ≡ spaces.types
  pub functions : length (with_items spaces items).imported_functions ≡ length spaces.imported_functions + length (functions_in items)
  pub tables : length (with_items spaces items).tables ≡ length spaces.tables + length (tables_in items)
  pub memories : length (with_items spaces items).memories ≡ length spaces.memories + length (memories_in items)
  pub globals : length (with_items spaces items).imported_globals ≡ length spaces.imported_globals + length (globals_in items)
  pub tags : length (with_items spaces items).tags ≡ length spaces.tags + length (tags_in items)

-- as many as before, and those of the imports
pub counted_after : (spaces : Spaces) (items : List (ExternalType ℕ)) → AreCounted spaces items
counted_after spaces items = record {
  types = types_after spaces items;
  functions = ap length (functions_after spaces items) ∙ length-append spaces.imported_functions (functions_in items);
  tables = ap length (tables_after spaces items) ∙ length-append spaces.tables (tables_in items);
  memories = ap length (memories_after spaces items) ∙ length-append spaces.memories (memories_in items);
  globals = ap length (globals_after spaces items) ∙ length-append spaces.imported_globals (globals_in items);
  tags = ap length (tags_after spaces items) ∙ length-append spaces.tags (tags_in items);
}

-- ---- at most one table and memory, or several with a feature

-- fewer are few
pub fewer : (several : Bool) (n m : ℕ) → m ≤ n → HasFewOf several n → HasFewOf several m
fewer several n m le h off = omega (arith, le, h off)

-- one more is few, where it is the first or several may be
pub few_more : (several : Bool) (n m : ℕ) → m ≡ n + 1 → (nat_eq n 0 || several) ≡ true → HasFewOf several m
few_more several n m more h off =
    elim (eqb_tells n 0) [
      | inl (test, none) ↦ omega (arith, none, more)
      | inr (test, some) ↦ let both : false ≡ true = sym off ∙ ap (λ b. b || several) (sym test) ∙ h in absurd cc
    ]

module _ (features : Features) where
  -- a table that keeps its rule leaves few
  pub after_table : (spaces : Spaces) (type : TableType ℕ) → keeps_table features spaces type ≡ true
      → HasFewOf (has features ReferenceTypes) (length (spaces.tables ++ type ∷ []))
  after_table spaces type h =
      few_more (has features ReferenceTypes) (length spaces.tables) (length (spaces.tables ++ type ∷ [])) (length-append spaces.tables (type ∷ []))
      (and_parts (is_table_type features spaces.types type) (nat_eq (length spaces.tables) 0 || has features ReferenceTypes) h).1

  -- a memory that keeps its rule leaves few
  pub after_memory : (spaces : Spaces) (type : MemoryType) → keeps_memory features spaces type ≡ true
      → HasFewOf (has features MultiMemory) (length (spaces.memories ++ type ∷ []))
  after_memory spaces type h =
      few_more (has features MultiMemory) (length spaces.memories) (length (spaces.memories ++ type ∷ [])) (length-append spaces.memories (type ∷ []))
      (and_parts (is_memory_type features type) (nat_eq (length spaces.memories) 0 || has features MultiMemory) h).1

  -- the first of imports keeps its rule, and the others after it
  pub first_kept : (spaces : Spaces) (item : ExternalType ℕ) (items : List (ExternalType ℕ)) → keep_items features spaces (item ∷ items) ≡ true
      → (keeps_item features spaces item ≡ true) × (keep_items features (with_item spaces item) items ≡ true)
  first_kept spaces item items h = and_parts (keeps_item features spaces item) (keep_items features (with_item spaces item) items) h

  -- few tables are few after imports that keep their rules
  pub few_tables : (spaces : Spaces) (items : List (ExternalType ℕ)) → keep_items features spaces items ≡ true
      → HasFewOf (has features ReferenceTypes) (length spaces.tables) → HasFewOf (has features ReferenceTypes) (length (with_items spaces items).tables)
  few_tables spaces [] h few = few
  few_tables spaces (FuncExternal function ∷ items) h few =
      few_tables (with_item spaces (FuncExternal function)) items (first_kept spaces (FuncExternal function) items h).1 few
  few_tables spaces (TableExternal type ∷ items) h few =
      let parts = first_kept spaces (TableExternal type) items h in
      few_tables (with_item spaces (TableExternal type)) items parts.1 (after_table spaces type parts.0)
  few_tables spaces (MemoryExternal type ∷ items) h few =
      few_tables (with_item spaces (MemoryExternal type)) items (first_kept spaces (MemoryExternal type) items h).1 few
  few_tables spaces (GlobalExternal type ∷ items) h few =
      few_tables (with_item spaces (GlobalExternal type)) items (first_kept spaces (GlobalExternal type) items h).1 few
  few_tables spaces (TagExternal function ∷ items) h few =
      few_tables (with_item spaces (TagExternal function)) items (first_kept spaces (TagExternal function) items h).1 few

  -- few memories are few after imports that keep their rules
  pub few_memories : (spaces : Spaces) (items : List (ExternalType ℕ)) → keep_items features spaces items ≡ true
      → HasFewOf (has features MultiMemory) (length spaces.memories) → HasFewOf (has features MultiMemory) (length (with_items spaces items).memories)
  few_memories spaces [] h few = few
  few_memories spaces (FuncExternal function ∷ items) h few =
      few_memories (with_item spaces (FuncExternal function)) items (first_kept spaces (FuncExternal function) items h).1 few
  few_memories spaces (TableExternal type ∷ items) h few =
      few_memories (with_item spaces (TableExternal type)) items (first_kept spaces (TableExternal type) items h).1 few
  few_memories spaces (MemoryExternal type ∷ items) h few =
      let parts = first_kept spaces (MemoryExternal type) items h in
      few_memories (with_item spaces (MemoryExternal type)) items parts.1 (after_memory spaces type parts.0)
  few_memories spaces (GlobalExternal type ∷ items) h few =
      few_memories (with_item spaces (GlobalExternal type)) items (first_kept spaces (GlobalExternal type) items h).1 few
  few_memories spaces (TagExternal function ∷ items) h few =
      few_memories (with_item spaces (TagExternal function)) items (first_kept spaces (TagExternal function) items h).1 few
