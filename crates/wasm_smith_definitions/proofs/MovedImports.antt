-- Imports that are chosen of the imports of a shape keep their rules in a module, where the types of the shape stand among others.
use Rattle.std.proofs.Common.{◌≡◌, ℕ, ◌+◌, ◌≤◌, ◌^◌, Bool, true, List, [], ◌∷◌, ◌++◌, map, length, is_some, inl, inr, refl, sym, ap, ◌∙◌, subst, arith, length-append, eq-eqb, flat_map}
use Rattle.std.specs.Prelude.{◌||◌, nat_eq}
use Rattle.std.specs.List.{AllByRecursion}
use Rattle.std.proofs.lemmas.Bool.{and_from, and_parts, or_left, or_right}
use Rattle.std.proofs.lemmas.Bool.Decides.{eqb_tells}
use Rattle.std.proofs.lemmas.List.{map-append}
use Rattle.wasm_spec.specs.Features.{Features, has, MultiMemory, ReferenceTypes}
use Rattle.wasm_spec.specs.Syntax.{ImportEntry, ImportItem, Import, CompactItems, CompactNames, imported_by}
use Rattle.wasm_spec.specs.TypeReferences.{val_map, table_map, external_map}
use Rattle.wasm_spec.specs.Types.{SubType, ExternalType, FuncExternal, TableExternal, MemoryExternal, GlobalExternal, TagExternal}
use Rattle.wasm_spec.proofs.TypeMaps.{map-map}
use Rattle.wasm_validity.specs.Rules.{may_cross}
use Rattle.wasm_validity.specs.TypeRules.{is_memory_type}
use Rattle.wasm_smith_shapes.specs.Shapes.{ShapeValue, imported_items, shape_types}
use Rattle.wasm_smith_shapes.specs.ValidShapes.{imported_spaces}
use Rattle.wasm_smith_types.specs.Copies.{shifted_index}
use Rattle.wasm_smith_validity.specs.Rules.{is_table_type, keep_items, keeps_item}
use Rattle.wasm_smith_validity.specs.Spaces.{Spaces, func_type_at, is_value, spaces_of_types, with_item, with_items}
use Rattle.wasm_smith_definitions.specs.Parts.{IsPart, none, kept, left_out}
use Rattle.wasm_smith_definitions.proofs.MovedTypes.{IsBelow, Moves, function_moved, is_tag_type, items_shifted, table_type_moved, tag_type_moved, value_moved}

-- ---- some of the items of a list

-- all of them
pub all_are_part : {A : Type 0} (xs : List A) → IsPart xs xs
all_are_part [] = none
all_are_part (x ∷ xs) = kept (all_are_part xs)

-- none of them
pub none_is_part : {A : Type 0} (xs : List A) → IsPart [] xs
none_is_part [] = none
none_is_part (x ∷ xs) = left_out (none_is_part xs)

-- parts of two lists, one after the other
pub parts_joined : {A : Type 0} {chosen items : List A} (more others : List A) → IsPart chosen items → IsPart more others
    → IsPart (chosen ++ more) (items ++ others)
parts_joined more others none rest = rest
parts_joined more others (kept part) rest = kept (parts_joined more others part rest)
parts_joined more others (left_out part) rest = left_out (parts_joined more others part rest)

-- what the chosen things have is part of what all have
pub flat_part : {A B : Type 0} (parts : A → List B) {chosen items : List A} → IsPart chosen items → IsPart (flat_map parts chosen) (flat_map parts items)
flat_part parts none = none
flat_part parts (kept {x} {chosen} {items} part) =
    parts_joined (flat_map parts chosen) (flat_map parts items) (all_are_part (parts x)) (flat_part parts part)
flat_part parts (left_out {x} {chosen} {items} part) =
    parts_joined (flat_map parts chosen) (flat_map parts items) (none_is_part (parts x)) (flat_part parts part)

-- ---- imports, moved

no_more : (several : Bool) (n m : ℕ) → m ≤ n → (nat_eq n 0 || several) ≡ true → (nat_eq m 0 || several) ≡ true
no_more several n m le h =
    elim (eqb_tells n 0) [
      | inl (test, first) ↦ or_left (nat_eq m 0) several (eq-eqb m 0 (omega (arith, first, le)))
      | inr (test, some) ↦ or_right (nat_eq m 0) several (ap (λ b. b || several) (sym test) ∙ h)
    ]

-- index spaces with the one and the other types, where the other have no more tables and memories
pub record HasRoom (types others : List (SubType ℕ)) (spaces new : Spaces) : Type 0 where
  pub known : spaces.types ≡ types
  pub there : new.types ≡ others
  pub tables : length new.tables ≤ length spaces.tables
  pub memories : length new.memories ≤ length spaces.memories

module _ (f : ℕ → ℕ) (types others : List (SubType ℕ)) where
  -- one item more on both sides leaves as much room
  pub room_with : (spaces new : Spaces) (item : ExternalType ℕ) → HasRoom types others spaces new
      → HasRoom types others (with_item spaces item) (with_item new (external_map f item))
  room_with spaces new (FuncExternal function) room = record { known = room.known; there = room.there; tables = room.tables; memories = room.memories }
  room_with spaces new (TableExternal type) room = record {
    known = room.known;
    there = room.there;
    tables = omega (arith, room.tables, length-append spaces.tables (type ∷ []), length-append new.tables (table_map f type ∷ []));
    memories = room.memories;
  }
  room_with spaces new (MemoryExternal type) room = record {
    known = room.known;
    there = room.there;
    tables = room.tables;
    memories = omega (arith, room.memories, length-append spaces.memories (type ∷ []), length-append new.memories (type ∷ []));
  }
  room_with spaces new (GlobalExternal type) room = record { known = room.known; there = room.there; tables = room.tables; memories = room.memories }
  room_with spaces new (TagExternal function) room = record { known = room.known; there = room.there; tables = room.tables; memories = room.memories }

  -- one item more on the one side leaves more room
  pub room_without : (spaces new : Spaces) (item : ExternalType ℕ) → HasRoom types others spaces new → HasRoom types others (with_item spaces item) new
  room_without spaces new (FuncExternal function) room = record { known = room.known; there = room.there; tables = room.tables; memories = room.memories }
  room_without spaces new (TableExternal type) room = record {
    known = room.known;
    there = room.there;
    tables = omega (arith, room.tables, length-append spaces.tables (type ∷ []));
    memories = room.memories;
  }
  room_without spaces new (MemoryExternal type) room = record {
    known = room.known;
    there = room.there;
    tables = room.tables;
    memories = omega (arith, room.memories, length-append spaces.memories (type ∷ []));
  }
  room_without spaces new (GlobalExternal type) room = record { known = room.known; there = room.there; tables = room.tables; memories = room.memories }
  room_without spaces new (TagExternal function) room = record { known = room.known; there = room.there; tables = room.tables; memories = room.memories }

  -- there is room after items, and after those that are chosen of them
  pub room_after : {chosen items : List (ExternalType ℕ)} → IsPart chosen items → (spaces new : Spaces) → HasRoom types others spaces new
      → HasRoom types others (with_items spaces items) (with_items new (map (external_map f) chosen))
  room_after none spaces new room = room
  room_after (kept {x} {chosen} {items} part) spaces new room =
      room_after part (with_item spaces x) (with_item new (external_map f x)) (room_with spaces new x room)
  room_after (left_out {x} {chosen} {items} part) spaces new room = room_after part (with_item spaces x) new (room_without spaces new x room)

module _ (features : Features) (f : ℕ → ℕ) (types others : List (SubType ℕ)) (moves : Moves f types others) where
  -- an import that keeps its rule keeps it where it is moved
  pub item_moved : (spaces new : Spaces) (item : ExternalType ℕ) → HasRoom types others spaces new → keeps_item features spaces item ≡ true
      → keeps_item features new (external_map f item) ≡ true
  item_moved spaces new (FuncExternal function) room h =
      subst (λ ts. is_some (func_type_at ts (f function)) ≡ true) (sym room.there)
      (function_moved features f types others moves function (subst (λ ts. is_some (func_type_at ts function) ≡ true) room.known h))
  item_moved spaces new (TableExternal type) room h =
      let parts = and_parts (is_table_type features spaces.types type) (nat_eq (length spaces.tables) 0 || has features ReferenceTypes) h in
      let moved = table_type_moved features f types others moves type (subst (λ ts. is_table_type features ts type ≡ true) room.known parts.0) in
      and_from (is_table_type features new.types (table_map f type)) (nat_eq (length new.tables) 0 || has features ReferenceTypes)
      (subst (λ ts. is_table_type features ts (table_map f type) ≡ true) (sym room.there) moved)
      (no_more (has features ReferenceTypes) (length spaces.tables) (length new.tables) room.tables parts.1)
  item_moved spaces new (MemoryExternal type) room h =
      let parts = and_parts (is_memory_type features type) (nat_eq (length spaces.memories) 0 || has features MultiMemory) h in
      and_from (is_memory_type features type) (nat_eq (length new.memories) 0 || has features MultiMemory) parts.0
      (no_more (has features MultiMemory) (length spaces.memories) (length new.memories) room.memories parts.1)
  item_moved spaces new (GlobalExternal type) room h =
      let parts = and_parts (is_value features spaces.types type.value_type) (may_cross features type) h in
      let moved = value_moved features f types others moves type.value_type (subst (λ ts. is_value features ts type.value_type ≡ true) room.known parts.0) in
      and_from (is_value features new.types (val_map f type.value_type)) (may_cross features type)
      (subst (λ ts. is_value features ts (val_map f type.value_type) ≡ true) (sym room.there) moved) parts.1
  item_moved spaces new (TagExternal function) room h =
      subst (λ ts. is_tag_type features ts (f function) ≡ true) (sym room.there)
      (tag_type_moved features f types others moves function (subst (λ ts. is_tag_type features ts function ≡ true) room.known h))

  -- Imports that are chosen of imports that keep their rules keep them where they are moved.
  pub imports_moved : {chosen items : List (ExternalType ℕ)} → IsPart chosen items → (spaces new : Spaces) → HasRoom types others spaces new
      → keep_items features spaces items ≡ true → keep_items features new (map (external_map f) chosen) ≡ true
  imports_moved none spaces new room h = refl
  imports_moved (kept {x} {chosen} {items} part) spaces new room h =
      let parts = and_parts (keeps_item features spaces x) (keep_items features (with_item spaces x) items) h in
      and_from (keeps_item features new (external_map f x)) (keep_items features (with_item new (external_map f x)) (map (external_map f) chosen))
      (item_moved spaces new x room parts.0)
      (imports_moved part (with_item spaces x) (with_item new (external_map f x)) (room_with f types others spaces new x room) parts.1)
  imports_moved (left_out {x} {chosen} {items} part) spaces new room h =
      let parts = and_parts (keeps_item features spaces x) (keep_items features (with_item spaces x) items) h in
      imports_moved part (with_item spaces x) new (room_without f types others spaces new x room) parts.1

-- Imports chosen of a shape keep their rules in a module that has no tables and memories before.
pub shape_imports_moved : (features : Features) (f : ℕ → ℕ) (others : List (SubType ℕ)) (it : ShapeValue) {chosen : List (ExternalType ℕ)} (new : Spaces)
    → Moves f (shape_types it) others → IsPart chosen (imported_items it) → new.types ≡ others → new.tables ≡ [] → new.memories ≡ []
    → keep_items features (spaces_of_types (shape_types it)) (imported_items it) ≡ true → keep_items features new (map (external_map f) chosen) ≡ true
shape_imports_moved features f others it new moves part there tables memories h =
    imports_moved features f (shape_types it) others moves part (spaces_of_types (shape_types it)) new (record {
      known = refl;
      there = there;
      tables = omega (arith, ap length tables);
      memories = omega (arith, ap length memories);
    }) h

-- As many tables and memories at most as in the shape's own module come with them.
pub shape_room : (f : ℕ → ℕ) (others : List (SubType ℕ)) (it : ShapeValue) {chosen : List (ExternalType ℕ)} (new : Spaces) → IsPart chosen (imported_items it)
    → new.types ≡ others → new.tables ≡ [] → new.memories ≡ []
    → HasRoom (shape_types it) others (imported_spaces it) (with_items new (map (external_map f) chosen))
shape_room f others it new part there tables memories =
    room_after f (shape_types it) others part (spaces_of_types (shape_types it)) new (record {
      known = refl;
      there = there;
      tables = omega (arith, ap length tables);
      memories = omega (arith, ap length memories);
    })

-- ---- entries

-- an entry of imports with the references to types of its items moved
abbrev pub entry_map : (ℕ → ℕ) → ImportEntry → ImportEntry
entry_map f (Import origin name type) = Import origin name (external_map f type)
entry_map f (CompactItems origin items) = CompactItems origin (map (λ item. record { name = item.name; type = external_map f item.type }) items)
entry_map f (CompactNames origin type names) = CompactNames origin (external_map f type) names

-- the imports of a moved entry are those of the entry, moved
pub imported_moved : (f : ℕ → ℕ) (entry : ImportEntry) → imported_by (entry_map f entry) ≡ map (external_map f) (imported_by entry)
imported_moved f (Import origin name type) = refl
imported_moved f (CompactItems origin items) =
    map-map (λ (item : ImportItem). item.type) (λ (item : ImportItem). record { name = item.name; type = external_map f item.type }) (λ (item : ImportItem). external_map f item.type) (λ item. refl) items
    ∙ sym (map-map (external_map f) (λ (item : ImportItem). item.type) (λ (item : ImportItem). external_map f item.type) (λ item. refl) items)
imported_moved f (CompactNames origin type names) =
    sym (map-map (external_map f) (λ (name : List ℕ). type) (λ (name : List ℕ). external_map f type) (λ name. refl) names)

-- so are those of all entries
pub all_imported_moved : (f : ℕ → ℕ) (entries : List ImportEntry)
    → flat_map imported_by (map (entry_map f) entries) ≡ map (external_map f) (flat_map imported_by entries)
all_imported_moved f [] = refl
all_imported_moved f (entry ∷ entries) =
    ap (λ xs. xs ++ flat_map imported_by (map (entry_map f) entries)) (imported_moved f entry)
    ∙ ap (λ ys. map (external_map f) (imported_by entry) ++ ys) (all_imported_moved f entries)
    ∙ sym (map-append (external_map f) (imported_by entry) (flat_map imported_by entries))

-- The imports of entries that are shifted by 32 bits are those of the entries, moved by a sum, where they name only the first types and no sum passes 32 bits.
pub all_imported_shifted : (m n : ℕ) (entries : List ImportEntry) → m + n ≤ 2 ^ 32 → AllByRecursion (IsBelow n) (flat_map imported_by entries)
    → flat_map imported_by (map (entry_map (shifted_index 0 m)) entries) ≡ map (external_map (λ r. m + r)) (flat_map imported_by entries)
all_imported_shifted m n entries few below =
    all_imported_moved (shifted_index 0 m) entries ∙ items_shifted m n (flat_map imported_by entries) few below
