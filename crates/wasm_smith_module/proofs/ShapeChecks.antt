-- The check of the shapes of a configuration: for each number with its flags, and both shapes together.
use Rattle.std.proofs.Common.{◌≡◌, ℕ, zero, suc, ◌+◌, ◌<◌, Bool, true, false, not, true≢false, List, [], ◌∷◌, ◌++◌, map, length, flat_map, Option, Some, None, IfSome, IsSomeAnd, IsTrue, ◌↔◌, inl, inr, refl, sym, ap, ◌∙◌, subst, ap₂, arith, length-append, lt-ltb, ltb-false, ltb-true}
use Rattle.std.specs.Prelude.{◌==◌, ◌&&◌, ◌||◌, nat_lt}
use Rattle.std.specs.List.{list_any}
use Rattle.std.proofs.lemmas.Bool.{and_from, and_parts}
use Rattle.std.proofs.lemmas.List.Folds.{list_any-append}
use Rattle.wasm_spec.specs.Features.{Features, has, MultiMemory, ReferenceTypes}
use Rattle.wasm_spec.specs.Types.{ExternalKind, MemoryKind, TableKind, ExternalType, FuncExternal, TableExternal, MemoryExternal, GlobalExternal, TagExternal}
use Rattle.wasm_smith_unstructured.specs.declared.error.Error.{Error}
use Rattle.wasm_smith_unstructured.specs.declared.error.Error.TheVariants.{IncorrectFormat, EmptyChoose, NotEnoughData, BadConfig, BadShape, TypeSize, Memory, TooLong}
use Rattle.wasm_smith_validity.specs.Spaces.{spaces_of_types}
use Rattle.wasm_smith_validity.proofs.AlikeFeatures.{HaveSameFlags}
use Rattle.wasm_smith_shapes.specs.Shapes.{ShapeValue, exported_items, imported_items, shape_types}
use Rattle.wasm_smith_shapes.specs.ValidShapes.{IsBadPart, IsGoodShape, IsShapeReason, imported_spaces}
use Rattle.wasm_smith_shapes.specs.declared.shape.ShapeUse.{ShapeUse}
use Rattle.wasm_smith_shapes.specs.declared.shape.ShapeUse.TheVariants.{Module, Imports, Exports}
use Rattle.wasm_smith_shapes.proofs.AlikeShapes.{bad_alike, good_alike}
use Rattle.wasm_smith_config.specs.Config.{AreFeaturesOf}
use Rattle.wasm_smith_config.specs.declared.config.Config.{Config}
use Rattle.wasm_smith_definitions.specs.OwnItems.{HasFewOf, memories_in, tables_in}
use Rattle.wasm_smith_definitions.proofs.ImportCounts.{fewer, memories_after, tables_after}
use Rattle.wasm_smith_definitions.proofs.ShapeRules.{few_shape_memories, few_shape_tables}
use Rattle.wasm_smith_module.specs.Asked.{GoTogether, IsBadFor, IsBadShape, IsGoodFor, IsShapesReason, items_in, most_entries}
use Rattle.wasm_smith_module.specs.ItemKinds.{is_of, may_meet}

-- ---- each shape by itself

module _ (c : Config) (f : Features) (ours : AreFeaturesOf c f) where
  same_flags : (g : Features) → AreFeaturesOf c g → HaveSameFlags f g
  same_flags g theirs = λ flag. ours flag ∙ sym (theirs flag)

  -- a shape that is good for one number with the flags is so for each
  pub good_for : (purpose : ShapeUse) (asked : Option ShapeValue) → IfSome asked (IsGoodShape f purpose most_entries) → IsGoodFor c purpose asked
  good_for purpose None good = tt
  good_for purpose (Some shape) good = λ g theirs. good_alike f g (same_flags g theirs) purpose most_entries shape good

  -- so is a bad part
  bad_for : (purpose : ShapeUse) (shape : ShapeValue) (part : List ℕ) → IsBadPart f purpose most_entries shape part → IsBadFor c purpose (Some shape) part
  bad_for purpose shape part bad = λ g theirs. bad_alike f g (same_flags g theirs) purpose most_entries shape part bad

  -- why one of the shapes is refused
  abbrev pub IsOneReason : ShapeUse → Option ShapeValue → Error → Type 0
  IsOneReason purpose asked e = IsSomeAnd asked (λ shape. IsShapeReason f purpose most_entries shape e)

  one_reason : (purpose : ShapeUse) (asked : Option ShapeValue) → ((part : List ℕ) → IsBadFor c purpose asked part → IsBadShape c part)
      → (e : Error) → IsOneReason purpose asked e → IsShapesReason c e
  one_reason purpose None among e h = absurd h
  one_reason purpose (Some shape) among (BadShape part) h = among part.now (bad_for purpose shape part.now h)
  one_reason purpose (Some shape) among Memory h = tt
  one_reason purpose (Some shape) among IncorrectFormat h = h
  one_reason purpose (Some shape) among EmptyChoose h = h
  one_reason purpose (Some shape) among NotEnoughData h = h
  one_reason purpose (Some shape) among (BadConfig field) h = h
  one_reason purpose (Some shape) among TypeSize h = h
  one_reason purpose (Some shape) among TooLong h = h

  pub module_reason : (e : Error) → IsOneReason Module c.module_shape e → IsShapesReason c e
  module_reason e h = one_reason Module c.module_shape (λ part bad. inl bad) e h

  pub imports_reason : (e : Error) → IsOneReason Imports c.available_imports e → IsShapesReason c e
  imports_reason e h = one_reason Imports c.available_imports (λ part bad. inr (inl bad)) e h

  pub exports_reason : (e : Error) → IsOneReason Exports c.exports e → IsShapesReason c e
  exports_reason e h = one_reason Exports c.exports (λ part bad. inr (inr (inl bad))) e h

-- ---- tables and memories of one shape

tables_apart : (xs ys : List (ExternalType ℕ)) → tables_in (xs ++ ys) ≡ tables_in xs ++ tables_in ys
tables_apart [] ys = refl
tables_apart (FuncExternal function ∷ xs) ys = tables_apart xs ys
tables_apart (TableExternal type ∷ xs) ys = ap (λ types. type ∷ types) (tables_apart xs ys)
tables_apart (MemoryExternal type ∷ xs) ys = tables_apart xs ys
tables_apart (GlobalExternal type ∷ xs) ys = tables_apart xs ys
tables_apart (TagExternal function ∷ xs) ys = tables_apart xs ys

memories_apart : (xs ys : List (ExternalType ℕ)) → memories_in (xs ++ ys) ≡ memories_in xs ++ memories_in ys
memories_apart [] ys = refl
memories_apart (FuncExternal function ∷ xs) ys = memories_apart xs ys
memories_apart (TableExternal type ∷ xs) ys = memories_apart xs ys
memories_apart (MemoryExternal type ∷ xs) ys = ap (λ types. type ∷ types) (memories_apart xs ys)
memories_apart (GlobalExternal type ∷ xs) ys = memories_apart xs ys
memories_apart (TagExternal function ∷ xs) ys = memories_apart xs ys

-- there is a table where there is an item of its kind
some_table : (items : List (ExternalType ℕ)) → list_any (is_of TableKind) items ≡ nat_lt 0 (length (tables_in items))
some_table [] = refl
some_table (FuncExternal function ∷ items) = some_table items
some_table (TableExternal type ∷ items) = sym (lt-ltb 0 (length (type ∷ tables_in items)) (omega arith))
some_table (MemoryExternal type ∷ items) = some_table items
some_table (GlobalExternal type ∷ items) = some_table items
some_table (TagExternal function ∷ items) = some_table items

some_memory : (items : List (ExternalType ℕ)) → list_any (is_of MemoryKind) items ≡ nat_lt 0 (length (memories_in items))
some_memory [] = refl
some_memory (FuncExternal function ∷ items) = some_memory items
some_memory (TableExternal type ∷ items) = some_memory items
some_memory (MemoryExternal type ∷ items) = sym (lt-ltb 0 (length (type ∷ memories_in items)) (omega arith))
some_memory (GlobalExternal type ∷ items) = some_memory items
some_memory (TagExternal function ∷ items) = some_memory items

module _ (f : Features) (purpose : ShapeUse) where
  tables_of_one : (it : ShapeValue) → IsGoodShape f purpose most_entries it
      → HasFewOf (has f ReferenceTypes) (length (tables_in (imported_items it ++ exported_items it)))
  tables_of_one it good =
      let all = ap length (tables_apart (imported_items it) (exported_items it)) ∙ length-append (tables_in (imported_items it)) (tables_in (exported_items it)) in
      let imported = ap length (tables_after (spaces_of_types (shape_types it)) (imported_items it)) in
      fewer (has f ReferenceTypes) (length (imported_spaces it).tables + length (tables_in (exported_items it)))
      (length (tables_in (imported_items it ++ exported_items it))) (omega (arith, all, imported)) (few_shape_tables f it good.imports.kept good.exports.kept)

  memories_of_one : (it : ShapeValue) → IsGoodShape f purpose most_entries it
      → HasFewOf (has f MultiMemory) (length (memories_in (imported_items it ++ exported_items it)))
  memories_of_one it good =
      let all = ap length (memories_apart (imported_items it) (exported_items it)) ∙ length-append (memories_in (imported_items it)) (memories_in (exported_items it)) in
      let imported = ap length (memories_after (spaces_of_types (shape_types it)) (imported_items it)) in
      fewer (has f MultiMemory) (length (imported_spaces it).memories + length (memories_in (exported_items it)))
      (length (memories_in (imported_items it ++ exported_items it))) (omega (arith, all, imported)) (few_shape_memories f it good.imports.kept good.exports.kept)

  few_tables_in : (asked : Option ShapeValue) → IfSome asked (IsGoodShape f purpose most_entries) → HasFewOf (has f ReferenceTypes) (length (tables_in (items_in asked)))
  few_tables_in None good = λ off. omega arith
  few_tables_in (Some it) good = tables_of_one it good

  few_memories_in : (asked : Option ShapeValue) → IfSome asked (IsGoodShape f purpose most_entries) → HasFewOf (has f MultiMemory) (length (memories_in (items_in asked)))
  few_memories_in None good = λ off. omega arith
  few_memories_in (Some it) good = memories_of_one it good

-- ---- both shapes together

-- few of each shape are few together where they may meet
few_together : (several a b : Bool) (n m : ℕ) → a ≡ nat_lt 0 n → b ≡ nat_lt 0 m → HasFewOf several n → HasFewOf several m
    → (several || not (a && b)) ≡ true → HasFewOf several (n + m)
few_together true a b n m some others few few_others may = λ off. absurd (true≢false off)
few_together false false b n m some others few few_others may = λ off. omega (arith, ltb-false 0 n (sym some), few_others off)
few_together false true false n m some others few few_others may = λ off. omega (arith, ltb-false 0 m (sym others), few off)
few_together false true true n m some others few few_others may = absurd (true≢false (sym may))

-- they may meet where they are few together
may_together : (several a b : Bool) (n m : ℕ) → a ≡ nat_lt 0 n → b ≡ nat_lt 0 m → HasFewOf several (n + m) → (several || not (a && b)) ≡ true
may_together true a b n m some others few = refl
may_together false false b n m some others few = refl
may_together false true false n m some others few = refl
may_together false true true n m some others few = absurd (omega (arith, ltb-true 0 n (sym some), ltb-true 0 m (sym others), few refl))

module _ (several : Bool) (xs ys : List (ExternalType ℕ)) where
  few_tables : HasFewOf several (length (tables_in xs)) → HasFewOf several (length (tables_in ys)) → may_meet several TableKind xs ys ≡ true
      → HasFewOf several (length (tables_in xs) + length (tables_in ys))
  few_tables few few_others may =
      few_together several (list_any (is_of TableKind) xs) (list_any (is_of TableKind) ys) (length (tables_in xs)) (length (tables_in ys))
      (some_table xs) (some_table ys) few few_others may

  tables_may_meet : HasFewOf several (length (tables_in xs) + length (tables_in ys)) → may_meet several TableKind xs ys ≡ true
  tables_may_meet few =
      may_together several (list_any (is_of TableKind) xs) (list_any (is_of TableKind) ys) (length (tables_in xs)) (length (tables_in ys))
      (some_table xs) (some_table ys) few

  few_memories : HasFewOf several (length (memories_in xs)) → HasFewOf several (length (memories_in ys)) → may_meet several MemoryKind xs ys ≡ true
      → HasFewOf several (length (memories_in xs) + length (memories_in ys))
  few_memories few few_others may =
      few_together several (list_any (is_of MemoryKind) xs) (list_any (is_of MemoryKind) ys) (length (memories_in xs)) (length (memories_in ys))
      (some_memory xs) (some_memory ys) few few_others may

  memories_may_meet : HasFewOf several (length (memories_in xs) + length (memories_in ys)) → may_meet several MemoryKind xs ys ≡ true
  memories_may_meet few =
      may_together several (list_any (is_of MemoryKind) xs) (list_any (is_of MemoryKind) ys) (length (memories_in xs)) (length (memories_in ys))
      (some_memory xs) (some_memory ys) few

-- both shapes of a configuration may have items of a kind
abbrev pub may_both : Config → Bool → ExternalKind → Bool
may_both c several kind = may_meet several kind (items_in c.available_imports) (items_in c.exports)

module _ (c : Config) (f : Features) (ours : AreFeaturesOf c f) where
  go : IfSome c.available_imports (IsGoodShape f Imports most_entries) → IfSome c.exports (IsGoodShape f Exports most_entries)
      → (may_both c (has f ReferenceTypes) TableKind && may_both c (has f MultiMemory) MemoryKind) ≡ true → GoTogether c
  go imports exports may =
      let both = and_parts (may_both c (has f ReferenceTypes) TableKind) (may_both c (has f MultiMemory) MemoryKind) may in
      let tables =
      few_tables (has f ReferenceTypes) (items_in c.available_imports) (items_in c.exports)
      (few_tables_in f Imports c.available_imports imports) (few_tables_in f Exports c.exports exports) both.0 in
      let memories =
      few_memories (has f MultiMemory) (items_in c.available_imports) (items_in c.exports)
      (few_memories_in f Imports c.available_imports imports) (few_memories_in f Exports c.exports exports) both.1 in
      record {
        tables = λ g theirs off. tables (ours ReferenceTypes ∙ sym (theirs ReferenceTypes) ∙ off);
        memories = λ g theirs off. memories (ours MultiMemory ∙ sym (theirs MultiMemory) ∙ off);
      }

  meet : GoTogether c → (may_both c (has f ReferenceTypes) TableKind && may_both c (has f MultiMemory) MemoryKind) ≡ true
  meet together =
      and_from (may_both c (has f ReferenceTypes) TableKind) (may_both c (has f MultiMemory) MemoryKind)
      (tables_may_meet (has f ReferenceTypes) (items_in c.available_imports) (items_in c.exports) (together.tables f ours))
      (memories_may_meet (has f MultiMemory) (items_in c.available_imports) (items_in c.exports) (together.memories f ours))

  -- the tests of both kinds tell exactly the shapes that go together, where each is good by itself
  pub tell_together : IfSome c.available_imports (IsGoodShape f Imports most_entries) → IfSome c.exports (IsGoodShape f Exports most_entries)
      → (tables memories : Bool) → tables ≡ may_both c (has f ReferenceTypes) TableKind → memories ≡ may_both c (has f MultiMemory) MemoryKind
      → IsTrue (tables && memories) ↔ GoTogether c
  tell_together imports exports tables memories first second =
      subst (λ told. IsTrue told ↔ GoTogether c) (sym (ap₂ (λ a b. a && b) first second)) (go imports exports, meet)

-- ---- an item of some list

-- some item of some part passes a test
pub any_flat : {X Y Z : Type 0} (test : Z → Bool) (parts : Y → List Z) (view : X → Y) (xs : List X)
    → list_any test (flat_map parts (map view xs)) ≡ list_any (λ x. list_any test (parts (view x))) xs
any_flat test parts view [] = refl
any_flat test parts view (x ∷ xs) =
    list_any-append test (parts (view x)) (flat_map parts (map view xs)) ∙ ap (λ b. list_any test (parts (view x)) || b) (any_flat test parts view xs)

-- what some item is seen as passes a test
pub any_mapped : {X Y : Type 0} (test : Y → Bool) (view : X → Y) (xs : List X) → list_any test (map view xs) ≡ list_any (λ x. test (view x)) xs
any_mapped test view [] = refl
any_mapped test view (x ∷ xs) = ap (λ b. test (view x) || b) (any_mapped test view xs)

-- the same item, once or more, passes a test as it does by itself
pub any_repeated : {X Y : Type 0} (test : Y → Bool) (y : Y) (xs : List X) → 0 < length xs → test y ≡ list_any test (map (λ x. y) xs)
any_repeated test y [] some = absurd (omega (arith, some))
any_repeated test y (x ∷ []) some = once (test y)
  where
    once : (b : Bool) → b ≡ (b || false)
    once true = refl
    once false = refl
any_repeated test y (x ∷ z ∷ xs) some = twice (test y) ∙ ap (λ b. test y || b) (any_repeated test y (z ∷ xs) (omega arith))
  where
    twice : (b : Bool) → b ≡ (b || b)
    twice true = refl
    twice false = refl

-- a list that isn't empty has a length above zero
pub there_are : (n m : ℕ) → (n == 0) ≡ false → m ≡ n → 0 < m
there_are zero m some same = absurd (true≢false some)
there_are (suc n) m some same = omega (arith, same)
