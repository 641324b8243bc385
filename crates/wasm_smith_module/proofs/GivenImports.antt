-- Imports that are taken from a shape.
use Rattle.std.proofs.Common.{◌≡◌, ℕ, ◌+◌, ◌≤◌, ◌^◌, Bool, true, false, not, List, [], ◌∷◌, ◌++◌, map, length, Some, is_some, refl, sym, ap, ◌∙◌, subst, arith, if◌then◌else◌}
use Rattle.std.specs.List.{AllByRecursion, flat_map}
use Rattle.wasm_spec.specs.Features.{Features}
use Rattle.wasm_spec.specs.Syntax.{ImportEntry, ImportItem, Import, CompactItems, CompactNames, imported_by}
use Rattle.wasm_spec.specs.TypeReferences.{external_map}
use Rattle.wasm_spec.specs.Types.{ExternalType}
use Rattle.wasm_smith_config.proofs.UnionLaws.{flags, grown_by}
use Rattle.wasm_smith_config.specs.Config.{AreFeaturesOf, IsGood}
use Rattle.wasm_smith_config.specs.Rows.{switches}
use Rattle.wasm_smith_config.specs.declared.config.Config.{Config}
use Rattle.wasm_smith_definitions.proofs.MovedImports.{shape_imports_moved}
use Rattle.wasm_smith_definitions.proofs.MovedTypes.{IsBelow, Moves, items_shifted}
use Rattle.wasm_smith_definitions.proofs.ShapeRules.{shape_imports_below}
use Rattle.wasm_smith_definitions.specs.Parts.{IsPart, none, kept, left_out}
use Rattle.wasm_smith_definitions.specs.Steps.{IsStep}
use Rattle.wasm_smith_externs.proofs.ImportLaws.{keep_entries, spaces_by_entries}
use Rattle.wasm_smith_externs.proofs.ShapeImportLaws.{all_types, chosen_part, imports_made}
use Rattle.wasm_smith_externs.proofs.ShapeImportLaws.{imports_moved as all_moved}
use Rattle.wasm_smith_externs.specs.Imports.{IsMadeEntry, of_import}
use Rattle.wasm_smith_externs.specs.ShapeImports.{chosen_at, entry_map, import_map, shape_imports_at, takes_at, written}
use Rattle.wasm_smith_externs.specs.declared.names.DuplicateImportsBehavior.{DuplicateImportsBehavior}
use Rattle.wasm_smith_module.proofs.ShapeTypes.{imports_moved}
use Rattle.wasm_smith_module.specs.Asked.{IsGoodFor, imports_start}
use Rattle.wasm_smith_module.specs.Building.{AreImports}
use Rattle.wasm_smith_module.specs.TrueToShapes.{AreTypesOf}
use Rattle.wasm_smith_shapes.specs.declared.shape.ShapeUse.{ShapeUse}
use Rattle.wasm_smith_shapes.specs.Shapes.{ShapeValue, imported_items, shape_types}
use Rattle.wasm_smith_types.specs.Copies.{shifted_index}
use Rattle.wasm_smith_types.specs.Given.{import_shape}
use Rattle.wasm_smith_validity.specs.Rules.{keep_items}
use Rattle.wasm_smith_validity.specs.Spaces.{Spaces, spaces_of_types, with_items}

-- ---- entries that are written alike

-- two ways to move the types of an entry's imports move them alike
abbrev AreMovedAlike : (ℕ → ℕ) → (ℕ → ℕ) → ImportEntry → Type 0
AreMovedAlike f g entry = map (external_map f) (imported_by entry) ≡ map (external_map g) (imported_by entry)

items_alike : (f g : ℕ → ℕ) (items : List ImportItem) → map (external_map f) (map (λ (item : ImportItem). item.type) items) ≡ map (external_map g) (map (λ (item : ImportItem). item.type) items)
    → map (import_map f) items ≡ map (import_map g) items
items_alike f g [] e = refl
items_alike f g (item ∷ items) e =
    let first : external_map f item.type ≡ external_map g item.type = cc in
    let others : map (external_map f) (map (λ (item : ImportItem). item.type) items) ≡ map (external_map g) (map (λ (item : ImportItem). item.type) items) = cc in
    rw (first, items_alike f g items others) refl

written_alike : (f g : ℕ → ℕ) (compact : Bool) (entry : ImportEntry) → AreMovedAlike f g entry → written compact (entry_map f entry) ≡ written compact (entry_map g entry)
written_alike f g compact (Import origin name type) e = let same : external_map f type ≡ external_map g type = cc in rw same refl
written_alike f g compact (CompactItems origin items) e = rw (items_alike f g items e) refl
written_alike f g true (CompactNames origin type []) e = refl
written_alike f g false (CompactNames origin type []) e = refl
written_alike f g compact (CompactNames origin type (name ∷ names)) e =
    let same : external_map f type ≡ external_map g type = cc in ap (λ moved. written compact (CompactNames origin moved (name ∷ names))) same

all_written_alike : (f g : ℕ → ℕ) (compact : Bool) (entries : List ImportEntry) → AllByRecursion (AreMovedAlike f g) entries
    → flat_map (written compact) (map (entry_map f) entries) ≡ flat_map (written compact) (map (entry_map g) entries)
all_written_alike f g compact [] h = refl
all_written_alike f g compact (entry ∷ entries) h = rw (written_alike f g compact entry h.0, all_written_alike f g compact entries h.1) refl

all_parts : {A : Type 0} (P : A → Type 0) (xs ys : List A) → AllByRecursion P (xs ++ ys) → AllByRecursion P xs × AllByRecursion P ys
all_parts P [] ys all = (tt, all)
all_parts P (x ∷ xs) ys all = let others = all_parts P xs ys all.1 in ((all.0, others.0), others.1)

entries_below : (m n : ℕ) (entries : List ImportEntry) → m + n ≤ 2 ^ 32 → AllByRecursion (IsBelow n) (flat_map imported_by entries) → AllByRecursion (AreMovedAlike (shifted_index 0 m) (λ r. m + r)) entries
entries_below m n [] few below = tt
entries_below m n (entry ∷ entries) few below =
    let parts = all_parts (IsBelow n) (imported_by entry) (flat_map imported_by entries) below in
    (items_shifted m n (imported_by entry) few parts.0, entries_below m n entries few parts.1)

-- ---- entries that are taken

chosen_all : (P : ImportEntry → Type 0) (drawn : Bool) (entries : List ImportEntry) (s : List ℕ) → AllByRecursion P entries → AllByRecursion P (chosen_at drawn entries s).0
unfolding chosen_at
chosen_all P drawn [] s h = tt
chosen_all P drawn (entry ∷ entries) s h = go (takes_at drawn s).0 (chosen_at drawn entries (takes_at drawn s).1).0 (chosen_all P drawn entries (takes_at drawn s).1 h.1)
  where
    go : (b : Bool) (others : List ImportEntry) → AllByRecursion P others → AllByRecursion P ((if b then entry ∷ [] else []) ++ others)
    go true others all = (h.0, all)
    go false others all = all

pub chosen_entries : (drawn : Bool) (entries : List ImportEntry) (s : List ℕ) → IsPart (chosen_at drawn entries s).0 entries
unfolding chosen_at
chosen_entries drawn [] s = none
chosen_entries drawn (entry ∷ entries) s = go (takes_at drawn s).0 (chosen_at drawn entries (takes_at drawn s).1).0 (chosen_entries drawn entries (takes_at drawn s).1)
  where
    go : (b : Bool) (others : List ImportEntry) → IsPart others entries → IsPart ((if b then entry ∷ [] else []) ++ others) (entry ∷ entries)
    go true others part = kept part
    go false others part = left_out part

-- numbers that wrap at 2 ^ 32 don't, where a shape's imports name its types alone
pub shifted_imports : (drawn compact : Bool) (m n : ℕ) (entries : List ImportEntry) (s : List ℕ) → m + n ≤ 2 ^ 32 → AllByRecursion (IsBelow n) (flat_map imported_by entries)
    → shape_imports_at drawn compact (shifted_index 0 m) entries s ≡ shape_imports_at drawn compact (λ r. m + r) entries s
unfolding shape_imports_at
shifted_imports drawn compact m n entries s few below =
    let alike = chosen_all (AreMovedAlike (shifted_index 0 m) (λ r. m + r)) drawn entries s (entries_below m n entries few below) in
    ap (λ (made : List ImportEntry). (made, (chosen_at drawn entries s).1)) (all_written_alike (shifted_index 0 m) (λ r. m + r) compact (chosen_at drawn entries s).0 alike)

-- ---- imports keep their rules

pub given_step : (c : Config) (old new : Spaces) (shape : ShapeValue) (f : ℕ → ℕ) (chosen : List (ExternalType ℕ)) (entries : List ImportEntry) → Moves f (shape_types shape) old.types
    → ((features : Features) → AreFeaturesOf c features → keep_items features (spaces_of_types (shape_types shape)) (imported_items shape) ≡ true) → old.tables ≡ [] → old.memories ≡ []
    → IsPart chosen (imported_items shape) → flat_map imported_by entries ≡ map (external_map f) chosen → AllByRecursion (IsMadeEntry c) entries → new ≡ with_items old (flat_map imported_by entries)
    → IsStep c of_import old new entries
given_step c old new shape f chosen entries moves keep no_tables no_memories part are made known = record {
  keep = λ features is.
      let kept = shape_imports_moved features f old.types shape old moves part refl no_tables no_memories (keep features is) in
      keep_entries c features old entries made (rw (all_types entries, are) kept);
  known = known ∙ ap (with_items old) (sym (all_types entries)) ∙ spaces_by_entries old entries;
}

-- ---- the step

pub given_imports : (c : Config) (duplicates : DuplicateImportsBehavior) (old new : Spaces) (s left : List ℕ) (entries : List ImportEntry) (shape : ShapeValue) (purpose : ShapeUse) (drawn : Bool) (by : ℕ)
    → IsGood c → AreTypesOf c old.types → length old.types ≤ 2 ^ 31 → old ≡ spaces_of_types old.types → import_shape c ≡ Some shape → drawn ≡ not (is_some c.module_shape)
    → IsGoodFor c purpose (Some shape) → by ≡ imports_start c (length old.types)
    → ◌≡◌ {A = List ImportEntry × List ℕ} (entries, left) (shape_imports_at drawn c.compact_imports_enabled (shifted_index 0 by) shape.imports s)
    → new ≡ with_items old (flat_map imported_by entries) → AreImports c duplicates old s new left entries
given_imports c duplicates old new s left entries shape purpose drawn by good types few start asked is_drawn is_good at made known =
    let compact = c.compact_imports_enabled in
    let sample = is_good (grown_by 0 (switches c)) (flags c) in
    let below = shape_imports_below (grown_by 0 (switches c)) shape sample.imports.kept in
    let fits : by + length (shape_types shape) ≤ 2 ^ 32 = let few_types = sample.groups.few in omega (arith, at, few, few_types) in
    let exact : ◌≡◌ {A = List ImportEntry × List ℕ} (entries, left) (shape_imports_at drawn compact (λ r. by + r) shape.imports s) =
    made ∙ shifted_imports drawn compact by (length (shape_types shape)) shape.imports s fits below in
    let are : entries ≡ (shape_imports_at drawn compact (λ r. by + r) shape.imports s).0 = ap (λ (x : List ImportEntry × List ℕ). x.0) exact in
    let moves : Moves (λ r. by + r) (shape_types shape) old.types = rw at (imports_moved c old.types good types shape asked) in
    record {
      step =
          given_step c old new shape (λ r. by + r) (flat_map imported_by (chosen_at drawn shape.imports s).0) entries moves (λ features is. (is_good features is).imports.kept)
          (ap (λ (k : Spaces). k.tables) start) (ap (λ (k : Spaces). k.memories) start) (chosen_part drawn shape.imports s)
          (ap (flat_map imported_by) are ∙ all_moved drawn compact (λ r. by + r) shape.imports s)
          (subst (AllByRecursion (IsMadeEntry c)) (sym are) (imports_made drawn (λ r. by + r) shape.imports s c)) known;
      origin = rw asked (rw (sym is_drawn, sym at) exact);
    }
