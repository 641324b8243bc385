-- A finished module is true to the shapes of its configuration.
use Rattle.std.proofs.Common.{◌≡◌, ℕ, ◌+◌, Bool, not, List, [], map, flat_map, length, Option, Some, None, IfSome, is_some, option_map, refl, sym, ap, ◌∙◌, subst, if◌then◌else◌}
use Rattle.std.proofs.lemmas.Bool.{not_from_true}
use Rattle.wasm_spec.specs.Syntax.{Export, ImportEntry}
use Rattle.wasm_smith_config.specs.declared.config.Config.{Config}
use Rattle.wasm_smith_externs.proofs.ShapeImportLaws.{all_chosen, imports_named}
use Rattle.wasm_smith_externs.specs.Named.{all_named}
use Rattle.wasm_smith_externs.specs.ShapeExports.{named_in, shape_exports_from}
use Rattle.wasm_smith_externs.specs.ShapeImports.{chosen_at, entry_map, shape_imports_at, written}
use Rattle.wasm_smith_externs.specs.declared.names.DuplicateImportsBehavior.{DuplicateImportsBehavior}
use Rattle.wasm_smith_externs.specs.declared.shape_exports.KindCounts.{KindCounts}
use Rattle.wasm_smith_module.proofs.ExportSizes.{names_asked}
use Rattle.wasm_smith_module.proofs.GivenImports.{chosen_entries}
use Rattle.wasm_smith_module.proofs.GivenTypes.{made_types}
use Rattle.wasm_smith_module.proofs.ImportBounds.{given_entries}
use Rattle.wasm_smith_module.proofs.ItemSpaces.{asked_exports, exports_name, imports_are, used_are}
use Rattle.wasm_smith_module.specs.Asked.{asked_items, counts_of, imports_start}
use Rattle.wasm_smith_module.specs.Building.{AreItems, IsBuilt}
use Rattle.wasm_smith_module.specs.Items.{items_of}
use Rattle.wasm_smith_module.specs.ModuleValue.{ModuleValue}
use Rattle.wasm_smith_module.specs.TrueToShapes.{HasExportsOf, HasImportsOf, IsTrueTo, TakesImports, import_index, imported_of, left_after_types}
use Rattle.wasm_smith_shapes.specs.Shapes.{ShapeValue}
use Rattle.wasm_spec.specs.Types.{RecGroup}
use Rattle.wasm_smith_types.specs.DrawnGroups.{drawn_groups_at}
use Rattle.wasm_smith_types.specs.Given.{AreMade, AreMadeFor, export_shape, for_drawing, import_shape}
use Rattle.wasm_smith_validity.specs.Made.{Made}
use Rattle.wasm_smith_validity.specs.Spaces.{Spaces}
use Rattle.wasm_smith_validity.specs.ValidGroups.{types_of}

-- ---- imports and exports

-- an option's claim, from the case that there is something
some_holds : {A : Type 0} (o : Option A) (P : A → Type 0) → ((x : A) → o ≡ Some x → P x) → IfSome o P
some_holds (Some x) P h = h x refl
some_holds None P h = tt

taken_entries : (drawn compact : Bool) (f : ℕ → ℕ) (entries : List ImportEntry) (s : List ℕ)
    → (shape_imports_at drawn compact f entries s).0 ≡ flat_map (written compact) (map (entry_map f) (chosen_at drawn entries s).0)
unfolding shape_imports_at
taken_entries drawn compact f entries s = refl

module _ (c : Config) (duplicates : DuplicateImportsBehavior) (m : Made) (s left : List ℕ) (h : AreItems c duplicates (types_of m.groups) s left (items_of m)) where
  true_imports : (shape : ShapeValue) → import_shape c ≡ Some shape → HasImportsOf c m shape
  true_imports shape asked =
      let drawn = not (is_some c.module_shape) in
      let f : ℕ → ℕ = λ index. imports_start c (length (types_of m.groups)) + index in
      let are = ap (λ (x : List ImportEntry × List ℕ). x.0) (given_entries c duplicates (types_of m.groups) s h.front.imported h.front.after_imports m.imports h.front.made_imports shape asked) in
      record {
        chosen = (chosen_at drawn shape.imports s).0;
        part = chosen_entries drawn shape.imports s;
        all = λ whole. ap (λ (x : List ImportEntry × List ℕ). x.0) (all_chosen drawn shape.imports s (not_from_true (is_some c.module_shape) whole));
        entries = are ∙ taken_entries drawn c.compact_imports_enabled f shape.imports s;
        are = ap all_named are ∙ imports_named drawn c.compact_imports_enabled f shape.imports s;
      }

  true_exports : (shape : ShapeValue) → export_shape c ≡ Some shape → HasExportsOf c m shape
  true_exports shape asked =
      let are : m.exports ≡ shape_exports_from h.before shape.exports = asked_exports c duplicates m s left h shape asked in
      let before : h.before ≡ counts_of (imported_of m) = h.front.counts ∙ ap counts_of (imports_are c duplicates m s left h) in
      record {
        names = ap (map (λ (export : Export). export.name)) are ∙ names_asked h.before [] shape.exports;
        types =
            subst (λ (k : Spaces). named_in k m.exports ≡ map (λ type. Some type) (asked_items c (length (types_of m.groups)))) (used_are c duplicates m s left h)
            (exports_name c duplicates m s left h shape asked);
        own = are ∙ ap (λ (counts : KindCounts). shape_exports_from counts shape.exports) before;
      }

-- ---- a module

pub true_for : (c : Config) (duplicates : DuplicateImportsBehavior) (old new : List ℕ) (m : ModuleValue) → IsBuilt c duplicates old new m → IsTrueTo c m.made
true_for c duplicates old new m built =
    let s = built.after in
    let left = built.finished.after_items in
    let h = built.finished.items in
    record {
      types = made_types c old s m.made.groups built.groups.made;
      imports = some_holds (import_shape c) (HasImportsOf c m.made) (true_imports c duplicates m.made s left h);
      exports = some_holds (export_shape c) (HasExportsOf c m.made) (true_exports c duplicates m.made s left h);
    }

-- ---- the imports are those that the bytes behind the types choose

left_after : (c : Config) (old new : List ℕ) (groups : List (RecGroup ℕ)) → AreMade c old new groups → IfSome (left_after_types c old) (λ left. left ≡ new)
left_after c old new groups h = go c.module_shape h
  where
    drawn_left : (d : Option (List (RecGroup ℕ) × List ℕ)) (drawn : List (RecGroup ℕ)) → IfSome d (λ x. ◌≡◌ {A = List (RecGroup ℕ) × List ℕ} x (drawn, new))
        → IfSome (option_map (λ (x : List (RecGroup ℕ) × List ℕ). x.1) d) (λ left. left ≡ new)
    drawn_left (Some x) drawn e = ap (λ (x : List (RecGroup ℕ) × List ℕ). x.1) e
    drawn_left None drawn e = tt

    go : (asked : Option ShapeValue) → AreMadeFor asked c old new groups
        → IfSome (if is_some asked then Some old else option_map (λ (drawn : List (RecGroup ℕ) × List ℕ). drawn.1) (drawn_groups_at (for_drawing c) old)) (λ left. left ≡ new)
    go (Some shape) h = sym h.1
    go None h = drawn_left (drawn_groups_at (for_drawing c) old) h.drawn h.exact

pub takes_for : (c : Config) (duplicates : DuplicateImportsBehavior) (old new : List ℕ) (m : ModuleValue) → IsBuilt c duplicates old new m → TakesImports c old m.made
takes_for c duplicates old new m built = some_holds (import_shape c) _ (λ shape asked. go shape asked (left_after_types c old) (left_after c old built.after m.made.groups built.groups.made))
  where
    go : (shape : ShapeValue) → import_shape c ≡ Some shape → (left : Option (List ℕ)) → IfSome left (λ left. left ≡ built.after)
        → IfSome left (λ left. m.made.imports ≡ (shape_imports_at (not (is_some c.module_shape)) c.compact_imports_enabled (import_index c m.made) shape.imports left).0)
    go shape asked (Some left) e =
        let front = built.finished.items.front in
        let entries = given_entries c duplicates (types_of m.made.groups) built.after front.imported front.after_imports m.made.imports front.made_imports shape asked in
        rw e (ap (λ (x : List ImportEntry × List ℕ). x.0) entries)
    go shape asked None e = tt
