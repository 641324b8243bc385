-- The index spaces of a finished module, one step after the other.
use Rattle.std.proofs.Common.{◌≡◌, ℕ, ◌+◌, List, map, length, Some, None, refl, sym, ap, ◌∙◌, subst}
use Rattle.wasm_spec.specs.Types.{SubType}
use Rattle.wasm_smith_config.specs.declared.config.Config.{Config}
use Rattle.wasm_smith_externs.proofs.ShapeExportLaws.{exports_named}
use Rattle.wasm_smith_externs.specs.AllExports.{AreExports}
use Rattle.wasm_smith_externs.specs.ShapeExports.{StandFrom, moved_types, named_in, shape_exports_from}
use Rattle.wasm_smith_externs.specs.declared.names.DuplicateImportsBehavior.{DuplicateImportsBehavior}
use Rattle.wasm_smith_module.proofs.ExportSizes.{named_stay, without_uses}
use Rattle.wasm_smith_module.proofs.FrontLaws.{defined_funcs, defined_own_memories, defined_own_tables, defined_tags, defined_types, imported_alone, stand_from, without_front}
use Rattle.wasm_smith_module.proofs.ImportBounds.{imported_are}
use Rattle.wasm_smith_module.proofs.StepLaws.{exported_alone, leads_all, used_alone, used_exports, without_exports, without_segments}
use Rattle.wasm_smith_module.specs.Asked.{asked_items, exports_in, exports_start, own_of}
use Rattle.wasm_smith_module.specs.Building.{AreExportsFrom, AreItems}
use Rattle.wasm_smith_module.specs.Items.{items_of}
use Rattle.wasm_smith_module.specs.TrueToShapes.{imported_of, spaces_of}
use Rattle.wasm_smith_shapes.specs.Shapes.{ShapeValue}
use Rattle.wasm_smith_types.specs.Given.{export_shape}
use Rattle.wasm_smith_validity.specs.ValidGroups.{types_of}
use Rattle.wasm_smith_validity.specs.Made.{Made}
use Rattle.wasm_smith_validity.specs.Spaces.{Spaces, functions_of, globals_of}
use Rattle.wasm_smith_validity.proofs.MadeSections.{made_spaces}

module _ (c : Config) (duplicates : DuplicateImportsBehavior) (m : Made) (s left : List ℕ) (h : AreItems c duplicates (types_of m.groups) s left (items_of m)) where
  abbrev types : List (SubType ℕ)
  types = types_of m.groups

  -- ---- after imports

  pub imports_are : h.front.imported ≡ imported_of m
  imports_are = imported_are c duplicates types s h.front.imported h.front.after_imports m.imports h.front.made_imports

  pub after_imports : without_front h.declared ≡ without_front h.front.imported
  after_imports = imported_alone c duplicates (own_of c types) types s h.declared h.after_front m.imports m.tags m.funcs h.before h.front

  -- ---- the spaces before exports and those in the end have the same items

  pub exported : without_segments h.used ≡ without_segments h.uses.exported
  exported = exported_alone c h.imports_size h.before h.defined h.after_definitions h.used left m.start m.elems m.data_segments h.uses

  pub unexported : without_exports h.uses.exported ≡ without_exports h.defined
  unexported = used_alone c h.imports_size h.before h.defined h.after_definitions h.used left m.start m.elems m.data_segments h.uses

  pub types_used : h.used.types ≡ types
  types_used =
      ap (λ (k : Spaces). k.types) exported ∙ ap (λ (k : Spaces). k.types) unexported
      ∙ defined_types c duplicates (own_of c types) types s h.declared h.after_front m.imports m.tags m.funcs h.before h.front h.defined h.after_definitions m.tables m.memories m.globals h.definitions

  pub funcs_used : functions_of h.used ≡ functions_of h.declared
  funcs_used =
      ap functions_of exported ∙ ap functions_of unexported
      ∙ defined_funcs c duplicates (own_of c types) types s h.declared h.after_front m.imports m.tags m.funcs h.before h.front h.defined h.after_definitions m.tables m.memories m.globals h.definitions

  pub tables_used : h.used.tables ≡ h.definitions.with_tables.tables
  tables_used =
      ap (λ (k : Spaces). k.tables) exported ∙ ap (λ (k : Spaces). k.tables) unexported
      ∙ defined_own_tables c duplicates (own_of c types) types s h.declared h.after_front m.imports m.tags m.funcs h.before h.front h.defined h.after_definitions m.tables m.memories m.globals h.definitions

  pub memories_used : h.used.memories ≡ h.definitions.with_memories.memories
  memories_used =
      ap (λ (k : Spaces). k.memories) exported ∙ ap (λ (k : Spaces). k.memories) unexported
      ∙ defined_own_memories c duplicates (own_of c types) types s h.declared h.after_front m.imports m.tags m.funcs h.before h.front h.defined h.after_definitions m.tables m.memories m.globals
      h.definitions

  pub tags_used : h.used.tags ≡ h.declared.tags
  tags_used =
      ap (λ (k : Spaces). k.tags) exported ∙ ap (λ (k : Spaces). k.tags) unexported
      ∙ defined_tags c duplicates (own_of c types) types s h.declared h.after_front m.imports m.tags m.funcs h.before h.front h.defined h.after_definitions m.tables m.memories m.globals h.definitions

  pub globals_used : globals_of h.used ≡ globals_of h.defined
  globals_used = ap globals_of exported ∙ ap globals_of unexported

  pub exports_are : m.exports ≡ h.uses.exported.exports
  exports_are = h.exports ∙ used_exports c h.imports_size h.before h.defined h.after_definitions h.used left m.start m.elems m.data_segments h.uses

  pub used_are : h.used ≡ spaces_of m
  used_are = (leads_all c duplicates m s left h).known ∙ sym (made_spaces m)

  -- ---- exports

  pub drawn_exports : export_shape c ≡ None → AreExports c h.imports_size h.defined h.after_definitions h.uses.exported h.uses.after_exports
  drawn_exports none = subst (λ asked. AreExportsFrom asked c h.imports_size h.before h.defined h.after_definitions h.uses.exported h.uses.after_exports) none h.uses.made_exports

  pub asked_exports : (shape : ShapeValue) → export_shape c ≡ Some shape → m.exports ≡ shape_exports_from h.before shape.exports
  asked_exports shape asked =
      exports_are ∙ (subst (λ x. AreExportsFrom x c h.imports_size h.before h.defined h.after_definitions h.uses.exported h.uses.after_exports) asked h.uses.made_exports).0

  -- each export of a shape names the item that is asked for it
  pub exports_name : (shape : ShapeValue) → export_shape c ≡ Some shape → named_in h.used m.exports ≡ map (λ type. Some type) (asked_items c (length types))
  exports_name shape asked =
      let f : ℕ → ℕ = λ r. exports_start c (length types) + r in
      let items : asked_items c (length types) ≡ moved_types f shape.exports = ap (λ x. moved_types f (exports_in x)) asked in
      let stand : StandFrom h.defined h.before (asked_items c (length types)) =
      stand_from c duplicates (own_of c types) types s h.declared h.after_front m.imports m.tags m.funcs h.before h.front h.defined h.after_definitions m.tables m.memories m.globals h.definitions refl in
      let same : without_uses h.used ≡ without_uses h.defined = ap without_uses exported ∙ ap without_uses unexported in
      named_stay h.used h.defined same m.exports ∙ ap (named_in h.defined) (asked_exports shape asked)
      ∙ exports_named h.defined h.before f shape.exports (subst (StandFrom h.defined h.before) items stand) ∙ ap (map (λ type. Some type)) (sym items)
