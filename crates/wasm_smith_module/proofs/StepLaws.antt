-- A whole module's items, one kind after the other.
use Rattle.std.proofs.Common.{◌≡◌, ℕ, ◌+◌, List, [], ◌∷◌, ◌++◌, map, length, refl, ap, sym, ◌∙◌, subst, Option, arith}
use Rattle.std.specs.Option.{option_to_list}
use Rattle.wasm_spec.specs.Syntax.{Export, ElementSegment, DataSegment}
use Rattle.wasm_smith_config.specs.declared.config.Config.{Config}
use Rattle.wasm_smith_externs.specs.Wanted.{of_start}
use Rattle.wasm_smith_externs.specs.Imports.{of_import}
use Rattle.wasm_smith_externs.specs.declared.names.DuplicateImportsBehavior.{DuplicateImportsBehavior}
use Rattle.wasm_smith_externs.specs.declared.shape_exports.KindCounts.{KindCounts}
use Rattle.wasm_smith_definitions.proofs.FrameLaws.{kept_by}
use Rattle.wasm_smith_definitions.specs.Kinds.{of_data, of_element, of_export, of_global}
use Rattle.wasm_smith_definitions.specs.Steps.{IsStep}
use Rattle.wasm_smith_validity.specs.ValidGroups.{types_of}
use Rattle.wasm_smith_validity.specs.Made.{Made}
use Rattle.wasm_smith_validity.specs.Spaces.{Spaces, spaces_after, spaces_after_all, spaces_of_types}
use Rattle.wasm_smith_validity.proofs.MadeSections.{entries_behind_types}
use Rattle.wasm_smith_module.proofs.FrontLaws.{funcs_step, globals_step, memories_step, tables_step, tags_step}
use Rattle.wasm_smith_module.proofs.TagLaws.{Leads, leads_by, leads_on, moved_tags}
use Rattle.wasm_smith_module.specs.Asked.{own_of}
use Rattle.wasm_smith_module.specs.Building.{AreItems, AreUses}
use Rattle.wasm_smith_module.specs.Items.{items_of}

-- what segments leave as it was
abbrev pub without_segments : Spaces → Spaces
without_segments k = record k { element_segments = 0; data_segments = 0 }

-- what exports leave as it was
abbrev pub without_exports : Spaces → Spaces
without_exports k = record k { exports = [] }

module _ (c : Config) (size : ℕ) (before : KindCounts) (old : Spaces) (s : List ℕ) (new : Spaces) (left : List ℕ) (start : Option ℕ) (elems : List ElementSegment) (data_segments : List DataSegment)
    (h : AreUses c size before old s new left start elems data_segments) where
  pub exported_alone : without_segments new ≡ without_segments h.exported
  exported_alone =
      kept_by without_segments c of_data h.with_elems new data_segments (λ k x. refl) h.grown_data_segments.step
      ∙ kept_by without_segments c of_element h.exported h.with_elems elems (λ k x. refl) h.grown_elems.step

  pub used_alone : without_exports h.exported ≡ without_exports old
  used_alone = kept_by without_exports c of_export old h.exported h.exported.exports (λ k x. refl) h.exports_step

  pub used_exports : new.exports ≡ h.exported.exports
  used_exports = ap (λ (k : Spaces). k.exports) exported_alone

  leads_uses : (exports : List Export) → exports ≡ h.exported.exports
      → Leads c old new (map of_export exports ++ (map of_start (option_to_list start) ++ (map of_element elems ++ map of_data data_segments)))
  leads_uses exports are =
      leads_on c old h.exported new (map of_export exports) _ (leads_by c of_export old h.exported exports (subst (IsStep c of_export old h.exported) (sym are) h.exports_step))
      (leads_on c h.exported h.exported new (map of_start (option_to_list start)) _ (leads_by c of_start h.exported h.exported (option_to_list start) h.starts)
      (leads_on c h.exported h.with_elems new (map of_element elems) _ (leads_by c of_element h.exported h.with_elems elems h.grown_elems.step)
      (leads_by c of_data h.with_elems new data_segments h.grown_data_segments.step)))

-- ---- all items

pub leads_all : (c : Config) (duplicates : DuplicateImportsBehavior) (m : Made) (s left : List ℕ) → (h : AreItems c duplicates (types_of m.groups) s left (items_of m))
    → Leads c (spaces_of_types (types_of m.groups)) h.used (entries_behind_types m)
leads_all c duplicates m s left h =
    let types = types_of m.groups in
    let own = own_of c types in
    let start = spaces_of_types types in
    let front = h.front in
    let definitions = h.definitions in
    let exports = h.exports ∙ used_exports c h.imports_size h.before h.defined h.after_definitions h.used left m.start m.elems m.data_segments h.uses in
    leads_on c start front.imported h.used (map of_import m.imports) _ (leads_by c of_import start front.imported m.imports front.made_imports.step)
    (moved_tags c front.imported front.tagged h.declared definitions.with_tables definitions.with_memories h.used m.tags m.funcs m.tables m.memories _
    (tags_step c duplicates own types s h.declared h.after_front m.imports m.tags m.funcs h.before front)
    (funcs_step c duplicates own types s h.declared h.after_front m.imports m.tags m.funcs h.before front)
    (tables_step c duplicates own types s h.declared h.after_front m.imports m.tags m.funcs h.before front h.defined h.after_definitions m.tables m.memories m.globals definitions)
    (memories_step c duplicates own types s h.declared h.after_front m.imports m.tags m.funcs h.before front h.defined h.after_definitions m.tables m.memories m.globals definitions)
    (leads_on c definitions.with_memories h.defined h.used (map of_global m.globals) _
    (leads_by c of_global definitions.with_memories h.defined m.globals
    (globals_step c duplicates own types s h.declared h.after_front m.imports m.tags m.funcs h.before front h.defined h.after_definitions m.tables m.memories m.globals definitions))
    (leads_uses c h.imports_size h.before h.defined h.after_definitions h.used left m.start m.elems m.data_segments h.uses m.exports exports)))

-- ---- segments are counted

counted_elements : (k : Spaces) (xs : List ElementSegment) → (spaces_after_all k (map of_element xs)).element_segments ≡ length xs + k.element_segments
counted_elements k [] = omega arith
counted_elements k (x ∷ xs) = omega (arith, counted_elements (spaces_after k (of_element x)) xs)

counted_data : (k : Spaces) (xs : List DataSegment) → (spaces_after_all k (map of_data xs)).data_segments ≡ length xs + k.data_segments
counted_data k [] = omega arith
counted_data k (x ∷ xs) = omega (arith, counted_data (spaces_after k (of_data x)) xs)

pub count_elements : (c : Config) (old new : Spaces) (xs : List ElementSegment) → IsStep c of_element old new xs → new.element_segments ≡ length xs + old.element_segments
count_elements c old new xs h = ap (λ (k : Spaces). k.element_segments) h.known ∙ counted_elements old xs

pub count_data : (c : Config) (old new : Spaces) (xs : List DataSegment) → IsStep c of_data old new xs → new.data_segments ≡ length xs + old.data_segments
count_data c old new xs h = ap (λ (k : Spaces). k.data_segments) h.known ∙ counted_data old xs
