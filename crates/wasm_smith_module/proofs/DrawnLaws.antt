-- The module that is made is the one that is drawn.
use Rattle.std.proofs.Common.{◌≡◌, ℕ, ◌+◌, ◌-◌, Bool, true, false, ◌&&◌, not, List, [], map, length, Option, Some, None, refl, sym, ap, ◌∙◌, subst, arith, if◌then◌else◌}
use Rattle.std.specs.Option.{option_and_then}
use Rattle.std.specs.Prelude.{IfSome, nat_lt, option_map, ◌==◌}
use Rattle.wasm_spec.specs.Syntax.{ImportEntry}
use Rattle.wasm_spec.specs.Types.{SubType, RecGroup}
use Rattle.wasm_smith_config.specs.declared.config.Config.{Config}
use Rattle.wasm_smith_externs.specs.Exports.{wanted_exports}
use Rattle.wasm_smith_definitions.specs.FunctionTypes.{function_indexes}
use Rattle.wasm_smith_definitions.specs.Indexes.{index_at}
use Rattle.wasm_smith_externs.specs.Wanted.{functions_at, of_tag, start_at, wanted_tags}
use Rattle.wasm_smith_externs.specs.Imports.{AreGrownImports, asked_imports, of_import}
use Rattle.wasm_smith_externs.specs.AllExports.{AreExports}
use Rattle.wasm_smith_externs.specs.declared.names.DuplicateImportsBehavior.{DuplicateImportsBehavior}
use Rattle.wasm_smith_externs.specs.declared.shape_exports.KindCounts.{KindCounts}
use Rattle.wasm_smith_shapes.specs.Shapes.{ShapeValue}
use Rattle.wasm_smith_definitions.specs.OwnItems.{OwnValue}
use Rattle.wasm_smith_definitions.proofs.FilledLaws.{filled_alone}
use Rattle.wasm_smith_definitions.specs.Kinds.{wanted_data, wanted_elements, wanted_globals, wanted_memories, wanted_tables}
use Rattle.wasm_smith_definitions.specs.Steps.{IsGrown, Wanted, asked}
use Rattle.wasm_validity.specs.Entries.{Entry}
use Rattle.wasm_smith_types.proofs.GivenLaws.{bare_made}
use Rattle.wasm_smith_types.specs.DrawnGroups.{drawn_groups_at}
use Rattle.wasm_smith_types.specs.Growing.{grows_at, grows_from}
use Rattle.wasm_smith_types.specs.Offering.{offers}
use Rattle.wasm_smith_validity.specs.ValidGroups.{types_of}
use Rattle.wasm_smith_unstructured.specs.Draws.{bool_at}
use Rattle.wasm_smith_validity.specs.Made.{Made, MadeBody, PlacedCustom}
use Rattle.wasm_smith_validity.specs.Spaces.{Spaces, functions_of, spaces_after_all, spaces_of_types}
use Rattle.wasm_smith_module.proofs.BareLaws.{HasNoShapes, has_no_shapes, no_export_shape, no_import_shape, no_own_items}
use Rattle.wasm_smith_module.proofs.CodeLaws.{no_code}
use Rattle.wasm_smith_module.proofs.CustomLaws.{no_customs}
use Rattle.wasm_smith_module.proofs.StepLaws.{used_exports}
use Rattle.wasm_smith_module.specs.Asked.{import_bounds, own_of}
use Rattle.wasm_smith_module.specs.Building.{AreExportsFrom, AreImportsFrom, AreItems, IsBuilt, IsFront}
use Rattle.wasm_smith_module.specs.Code.{code_at}
use Rattle.wasm_smith_module.specs.Customs.{customs_at}
use Rattle.wasm_smith_module.specs.Generating.{HasFront, OwesNothingElse, bare_body, bare_module, front_at, has_shape, left_for_functions, left_unless_made, with_functions}
use Rattle.wasm_smith_module.specs.Items.{items_of}
use Rattle.wasm_smith_module.specs.ModuleValue.{ModuleValue}

-- ---- without bytes nothing is made

grows_none : (most count : ℕ) → grows_at 0 most count [] ≡ (false, [])
unfolding grows_at grows_from bool_at
grows_none most count = go (nat_lt 0 (most - count)) (0 - count) (omega arith)
  where
    go : (room : Bool) (owed : ℕ) → owed ≡ 0 → ◌≡◌ {A = Bool × List ℕ} (if room then (if nat_lt 0 owed then (true, []) else (false, [])) else (false, [])) (false, [])
    go true owed none = rw none refl
    go false owed none = refl

asked_none : (w : Wanted) (k : Spaces) → w.least ≡ 0 → asked w k [] ≡ (false, [])
asked_none w k none = go (w.can k)
  where
    go : (can : Bool) → ◌≡◌ {A = Bool × List ℕ} (if can then grows_at w.least w.most (w.count k) [] else (false, [])) (false, [])
    go true = ap (λ least. grows_at least w.most (w.count k) []) none ∙ grows_none w.most (w.count k)
    go false = refl

none_grown : {A : Type 0} (c : Config) (w : Wanted) (entry : A → Entry) (Bound : A → Type 0) (old new : Spaces) (s left : List ℕ) (items : List A) → s ≡ [] → w.least ≡ 0
    → IsGrown c w entry Bound old s new left items → (items ≡ []) × (left ≡ [])
none_grown c w entry Bound old new s left items empty none h =
    let first : asked w old s ≡ (false, []) = ap (asked w old) empty ∙ asked_none w old none in
    let nothing = h.nothing (ap (λ (d : Bool × List ℕ). d.0) first) in
    (nothing.0, nothing.1 ∙ ap (λ (d : Bool × List ℕ). d.1) first)

start_none : (allowed : Bool) (functions : List ℕ) → start_at allowed functions [] ≡ (None, [])
unfolding start_at bool_at
start_none allowed functions = go (allowed && not (length functions == 0))
  where
    go : (b : Bool) → ◌≡◌ {A = Option ℕ × List ℕ} (if b then (if false then (let choice = index_at functions [] in (Some choice.0, choice.1)) else (None, [])) else (None, [])) (None, [])
    go true = refl
    go false = refl

-- ---- the front

-- nothing was asked for: what a step left is what the first draw left
unasked : (c : Config) (types : List (SubType ℕ)) (duplicates : DuplicateImportsBehavior) (s : List ℕ) (new : Spaces) (left : List ℕ) (imports : List ImportEntry) (tags funcs after : List ℕ) (before : KindCounts)
    → HasNoShapes c → IsFront c duplicates (own_of c types) (spaces_of_types types) s new left imports tags funcs before
    → option_and_then (λ left. left_unless_made (asked (wanted_tags c) (spaces_of_types types) left)) (left_unless_made (asked_imports c (import_bounds c types) (spaces_of_types types) s)) ≡ Some after
    → (imports ≡ []) × (tags ≡ []) × (◌≡◌ {A = List ℕ × List ℕ} (funcs, left) (functions_at c (function_indexes 0 types) 0 after))
unasked c types duplicates s new left imports tags funcs after before shapeless h e =
    let k = spaces_of_types types in
    let b = import_bounds c types in
    let own = no_own_items c shapeless types in
    let first = asked_before (asked_imports c b k s) (λ left. left_unless_made (asked (wanted_tags c) k left)) after e in
    let grown_imports : AreGrownImports c b duplicates k s h.imported h.after_imports imports =
    subst (λ (shape : Option ShapeValue). AreImportsFrom shape c duplicates k s h.imported h.after_imports imports) (no_import_shape c shapeless) h.made_imports.origin in
    let none = grown_imports.nothing first.0 in
    let same : h.imported ≡ k = h.made_imports.step.known ∙ ap (λ xs. spaces_after_all k (map of_import xs)) none.0 in
    let tag_asked : asked (wanted_tags c) h.imported h.after_imports ≡ asked (wanted_tags c) k (asked_imports c b k s).1 = rw (same, none.1) refl in
    let second = asked_here (asked (wanted_tags c) k (asked_imports c b k s).1) after first.1 in
    let grown_tags = filled_alone c (wanted_tags c) of_tag _ _ (own_of c types).tags h.imported h.after_imports h.tagged h.after_tags tags h.made_tags (ap (λ (o : OwnValue). o.tags) own) in
    let no_tags = grown_tags.nothing (ap (λ (d : Bool × List ℕ). d.0) tag_asked ∙ second.0) in
    let still : h.tagged ≡ k = grown_tags.step.known ∙ ap (λ xs. spaces_after_all h.imported (map of_tag xs)) no_tags.0 ∙ same in
    let at : h.after_tags ≡ after = no_tags.1 ∙ ap (λ (d : Bool × List ℕ). d.1) tag_asked ∙ second.1 in
    let drawn : functions_at c (function_indexes 0 types) 0 after ≡ (funcs, left) =
    subst (λ t. functions_at c (function_indexes 0 types) 0 t ≡ (funcs, left)) at
    (subst (λ (it : Spaces). functions_at c (function_indexes 0 it.types) (length (functions_of it)) h.after_tags ≡ (funcs, left)) still (h.drawn (ap (λ (o : OwnValue). o.functions) own))) in
    (none.0, no_tags.0, sym drawn)
  where
    asked_here : (first : Bool × List ℕ) (after : List ℕ) → left_unless_made first ≡ Some after → (first.0 ≡ false) × (first.1 ≡ after)
    asked_here (true, t) after e = absurd cc
    asked_here (false, t) after e = let same : t ≡ after = cc in (refl, same)

    asked_before : (first : Bool × List ℕ) (next : List ℕ → Option (List ℕ)) (after : List ℕ) → option_and_then next (left_unless_made first) ≡ Some after
        → (first.0 ≡ false) × (next first.1 ≡ Some after)
    asked_before (true, t) next after e = absurd cc
    asked_before (false, t) next after e = (refl, e)

-- ---- nothing else

-- each of these numbers is 0
record AreZero (a b d e f g : ℕ) : Type 0 where
  a_is : a ≡ 0
  b_is : b ≡ 0
  d_is : d ≡ 0
  e_is : e ≡ 0
  f_is : f ≡ 0
  g_is : g ≡ 0

all_zero : (a b d e f g : ℕ) → a + b + d + e + f + g ≡ 0 → AreZero a b d e f g
all_zero a b d e f g h =
    record { a_is = omega (arith, h); b_is = omega (arith, h); d_is = omega (arith, h); e_is = omega (arith, h); f_is = omega (arith, h); g_is = omega (arith, h) }

-- The module that is made has bare types and functions.
record IsBare (m : Made) (left : List ℕ) : Type 0 where
  tables : m.tables ≡ []
  memories : m.memories ≡ []
  globals : m.globals ≡ []
  exports : m.exports ≡ []
  start : m.start ≡ None
  elems : m.elems ≡ []
  data_segments : m.data_segments ≡ []
  at : left ≡ []

none_else : (c : Config) (duplicates : DuplicateImportsBehavior) (types : List (SubType ℕ)) (s left : List ℕ) (m : Made) → HasNoShapes c → (h : AreItems c duplicates types s left (items_of m))
    → h.after_front ≡ [] → OwesNothingElse c → IsBare m left
none_else c duplicates types s left m shapeless h empty owes =
    let zeros = all_zero c.min_tables c.min_memories c.min_globals c.min_exports c.min_element_segments c.min_data_segments owes.minimums in
    let own = no_own_items c shapeless types in
    let own_here = own_of c types in
    let d = h.definitions in
    let u = h.uses in
    let grown_tables = filled_alone c (wanted_tables c) _ _ _ own_here.tables h.declared h.after_front d.with_tables d.after_tables m.tables d.made_tables (ap (λ (o : OwnValue). o.tables) own) in
    let grown_memories = filled_alone c (wanted_memories c) _ _ _ own_here.memories d.with_tables d.after_tables d.with_memories d.after_memories m.memories d.made_memories (ap (λ (o : OwnValue). o.memories) own) in
    let grown_globals = filled_alone c (wanted_globals c) _ _ _ own_here.globals d.with_memories d.after_memories h.defined h.after_definitions m.globals d.made_globals (ap (λ (o : OwnValue). o.globals) own) in
    let grown_exports : AreExports c h.imports_size h.defined h.after_definitions u.exported u.after_exports =
    subst (λ (shape : Option ShapeValue). AreExportsFrom shape c h.imports_size h.before h.defined h.after_definitions u.exported u.after_exports) (no_export_shape c shapeless) u.made_exports in
    let tables = none_grown c (wanted_tables c) _ _ h.declared d.with_tables h.after_front d.after_tables m.tables empty zeros.a_is grown_tables in
    let memories = none_grown c (wanted_memories c) _ _ d.with_tables d.with_memories d.after_tables d.after_memories m.memories tables.1 zeros.b_is grown_memories in
    let globals = none_grown c (wanted_globals c) _ _ d.with_memories h.defined d.after_memories h.after_definitions m.globals memories.1 zeros.d_is grown_globals in
    let exports = none_grown c (wanted_exports c h.imports_size) _ _ h.defined u.exported h.after_definitions u.after_exports u.exported.exports globals.1 zeros.e_is (grown_exports.drawn owes.no_exports) in
    let started : ◌≡◌ {A = Option ℕ × List ℕ} (m.start, u.after_start) (None, []) = sym u.start_drawn ∙ ap (start_at c.allow_start_export _) exports.1 ∙ start_none c.allow_start_export _ in
    let after_start : u.after_start ≡ [] = ap (λ (x : Option ℕ × List ℕ). x.1) started in
    let elems = none_grown c (wanted_elements c) _ _ u.exported u.with_elems u.after_start u.after_elems m.elems after_start zeros.f_is u.grown_elems in
    let segments = none_grown c (wanted_data c) _ _ u.with_elems h.used u.after_elems left m.data_segments elems.1 zeros.g_is u.grown_data_segments in
    record {
      tables = tables.0;
      memories = memories.0;
      globals = globals.0;
      exports = h.exports ∙ used_exports c h.imports_size h.before h.defined h.after_definitions h.used left m.start m.elems m.data_segments u ∙ exports.0;
      start = ap (λ (x : Option ℕ × List ℕ). x.0) started;
      elems = elems.0;
      data_segments = segments.0;
      at = segments.1;
    }

bare_is : (m : Made) (left : List ℕ) → m.imports ≡ [] → m.tags ≡ [] → m.bodies ≡ map (λ func. bare_body) m.funcs → m.customs ≡ [] → IsBare m left → m ≡ bare_module m.groups m.funcs
bare_is m left imports tags bodies customs h =
    rw (sym bodies) (rw (sym customs, sym imports, sym h.tables, sym h.memories, sym tags, sym h.globals, sym h.exports, sym h.start, sym h.elems, sym h.data_segments) refl)

-- ---- a module

front_for : (c : Config) (duplicates : DuplicateImportsBehavior) (old new at : List ℕ) (m : ModuleValue) → HasNoShapes c → (built : IsBuilt c duplicates old new m) → left_for_functions c m.made.groups built.after ≡ Some at
    → HasFront c (with_functions c m.made.groups at) m.made new
front_for c duplicates old new at m shapeless built e =
    let made = m.made in
    let h = built.finished.items in
    let s = built.after in
    let front = unasked c (types_of made.groups) duplicates s h.declared h.after_front made.imports made.tags made.funcs at h.before shapeless h.front e in
    record {
      groups = refl;
      funcs = ap (λ (d : List ℕ × List ℕ). d.0) front.2;
      imports = front.0;
      tags = front.1;
      alone = λ empty owes.
          let none_left : h.after_front ≡ [] = ap (λ (d : List ℕ × List ℕ). d.1) front.2 ∙ empty in
          let bare = none_else c duplicates (types_of made.groups) s built.finished.after_items made shapeless h none_left owes in
          let coded : ◌≡◌ {A = List MadeBody × List ℕ} (made.bodies, built.finished.after_code) (map (λ func. bare_body) made.funcs, []) =
          sym built.finished.code ∙ ap (code_at c.allow_invalid_funcs (offers c) (length (types_of made.groups)) (length made.funcs)) bare.at
          ∙ no_code c.allow_invalid_funcs (offers c) (length (types_of made.groups)) made.funcs in
          let bodies = ap (λ (d : List MadeBody × List ℕ). d.0) coded in
          let after : built.finished.after_code ≡ [] = ap (λ (d : List MadeBody × List ℕ). d.1) coded in
          let placed : ◌≡◌ {A = List PlacedCustom × List ℕ} (made.customs, new) ([], []) =
          sym built.finished.customs ∙ ap (customs_at c.generate_custom_sections) after ∙ no_customs c.generate_custom_sections in
          let funcs : made.funcs ≡ (functions_at c (function_indexes 0 (types_of made.groups)) 0 at).0 = ap (λ (d : List ℕ × List ℕ). d.0) front.2 in (
            bare_is made built.finished.after_items front.0 front.1 bodies (ap (λ (d : List PlacedCustom × List ℕ). d.0) placed) bare ∙ ap (bare_module made.groups) funcs,
            ap (λ (d : List PlacedCustom × List ℕ). d.1) placed,
          );
    }

pub drawn_for : (c : Config) (duplicates : DuplicateImportsBehavior) (old new : List ℕ) (m : ModuleValue) → IsBuilt c duplicates old new m
    → IfSome (front_at c old) (λ drawn. HasFront c drawn m.made new)
unfolding front_at
drawn_for c duplicates old new m built = by_shape (has_shape c) refl
  where
    from_front : HasNoShapes c → (o : Option (List ℕ)) → left_for_functions c m.made.groups built.after ≡ o → IfSome (option_map (with_functions c m.made.groups) o) (λ drawn. HasFront c drawn m.made new)
    from_front shapeless None e = tt
    from_front shapeless (Some after) e = front_for c duplicates old new after m shapeless built e

    from_groups : HasNoShapes c → (d : Option (List (RecGroup ℕ) × List ℕ)) → IfSome d (λ drawn. ◌≡◌ {A = List (RecGroup ℕ) × List ℕ} drawn (m.made.groups, built.after))
        → IfSome (option_and_then (λ (drawn : List (RecGroup ℕ) × List ℕ). option_map (with_functions c drawn.0) (left_for_functions c drawn.0 drawn.1)) d) (λ drawn. HasFront c drawn m.made new)
    from_groups shapeless None h = tt
    from_groups shapeless (Some drawn) h =
        subst (λ (d : List (RecGroup ℕ) × List ℕ). IfSome (option_map (with_functions c d.0) (left_for_functions c d.0 d.1)) (λ drawn. HasFront c drawn m.made new)) (sym h)
        (from_front shapeless (left_for_functions c m.made.groups built.after) refl)

    by_shape : (shaped : Bool) → has_shape c ≡ shaped
        → IfSome (if shaped then None else option_and_then (λ (drawn : List (RecGroup ℕ) × List ℕ). option_map (with_functions c drawn.0) (left_for_functions c drawn.0 drawn.1)) (drawn_groups_at c old)) (λ drawn. HasFront c drawn m.made new)
    by_shape true e = tt
    by_shape false e =
        let shapeless = has_no_shapes c e in
        from_groups shapeless (drawn_groups_at c old) (bare_made c shapeless.module_shape shapeless.available_imports shapeless.exports old built.after m.made.groups built.groups.made)
