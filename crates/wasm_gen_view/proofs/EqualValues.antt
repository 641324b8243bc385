-- Equality of items and views decides if they have equal values.
use Rattle.std.specs.Prelude.{◌≡◌, ℕ, Bool, List, refl}
use Rattle.std.specs.Cmp.{IsEquivalence}
use Rattle.wasm_spec.specs.Trees.{section_types}
use Rattle.wasm_validity.specs.IndexSpaces.{Spaces}
use Rattle.std.specs.Global.{Vec}
use Rattle.std.specs.Bool.{Decides}
use Rattle.std.specs.Cmp.Lexicographic.{bytes_decides, pointwise}
use Rattle.std.specs.String.{string_bytes}
use Rattle.std.proofs.Common.{ap, rules, sym, ◌∙◌}
use Rattle.std.proofs.lemmas.Bool.Decides.{Decides-and, Decides-eqb, Decides-like, same_from_decides}
use Rattle.std.proofs.lemmas.Slice.Eq.{slice_eq-Decides}
use Rattle.wasm_spec.specs.Types as spec
use Rattle.wasm_gen_view.specs.declared.types.TypeReference.{TypeReference}
use Rattle.wasm_gen_view.proofs.SameViews.{one_meaning, one_view}
use Rattle.wasm_gen_view.proofs.EqualityLaws.{flags_decide, lists_decide, refs_decide, subs_decide, vals_decide}
use Rattle.wasm_gen_view.specs.Numbers.{group_types}
use Rattle.wasm_gen_view.specs.SameViews.{Viewed, as_trees, named_item, viewed}
use Rattle.wasm_gen_view.specs.Types.{ref_type, sub_type}
use Rattle.wasm_gen_view.specs.Views.{HasTypes, IsViewOf, Named, global_type, item_type, memory_type, table_type}
use Rattle.wasm_gen_view.specs.contracts.view.ExportPartialEq.TheImpl as exports
use Rattle.wasm_gen_view.specs.contracts.view.GlobalTypePartialEq.TheImpl as globals
use Rattle.wasm_gen_view.specs.contracts.view.ItemPartialEq.TheImpl as items
use Rattle.wasm_gen_view.specs.contracts.view.MemoryTypePartialEq.TheImpl as memories
use Rattle.wasm_gen_view.specs.contracts.view.TableTypePartialEq.TheImpl as tables
use Rattle.wasm_gen_view.specs.contracts.types.SubTypePartialEq.TheImpl as sub_types
use Rattle.wasm_gen_view.specs.contracts.types.TypePlacePartialEq.TheImpl as places
use Rattle.wasm_gen_view.specs.contracts.view.ViewPartialEq.TheImpl as views
use Rattle.wasm_gen_view.specs.declared.types.SubType.{SubType}
use Rattle.wasm_gen_view.specs.declared.types.TypePlace.{TypePlace}
use Rattle.wasm_gen_view.specs.declared.view.View.{View}
use Rattle.wasm_gen_view.specs.declared.view.Export.{Export}
use Rattle.wasm_gen_view.specs.declared.view.GlobalType.{GlobalType}
use Rattle.wasm_gen_view.specs.declared.view.Item.{Item}
use Rattle.wasm_gen_view.specs.declared.view.MemoryType.{MemoryType}
use Rattle.wasm_gen_view.specs.declared.view.TableType.{TableType}

pub tables_decide : (a b : TableType) → Decides (tables.ghosts.eq a b) (table_type a ≡ table_type b)
tables_decide a b =
    Decides-like _ (λ p. cc (p.0, p.1.0, p.1.1.0, p.1.1.1))
    (λ p. (ap (λ (t : spec.TableType TypeReference). t.element_type) p, (ap (λ (t : spec.TableType TypeReference). t.limits.minimum) p, (ap (λ (t : spec.TableType TypeReference). t.limits.maximum) p, ap (λ (t : spec.TableType TypeReference). t.limits.is_64) p))))
    (Decides-and _ _ (refs_decide a.element_type b.element_type) (Decides-and _ _ (Decides-eqb a.minimum b.minimum) (Decides-and {P = a.maximum ≡ b.maximum} _ _ (search (rules, Decides-eqb)) (flags_decide a.table64 b.table64))))

pub memories_decide : (a b : MemoryType) → Decides (memories.ghosts.eq a b) (memory_type a ≡ memory_type b)
memories_decide a b =
    Decides-like _ (λ p. cc (p.0, p.1.0, p.1.1.0, p.1.1.1.0, p.1.1.1.1))
    (λ p. (ap (λ (t : spec.Limits). t.minimum) p, (ap (λ (t : spec.Limits). t.maximum) p, (ap (λ (t : spec.Limits). t.is_64) p, (ap (λ (t : spec.Limits). t.shared) p, ap (λ (t : spec.Limits). t.page_size_log2) p)))))
    (Decides-and _ _ (Decides-eqb a.minimum b.minimum) (Decides-and {P = a.maximum ≡ b.maximum} _ _ (search (rules, Decides-eqb)) (Decides-and _ _ (flags_decide a.memory64 b.memory64) (Decides-and {Q = a.page_size_log2 ≡ b.page_size_log2} _ _ (flags_decide a.shared b.shared) (search (rules, Decides-eqb))))))

pub globals_decide : (a b : GlobalType) → Decides (globals.ghosts.eq a b) (global_type a ≡ global_type b)
globals_decide a b =
    Decides-like _ (λ p. cc (p.0, p.1)) (λ p. (ap (λ (t : spec.GlobalType TypeReference). t.value_type) p, ap (λ (t : spec.GlobalType TypeReference). t.mutable) p))
    (Decides-and _ _ (vals_decide a.value_type b.value_type) (flags_decide a.mutable b.mutable))

pub items_decide : (a b : Item) → Decides (items.ghosts.eq a b) (item_type a ≡ item_type b)
items_decide a b = search (rules, tables_decide, memories_decide, globals_decide)

pub exports_decide : (a b : Export) → Decides (exports.ghosts.eq a b) (named_item a ≡ named_item b)
exports_decide a b =
    Decides-like _ (λ p. cc (p.0, p.1)) (λ p. (ap (λ (t : Named TypeReference). t.name) p, ap (λ (t : Named TypeReference). t.item) p))
    (Decides-and {P = string_bytes a.name ≡ string_bytes b.name} _ _ (bytes_decides (string_bytes a.name) (string_bytes b.name)) (items_decide a.item b.item))

pub views_decide : (a b : View) → Decides (views.ghosts.eq a b) (viewed a ≡ viewed b)
views_decide a b =
    Decides-like _ (λ p. cc (p.0, p.1.0, p.1.1.0, p.1.1.1.0, p.1.1.1.1.0, p.1.1.1.1.1.0, p.1.1.1.1.1.1.0, p.1.1.1.1.1.1.1.0, p.1.1.1.1.1.1.1.1))
    (λ p. (
      ap (λ (t : Viewed). t.groups) p,
      (
        ap (λ (t : Viewed). t.types) p,
        (
          ap (λ (t : Viewed). t.functions) p,
          (
            ap (λ (t : Viewed). t.tables) p,
            (
              ap (λ (t : Viewed). t.memories) p,
              (
                ap (λ (t : Viewed). t.globals) p,
                (ap (λ (t : Viewed). t.tags) p, (ap (λ (t : Viewed). t.elements) p, ap (λ (t : Viewed). t.exports) p)),
              ),
            ),
          ),
        ),
      ),
    ))
    (Decides-and _ _ (lists_decide _ group_types groups_decide a.groups.items b.groups.items)
    (Decides-and {P = a.types.items ≡ b.types.items} _ _ (slice_eq-Decides places_decide a.types.items b.types.items _ refl)
    (Decides-and {P = a.functions.items ≡ b.functions.items} _ _ (slice_eq-Decides places_decide a.functions.items b.functions.items _ refl)
    (Decides-and _ _ (lists_decide _ table_type tables_decide a.tables.items b.tables.items)
    (Decides-and _ _ (lists_decide _ memory_type memories_decide a.memories.items b.memories.items)
    (Decides-and _ _ (lists_decide _ global_type globals_decide a.globals.items b.globals.items)
    (Decides-and {P = a.tags.items ≡ b.tags.items} _ _ (slice_eq-Decides places_decide a.tags.items b.tags.items _ refl)
    (Decides-and _ _ (lists_decide _ ref_type refs_decide a.elements.items b.elements.items) (lists_decide _ named_item exports_decide a.exports.items b.exports.items)))))))))
  where
    places_decide : (x y : TypePlace) → Decides (places.ghosts.eq x y) (x ≡ y)
    places_decide x y = search rules

    groups_decide : (x y : Vec SubType) → Decides (pointwise sub_types.ghosts.eq x.items y.items) (group_types x ≡ group_types y)
    groups_decide x y = lists_decide _ sub_type subs_decide x.items y.items

-- what decides if two values have one view is an equivalence
equivalence : {A B : Type 0} (E : A → A → Bool) (view : A → B) → ((a b : A) → Decides (E a b) (view a ≡ view b)) → IsEquivalence E
equivalence E view decides = record {
  refl = λ x. (decides x x).1 refl;
  symm = λ x y. same_from_decides (E x y) (E y x) (decides x y) (λ h. sym ((decides y x).0 h), λ e. (decides y x).1 (sym e));
  congr = λ x y z h. same_from_decides (E x z) (E y z) (decides x z) (λ k. (decides x y).0 h ∙ (decides y z).0 k, λ e. (decides y z).1 (sym ((decides x y).0 h) ∙ e));
}

pub views_equivalent : IsEquivalence views.ghosts.eq
views_equivalent = equivalence views.ghosts.eq viewed views_decide

pub spaces_decide : (s t : Spaces) (groups others : List (spec.RecGroup ℕ)) (v w : View) → s.types ≡ section_types groups → t.types ≡ section_types others → HasTypes s → HasTypes t
    → IsViewOf s v → IsViewOf t w → Decides (views.ghosts.eq v w) (as_trees s ≡ as_trees t)
spaces_decide s t groups others v w is_s is_t here there it also =
    Decides-like (views.ghosts.eq v w) (one_meaning s t groups others v w is_s is_t it also here) (one_view s t v w it also here there) (views_decide v w)
