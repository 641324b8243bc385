-- The sub types that a list keeps, by id, and what is always so of them.
use Rattle.std.proofs.Common.{◌≡◌, ℕ, ◌<◌, List, length, Option, Some, None, IfSome, IsSome, refl, sym, ap, ◌∙◌, arith, slice_get}
use Rattle.std.proofs.lemmas.List.{length-map}
use Rattle.std.proofs.lemmas.Option.{slice_get-map, slice_get_within}
use Rattle.std.specs.Borrow.{Bor}
use Rattle.std.specs.Option.{option_and_then, option_copied, option_map}
use Rattle.wasm_spec.proofs.GroupTrees.{all_each}
use Rattle.wasm_spec.proofs.Places.{get_some}
use Rattle.wasm_spec.specs.Features.{Features}
use Rattle.wasm_spec.specs.Trees.{type_at, unrolled}
use Rattle.wasm_spec.specs.TypeReferences.{sub_map, sub_refs}
use Rattle.wasm_spec.specs.Types as spec
use Rattle.wasmparser_type_relations.specs.Chains.{by_id}
use Rattle.wasmparser_type_list.specs.TypeTables.{TablesAgree, TypeTables, sub_types}
use Rattle.wasmparser_module_types.proofs.KnownIds.{kept_count, kept_ids, kept_unrolls}
use Rattle.wasmparser_module_types.specs.ModuleTypes.{AreIds, AreKnownTypes, KnownTypes, KnowsModule, interned_types, known_types, stands_for}
use Rattle.wasmparser_types.specs.Index.{Index, Module, RecGroup, Id, core_type_id, packable}
use Rattle.wasmparser_types.specs.SubTypes.{sub_type}
use Rattle.wasmparser_types.specs.declared.sub_type.SubType.{SubType}

module _ (list : TypeTables) (agree : TablesAgree list) where
  listed_count : length (sub_types list) ≡ length (interned_types list)
  listed_count = omega (arith, kept_count list agree, length-map list.types sub_type)

  within : (id : ℕ) → id < length list.types → id < length (interned_types list)
  within id known = omega (arith, known, kept_count list agree)

  small : (id : ℕ) → id < length list.types → id < packable
  small id known = omega (arith, known, agree.count)

pub are_known : (features : Features) (list : TypeTables) (ids : List ℕ) (groups : ℕ) → KnowsModule features list ids → AreKnownTypes (known_types features list ids groups)
are_known features list ids groups knows = record {
  types = refl;
  within = all_each _ _ (within list knows.agree) ids knows.known;
  count = listed_count list knows.agree;
  unrolled = λ id sub at. (kept_unrolls list knows.agree knows.no_module id sub at, kept_ids list knows.agree knows.no_module id sub at);
  earlier = knows.earlier;
  distinct = knows.distinct;
  few = knows.within;
  packable = all_each _ _ (small list knows.agree) ids knows.known;
}

-- ---- what an id stands for

pub record Got (shown : KnownTypes) (id : ℕ) (found : Option (Bor SubType)) : Type 0 where
  pub all : id < length shown.interned → IsSome found
  pub known : IfSome found (λ _. id < length shown.interned)
  pub unrolled : IfSome found (λ ty. unrolled (type_at shown.interned id) ≡ Some (sub_map (stands_for shown) (sub_type ty.now)))
  pub ids : IfSome found (λ ty. AreIds shown (sub_refs (sub_type ty.now)))
  pub exact : option_map sub_type (option_copied found) ≡ slice_get shown.sub_types id

module _ (features : Features) (list : TypeTables) (ids : List ℕ) (groups : ℕ) (knows : KnowsModule features list ids) (id : ℕ) where
  pub got : (found : Option (Bor SubType)) → option_copied found ≡ slice_get list.types id → Got (known_types features list ids groups) id found
  got None is = record {
    all = λ below. absurd (let at = is ∙ (get_some list.types id (omega (arith, below, kept_count list knows.agree))).1 in cc);
    known = tt;
    unrolled = tt;
    ids = tt;
    exact = ap (option_map sub_type) is ∙ sym (slice_get-map sub_type list.types id);
  }
  got (Some type) is =
      let at : slice_get (sub_types list) id ≡ Some (sub_type type.now) = slice_get-map sub_type list.types id ∙ ap (option_map sub_type) (sym is) in
      record {
        all = λ below. refl;
        known = omega (arith, slice_get_within list.types id type.now (sym is), kept_count list knows.agree);
        unrolled = kept_unrolls list knows.agree knows.no_module id (sub_type type.now) at;
        ids = kept_ids list knows.agree knows.no_module id (sub_type type.now) at;
        exact = sym at;
      }

-- ---- what an index stands for

pub by_its_id : (type_at : ℕ → Option (spec.SubType Index)) (index : Index) → by_id type_at index ≡ option_and_then type_at (core_type_id index)
by_its_id type_at (Module n) = refl
by_its_id type_at (RecGroup n) = refl
by_its_id type_at (Id n) = refl
