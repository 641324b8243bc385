-- Groups without garbage collection: each is one final function type, and no reference goes to an index.
use Rattle.std.proofs.Common.{◌≡◌, ℕ, suc, ◌+◌, Bool, true, false, List, [], ◌∷◌, length, map, refl, ap, ◌∙◌, arith}
use Rattle.std.specs.Prelude.{◌&&◌, ◌||◌, ◌==◌, nat_le, nat_lt}
use Rattle.std.specs.List.{list_all}
use Rattle.std.proofs.Math.Path.{fun_ext}
use Rattle.std.proofs.lemmas.Bool.{and_parts, lt-ltb}
use Rattle.wasm_spec.specs.Types.{HeapType, Abstract, Concrete, ValType, I32, I64, F32, F64, V128, Ref, StorageType, I8, I16, Val, FieldType, CompositeType, FuncComposite, StructComposite, ArrayComposite, ContComposite, SubType, Single}
use Rattle.wasm_smith_config.specs.declared.config.Config.{Config}
use Rattle.wasm_smith_types.specs.Drawing.{Offers}
use Rattle.wasm_smith_validity.specs.ValidGroups.{entry}
use Rattle.wasm_smith_types.specs.Offering.{max_results}
use Rattle.wasm_smith_types.specs.Spelling.{SpellsEach}
use Rattle.wasm_smith_witness.specs.Family.{is_target, is_enabled, is_member_storage, is_member_field, is_member_composite, is_member_type, is_lone_function, is_member_group, are_member_groups, types_of}
use Rattle.wasm_smith_witness.specs.Spelling.{SpellsLoneComposite, SpellsLoneFunction}

-- ---- the bound doesn't matter

free_target : (c : Config) → c.gc_enabled ≡ false → (bound : ℕ) (heap : HeapType ℕ) → is_target c bound heap ≡ is_target c 0 heap
free_target c off bound (Abstract heap) = refl
free_target c off bound (Concrete index) = rw off refl

free_value : (c : Config) → c.gc_enabled ≡ false → (bound : ℕ) (type : ValType ℕ) → is_enabled c bound type ≡ is_enabled c 0 type
free_value c off bound I32 = refl
free_value c off bound I64 = refl
free_value c off bound F32 = refl
free_value c off bound F64 = refl
free_value c off bound V128 = refl
free_value c off bound (Ref nullable heap) = ap (λ goes. nullable && c.reference_types_enabled && goes) (free_target c off bound heap)

free_values : (c : Config) → c.gc_enabled ≡ false → (bound : ℕ) (types : List (ValType ℕ)) → list_all (is_enabled c bound) types ≡ list_all (is_enabled c 0) types
free_values c off bound types = ap (λ (test : ValType ℕ → Bool). list_all test types) (fun_ext (free_value c off bound))

free_field : (c : Config) → c.gc_enabled ≡ false → (bound : ℕ) (field : FieldType ℕ) → is_member_field c bound field ≡ is_member_field c 0 field
free_field c off bound field = free_storage field.element_type
  where
    free_storage : (storage : StorageType ℕ) → is_member_storage c bound storage ≡ is_member_storage c 0 storage
    free_storage I8 = refl
    free_storage I16 = refl
    free_storage (Val type) = free_value c off bound type

free_composite : (c : Config) → c.gc_enabled ≡ false → (bound : ℕ) (composite : CompositeType ℕ) → is_member_composite c bound composite ≡ is_member_composite c 0 composite
free_composite c off bound (FuncComposite type) =
    ap (λ params. nat_le (length type.params) 20 && nat_le (length type.results) (max_results c) && params && list_all (is_enabled c bound) type.results) (free_values c off bound type.params)
    ∙ ap (λ results. nat_le (length type.params) 20 && nat_le (length type.results) (max_results c) && list_all (is_enabled c 0) type.params && results) (free_values c off bound type.results)
free_composite c off bound (StructComposite fields) =
    ap (λ (test : FieldType ℕ → Bool). nat_le (length fields) 20 && list_all test fields) (fun_ext (free_field c off bound))
free_composite c off bound (ArrayComposite field) = free_field c off bound field
free_composite c off bound (ContComposite function) = refl

free_type : (c : Config) → c.gc_enabled ≡ false → (bound : ℕ) (type : SubType ℕ) → is_member_type c bound type ≡ is_member_type c 0 type
free_type c off bound type = ap (λ member. length type.supertypes == 0 && member) (free_composite c off bound type.composite_type)

-- ---- members

-- one final function type, which refers to no type
abbrev pub is_lone_member : Config → List (SubType ℕ) → Bool
is_lone_member c group = list_all (is_member_type c 0) group && is_lone_function group

lone_group : (c : Config) → c.gc_enabled ≡ false → (end : ℕ) (group : List (SubType ℕ)) → is_member_group c end group ≡ is_lone_member c group
lone_group c off end [] = refl
lone_group c off end (type ∷ types) =
    let some : nat_lt 0 (length (type ∷ types)) ≡ true = lt-ltb 0 (length (type ∷ types)) (omega arith) in
    let free : list_all (is_member_type c end) (type ∷ types) ≡ list_all (is_member_type c 0) (type ∷ types) =
    ap (λ (test : SubType ℕ → Bool). list_all test (type ∷ types)) (fun_ext (free_type c off end)) in
    ap (λ on. on && list_all (is_member_type c end) (type ∷ types) && (c.gc_enabled || is_lone_function (type ∷ types))) some
    ∙ ap (λ gc. list_all (is_member_type c end) (type ∷ types) && (gc || is_lone_function (type ∷ types))) off
    ∙ ap (λ each. each && is_lone_function (type ∷ types)) free

-- the members among groups, whatever comes before
pub lone_groups : (c : Config) → c.gc_enabled ≡ false → (before : ℕ) (groups : List (List (SubType ℕ))) → are_member_groups c before groups ≡ list_all (is_lone_member c) groups
lone_groups c off before [] = refl
lone_groups c off before (group ∷ groups) =
    ap (λ one. one && are_member_groups c (before + length group) groups) (lone_group c off (before + length group) group)
    ∙ ap (λ others. is_lone_member c group && others) (lone_groups c off (before + length group) groups)

-- groups of one type are as many as their types
pub lone_many : (c : Config) (groups : List (List (SubType ℕ))) → list_all (is_lone_member c) groups ≡ true → length (types_of groups) ≡ length groups
lone_many c [] all = refl
lone_many c (group ∷ groups) all =
    let both = and_parts (is_lone_member c group) (list_all (is_lone_member c) groups) all in
    by_group group both.0 (lone_many c groups both.1)
  where
    by_group : (group : List (SubType ℕ)) → is_lone_member c group ≡ true → length (types_of groups) ≡ length groups → length (types_of (group ∷ groups)) ≡ suc (length groups)
    by_group [] one others = absurd cc
    by_group (type ∷ []) one others = ap suc others
    by_group (type ∷ next ∷ types) one others = absurd (let both = and_parts (list_all (is_member_type c 0) (type ∷ next ∷ types)) false one in let wrong : false ≡ true = both.1 in cc)

-- ---- spellings

-- the one type of a group
abbrev pub SpellsLone : Offers → SubType ℕ → List ℕ → Type 0
SpellsLone o type s = (type.is_final ≡ true) × (type.supertypes ≡ []) × SpellsLoneComposite o type.composite_type s

-- groups are spelled as their types, of which each is a group
pub record AreLone (o : Offers) (groups : List (List (SubType ℕ))) (s : List ℕ) : Type 0 where
  pub spells : SpellsEach (SpellsLone o) (types_of groups) s
  pub many : length (types_of groups) ≡ length groups
  pub entries : map Single (types_of groups) ≡ map entry groups

pub are_lone : (o : Offers) (groups : List (List (SubType ℕ))) (s : List ℕ) → SpellsEach (SpellsLoneFunction o) groups s → AreLone o groups s
are_lone o [] s h = record { spells = h; many = refl; entries = refl }
are_lone o ([] ∷ groups) s h = absurd h.5
are_lone o ((type ∷ []) ∷ groups) s h =
    let others = are_lone o groups h.2 h.6 in
    record { spells = (h.0, h.1, h.2, h.3, h.4, h.5, others.spells); many = ap suc others.many; entries = ap (λ gs. Single type ∷ gs) others.entries }
are_lone o ((type ∷ next ∷ types) ∷ groups) s h = absurd h.5
