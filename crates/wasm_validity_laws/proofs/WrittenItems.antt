-- What type indexes name among types as they are written.
use Rattle.std.proofs.Common.{◌≡◌, ℕ, zero, suc, ◌+◌, ◌<◌, List, [], ◌∷◌, length, Option, Some, None, refl, ap, sym, ◌∙◌, subst, arith, slice_get}
use Rattle.std.proofs.lemmas.Option.{slice_get_within}
use Rattle.std.specs.List.{AllByRecursion, flat_map}
use Rattle.std.specs.Option.{option_and_then, option_map}
use Rattle.wasm_bodies.specs.BodyContext.{NamedType, element_in, fields_in, func_at, func_in}
use Rattle.wasm_spec.proofs.MappedBack.{all_right}
use Rattle.wasm_spec.specs.TypeReferences.{composite_refs, field_refs, func_refs, sub_refs}
use Rattle.wasm_spec.specs.Types.{FieldType, FuncType, CompositeType, FuncComposite, StructComposite, ArrayComposite, ContComposite, SubType}
use Rattle.wasm_validity.specs.ModuleBodies.{Below, func_type_in, items_in, named_from}
use Rattle.wasm_validity.specs.Context.{Context}

-- ---- options

pub then_some : {A B : Type 0} (f : A → Option B) (o : Option A) (b : B) → option_and_then f o ≡ Some b → (a : A) × (o ≡ Some a) × (f a ≡ Some b)
then_some f None b e = absurd cc
then_some f (Some a) b e = (a, refl, e)

pub map_some : {A B : Type 0} (f : A → B) (o : Option A) (b : B) → option_map f o ≡ Some b → (a : A) × (o ≡ Some a) × (f a ≡ b)
map_some f None b e = absurd cc
map_some f (Some a) b e = (a, refl, cc)

then_map : {A B C : Type 0} (f : B → Option C) (g : A → B) (o : Option A) → option_and_then f (option_map g o) ≡ option_and_then (λ a. f (g a)) o
then_map f g None = refl
then_map f g (Some a) = refl

-- ---- by index

abbrev named_as : ℕ → SubType ℕ → NamedType ℕ
named_as index type = record { reference = index; composite = type.composite_type }

pub named_get : (first : ℕ) (types : List (SubType ℕ)) (index : ℕ) → slice_get (named_from first types) index ≡ option_map (named_as (first + index)) (slice_get types index)
named_get first [] index = refl
named_get first (type ∷ types) zero = let e : first + 0 ≡ first = omega arith in rw e
named_get first (type ∷ types) (suc index) = let e : first + suc index ≡ suc first + index = omega arith in rw e (named_get (suc first) types index)

-- what a composite type is taken for
pub by_index : {A : Type 0} (kind : CompositeType ℕ → Option A) (types : List (SubType ℕ)) (index : ℕ)
    → option_and_then (λ named. kind named.composite) (slice_get (named_from 0 types) index) ≡ option_and_then (λ type. kind type.composite_type) (slice_get types index)
by_index kind types index =
    ap (option_and_then (λ named. kind named.composite)) (named_get 0 types index) ∙ then_map (λ named. kind named.composite) (named_as (0 + index)) (slice_get types index)

pub function_by_index : (types : List (SubType ℕ)) (cx : Context) (is_below : Below) (index : ℕ) → func_at (items_in types cx is_below) index ≡ func_type_in types index
function_by_index types cx is_below index = by_index func_in types index

-- a reference to a type is its index
pub reference_within : (types : List (SubType ℕ)) (index : ℕ) (named : NamedType ℕ) → slice_get (named_from 0 types) index ≡ Some named → named.reference < length types
reference_within types index named e =
    let (type, at, is) = map_some (named_as (0 + index)) (slice_get types index) named (sym (named_get 0 types index) ∙ e) in
    let reference : 0 + index ≡ named.reference = ap (λ (n : NamedType ℕ). n.reference) is in
    omega (arith, slice_get_within types index type at, reference)

-- ---- references of what an index names

module _ (P : ℕ → Type 0) where
  of_func : (composite : CompositeType ℕ) (type : FuncType ℕ) → func_in composite ≡ Some type → AllByRecursion P (composite_refs composite) → AllByRecursion P (func_refs type)
  of_func (FuncComposite own) type e all = let same : own ≡ type = cc in subst (λ (t : FuncType ℕ). AllByRecursion P (func_refs t)) same all
  of_func (StructComposite fields) type e all = absurd cc
  of_func (ArrayComposite field) type e all = absurd cc
  of_func (ContComposite function) type e all = absurd cc

  of_fields : (composite : CompositeType ℕ) (fields : List (FieldType ℕ)) → fields_in composite ≡ Some fields → AllByRecursion P (composite_refs composite) → AllByRecursion P (flat_map field_refs fields)
  of_fields (StructComposite own) fields e all = let same : own ≡ fields = cc in subst (λ (f : List (FieldType ℕ)). AllByRecursion P (flat_map field_refs f)) same all
  of_fields (FuncComposite type) fields e all = absurd cc
  of_fields (ArrayComposite field) fields e all = absurd cc
  of_fields (ContComposite function) fields e all = absurd cc

  of_element : (composite : CompositeType ℕ) (field : FieldType ℕ) → element_in composite ≡ Some field → AllByRecursion P (composite_refs composite) → AllByRecursion P (field_refs field)
  of_element (ArrayComposite own) field e all = let same : own ≡ field = cc in subst (λ (f : FieldType ℕ). AllByRecursion P (field_refs f)) same all
  of_element (FuncComposite type) field e all = absurd cc
  of_element (StructComposite fields) field e all = absurd cc
  of_element (ContComposite function) field e all = absurd cc

  module _ (types : List (SubType ℕ)) (each : (index : ℕ) (type : SubType ℕ) → slice_get types index ≡ Some type → AllByRecursion P (sub_refs type)) where
    composite_holds : (index : ℕ) (type : SubType ℕ) → slice_get types index ≡ Some type → AllByRecursion P (composite_refs type.composite_type)
    composite_holds index type at = all_right P type.supertypes (composite_refs type.composite_type) (each index type at)

    pub function_refs : (index : ℕ) (type : FuncType ℕ) → func_type_in types index ≡ Some type → AllByRecursion P (func_refs type)
    function_refs index type e =
        let (sub, at, is) = then_some (λ (t : SubType ℕ). func_in t.composite_type) (slice_get types index) type e in
        of_func sub.composite_type type is (composite_holds index sub at)

    pub structure_refs : (index : ℕ) (fields : List (FieldType ℕ)) → option_and_then (λ named. fields_in named.composite) (slice_get (named_from 0 types) index) ≡ Some fields
        → AllByRecursion P (flat_map field_refs fields)
    structure_refs index fields e =
        let (sub, at, is) = then_some (λ (t : SubType ℕ). fields_in t.composite_type) (slice_get types index) fields (sym (by_index fields_in types index) ∙ e) in
        of_fields sub.composite_type fields is (composite_holds index sub at)

    pub array_refs : (index : ℕ) (field : FieldType ℕ) → option_and_then (λ named. element_in named.composite) (slice_get (named_from 0 types) index) ≡ Some field
        → AllByRecursion P (field_refs field)
    array_refs index field e =
        let (sub, at, is) = then_some (λ (t : SubType ℕ). element_in t.composite_type) (slice_get types index) field (sym (by_index element_in types index) ∙ e) in
        of_element sub.composite_type field is (composite_holds index sub at)
