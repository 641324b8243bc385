-- Types by index, and the defined types that they stand for.
use Rattle.std.proofs.Common.{◌≡◌, ℕ, ◌<◌, Bool, true, ◌&&◌, nat_lt, List, length, option_map, refl, ap, sym, ◌∙◌, inl, inr, Some, arith}
use Rattle.std.specs.List.{slice_get}
use Rattle.std.specs.Option.{unwrap_or}
use Rattle.std.proofs.lemmas.Bool.{lt-ltb, and_parts}
use Rattle.std.proofs.lemmas.Option.{slice_get_within, slice_get_past}
use Rattle.wasm_spec.specs.Features.{Features}
use Rattle.wasm_spec.specs.Gates.{is_allowed}
use Rattle.wasm_spec.specs.Subtyping.{same, step, HeapBelow, ValBelow}
use Rattle.wasm_spec.specs.Trees.{DefType, no_type, type_at, unrolled}
use Rattle.wasm_spec.specs.TypeReferences.{val_map, func_map, composite_map}
use Rattle.wasm_spec.specs.Types.{HeapType, Abstract, Concrete, ValType, I32, I64, F32, F64, V128, Ref, CompositeType, FuncComposite, StructComposite, ArrayComposite, ContComposite, SubType}
use Rattle.wasm_spec.proofs.Carried.{carried}
use Rattle.wasm_spec.proofs.GroupTrees.{Stand}
use Rattle.wasm_spec.proofs.Places.{get_some, get_either}
use Rattle.wasm_validity.specs.ConstantTyping.{meant}
use Rattle.wasm_validity.specs.Context.{Context}
use Rattle.wasm_validity.specs.DefinedTypes.{func_in, func_type_at as defined_at}
use Rattle.wasm_validity.specs.TypeRules.{is_named as is_named_in, is_value as is_value_in}
use Rattle.wasm_smith_validity.specs.Constants.{IsBelow}
use Rattle.wasm_smith_validity.specs.Spaces.{is_named, is_value, func_type_at}

-- ---- value types

-- whatever a value type refers to has an index that names a type
abbrev pub is_named_value : List (SubType ℕ) → ValType ℕ → Bool
is_named_value types (Ref nullable heap) = is_named types heap
is_named_value types type = true

pub named_as : (types : List (SubType ℕ)) (cx : Context) → Stand types cx.types → (heap : HeapType ℕ) → is_named_in cx heap ≡ is_named types heap
named_as types cx stand (Abstract heap) = refl
named_as types cx stand (Concrete index) = ap (λ n. nat_lt index n) stand.lengths

pub value_as : (features : Features) (types : List (SubType ℕ)) (cx : Context) → Stand types cx.types → (type : ValType ℕ)
    → is_value_in features cx type ≡ is_value features types type
value_as features types cx stand I32 = refl
value_as features types cx stand I64 = refl
value_as features types cx stand F32 = refl
value_as features types cx stand F64 = refl
value_as features types cx stand V128 = refl
value_as features types cx stand (Ref nullable heap) = ap (λ named. is_allowed {R = ℕ} features (Ref nullable heap) && named) (named_as types cx stand heap)

pub named_of : (features : Features) (types : List (SubType ℕ)) (type : ValType ℕ) → is_value features types type ≡ true → is_named_value types type ≡ true
named_of features types I32 e = refl
named_of features types I64 e = refl
named_of features types F32 e = refl
named_of features types F64 e = refl
named_of features types V128 e = refl
named_of features types (Ref nullable heap) e = (and_parts (is_allowed {R = ℕ} features (Ref nullable heap)) (is_named types heap) e).1

pub below_of : (i n : ℕ) → nat_lt i n ≡ true → i < n
below_of i n e = grind arith

type_here : (defined : List DefType) (index : ℕ) → index < length defined → slice_get defined index ≡ Some (type_at defined index)
type_here defined index h =
    let at = get_some defined index h in at.1 ∙ ap (λ type. Some type) (sym (ap (λ o. unwrap_or o no_type) at.1))

-- an index that names a type has a defined type
pub there : (types : List (SubType ℕ)) (defined : List DefType) → Stand types defined → (index : ℕ) → nat_lt index (length types) ≡ true
    → slice_get defined index ≡ Some (type_at defined index)
there types defined stand index e =
    type_here defined index (let h = below_of index (length types) e in omega (arith, h, stand.lengths))

pub meant_as : (types : List (SubType ℕ)) (cx : Context) → Stand types cx.types → (type : ValType ℕ) → is_named_value types type ≡ true
    → meant cx type ≡ Some (val_map (type_at cx.types) type)
meant_as types cx stand I32 e = refl
meant_as types cx stand I64 e = refl
meant_as types cx stand F32 e = refl
meant_as types cx stand F64 e = refl
meant_as types cx stand V128 e = refl
meant_as types cx stand (Ref nullable (Abstract heap)) e = refl
meant_as types cx stand (Ref nullable (Concrete index)) e =
    ap (λ o. option_map (λ defined. Ref nullable defined) (option_map (λ type. Concrete type) o)) (there types cx.types stand index e)

-- ---- function types

func_in_map : {R S : Type 0} (f : R → S) (c : CompositeType R) → func_in (composite_map f c) ≡ option_map (func_map f) (func_in c)
func_in_map f (FuncComposite type) = refl
func_in_map f (StructComposite fields) = refl
func_in_map f (ArrayComposite field) = refl
func_in_map f (ContComposite function) = refl

within : (types : List (SubType ℕ)) (index : ℕ) (type : SubType ℕ) → slice_get types index ≡ Some type → nat_lt index (length types) ≡ true
within types index type e = lt-ltb index (length types) (slice_get_within types index type e)

pub func_meant : (types : List (SubType ℕ)) (defined : List DefType) → Stand types defined → (index : ℕ)
    → defined_at defined index ≡ option_map (func_map (type_at defined)) (func_type_at types index)
func_meant types defined stand index = elim (get_either types index) [
  | inl at ↦
      let here = there types defined stand index (within types index at.0 at.1) in
      rw (here, at.1, stand.unrolls index at.0 at.1) (func_in_map (type_at defined) at.0.composite_type)
  | inr at ↦ rw (slice_get_past defined index (omega (arith, stand.lengths, at.1.1)), at.0) refl
]

-- ---- subtyping

-- what is above or below an index that names a type is one too
named_above : (types : List (SubType ℕ)) (a b : HeapType ℕ) → HeapBelow (slice_get types) a b → is_named types a ≡ true → is_named types b ≡ true
named_above types a b same e = e
named_above types a b (step {y = Abstract y} h hs) e = named_above types (Abstract y) b hs refl
named_above types (Abstract a) b (step {y = Concrete y} h hs) e = named_above types (Concrete y) b hs (within types y h.type h.is)
named_above types (Concrete a) b (step {y = Concrete y} h hs) e = named_above types (Concrete y) b hs (within types y h.kind.type h.kind.is)

named_below : (types : List (SubType ℕ)) (a b : HeapType ℕ) → HeapBelow (slice_get types) a b → is_named types b ≡ true → is_named types a ≡ true
named_below types (Abstract a) b h e = refl
named_below types (Concrete a) b same e = e
named_below types (Concrete a) b (step {y = Abstract y} h hs) e = within types a h.type h.is
named_below types (Concrete a) b (step {y = Concrete y} h hs) e = within types a h.declared.type h.declared.is

pub value_named_below : (types : List (SubType ℕ)) (a b : ValType ℕ) → IsBelow types a b → is_named_value types b ≡ true → is_named_value types a ≡ true
value_named_below types I32 b h e = refl
value_named_below types I64 b h e = refl
value_named_below types F32 b h e = refl
value_named_below types F64 b h e = refl
value_named_below types V128 b h e = refl
value_named_below types (Ref n a) (Ref m b) h e = named_below types a b h.heap e
value_named_below types (Ref n a) I32 h e = absurd h
value_named_below types (Ref n a) I64 h e = absurd h
value_named_below types (Ref n a) F32 h e = absurd h
value_named_below types (Ref n a) F64 h e = absurd h
value_named_below types (Ref n a) V128 h e = absurd h

pub value_named_above : (types : List (SubType ℕ)) (a b : ValType ℕ) → IsBelow types a b → is_named_value types a ≡ true → is_named_value types b ≡ true
value_named_above types a I32 h e = refl
value_named_above types a I64 h e = refl
value_named_above types a F32 h e = refl
value_named_above types a F64 h e = refl
value_named_above types a V128 h e = refl
value_named_above types (Ref n a) (Ref m b) h e = named_above types a b h.heap e
value_named_above types I32 (Ref m b) h e = absurd h
value_named_above types I64 (Ref m b) h e = absurd h
value_named_above types F32 (Ref m b) h e = absurd h
value_named_above types F64 (Ref m b) h e = absurd h
value_named_above types V128 (Ref m b) h e = absurd h

-- what is below another type by index is below it over trees
pub below_as : (types : List (SubType ℕ)) (defined : List DefType) → Stand types defined → (a b : ValType ℕ) → IsBelow types a b
    → ValBelow unrolled (val_map (type_at defined) a) (val_map (type_at defined) b)
below_as types defined stand a b h = (carried (type_at defined) (slice_get types) unrolled stand.unrolls).val_types a b h
