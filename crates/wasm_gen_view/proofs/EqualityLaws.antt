-- Equality of the code's types decides if they are one type of the specification.
use Rattle.std.specs.Prelude.{◌≡◌, ◌&&◌, Bool, List, [], ◌∷◌, map, refl}
use Rattle.std.specs.Bool.{Decides}
use Rattle.std.specs.Cmp.Lexicographic.{pointwise}
use Rattle.std.proofs.Common.{rules, ap}
use Rattle.std.proofs.lemmas.Bool.Decides.{Decides-like, Decides-and}
use Rattle.std.specs.contracts.prelude.BoolPartialEq.TheImpl as flags
use Rattle.wasm_spec.specs.Types as spec
use Rattle.wasm_gen_view.specs.Types.{heap_type, ref_type, val_type, storage_type, field_type, func_type, composite_type, sub_type}
use Rattle.wasm_gen_view.specs.contracts.types.CompositeTypePartialEq.TheImpl as composite_types
use Rattle.wasm_gen_view.specs.contracts.types.FieldTypePartialEq.TheImpl as field_types
use Rattle.wasm_gen_view.specs.contracts.types.FuncTypePartialEq.TheImpl as func_types
use Rattle.wasm_gen_view.specs.contracts.types.HeapTypePartialEq.TheImpl as heap_types
use Rattle.wasm_gen_view.specs.contracts.types.RefTypePartialEq.TheImpl as ref_types
use Rattle.wasm_gen_view.specs.contracts.types.StorageTypePartialEq.TheImpl as storage_types
use Rattle.wasm_gen_view.specs.contracts.types.SubTypePartialEq.TheImpl as sub_types
use Rattle.wasm_gen_view.specs.contracts.types.TypeReferencePartialEq.TheImpl as references
use Rattle.wasm_gen_view.specs.contracts.types.ValTypePartialEq.TheImpl as val_types
use Rattle.wasm_gen_view.specs.declared.types.CompositeType.{CompositeType}
use Rattle.wasm_gen_view.specs.declared.types.CompositeType.TheVariants.{Func, Struct, Array, Cont}
use Rattle.wasm_gen_view.specs.declared.types.FieldType.{FieldType}
use Rattle.wasm_gen_view.specs.declared.types.FuncType.{FuncType}
use Rattle.wasm_gen_view.specs.declared.types.HeapType.{HeapType}
use Rattle.wasm_gen_view.specs.declared.types.RefType.{RefType}
use Rattle.wasm_gen_view.specs.declared.types.StorageType.{StorageType}
use Rattle.wasm_gen_view.specs.declared.types.StorageType.TheVariants.{I8, I16, Val}
use Rattle.wasm_gen_view.specs.declared.types.SubType.{SubType}
use Rattle.wasm_gen_view.specs.declared.types.TypeReference.{TypeReference}
use Rattle.wasm_gen_view.specs.declared.types.ValType.{ValType}

-- lists are equal as their items are
pub lists_decide : {A B : Type 0} (E : A → A → Bool) (view : A → B) → ((a b : A) → Decides (E a b) (view a ≡ view b)) → (xs ys : List A) → Decides (pointwise E xs ys) (map view xs ≡ map view ys)
lists_decide E view items [] [] = (λ _. refl, λ _. refl)
lists_decide E view items [] (y ∷ ys) = (λ p. cc, λ p. cc)
lists_decide E view items (x ∷ xs) [] = (λ p. cc, λ p. cc)
lists_decide E view items (x ∷ xs) (y ∷ ys) =
    Decides-like (E x y && pointwise E xs ys) (λ p. cc (p.0, p.1)) (λ p. (cc, cc)) (Decides-and (E x y) (pointwise E xs ys) (items x y) (lists_decide E view items xs ys))

pub flags_decide : (a b : Bool) → Decides (flags.ghosts.eq a b) (a ≡ b)
flags_decide a b = search rules

references_decide : (a b : TypeReference) → Decides (references.ghosts.eq a b) (a ≡ b)
references_decide a b = search rules

heaps_decide : (a b : HeapType) → Decides (heap_types.ghosts.eq a b) (heap_type a ≡ heap_type b)
heaps_decide a b = search rules

pub refs_decide : (a b : RefType) → Decides (ref_types.ghosts.eq a b) (ref_type a ≡ ref_type b)
refs_decide a b =
    Decides-like _ (λ p. cc (p.0, p.1)) (λ p. (ap (λ (t : spec.RefType TypeReference). t.nullable) p, ap (λ (t : spec.RefType TypeReference). t.heap_type) p))
    (Decides-and _ _ (flags_decide a.nullable b.nullable) (heaps_decide a.heap_type b.heap_type))

pub vals_decide : (a b : ValType) → Decides (val_types.ghosts.eq a b) (val_type a ≡ val_type b)
vals_decide a b = search (rules, refs_decide)

pub storages_decide : (a b : StorageType) → Decides (storage_types.ghosts.eq a b) (storage_type a ≡ storage_type b)
storages_decide I8 I8 = (λ _. refl, λ _. refl)
storages_decide I8 I16 = (λ p. cc, λ p. cc)
storages_decide I8 (Val b) = (λ p. cc, λ p. cc)
storages_decide I16 I8 = (λ p. cc, λ p. cc)
storages_decide I16 I16 = (λ _. refl, λ _. refl)
storages_decide I16 (Val b) = (λ p. cc, λ p. cc)
storages_decide (Val a) I8 = (λ p. cc, λ p. cc)
storages_decide (Val a) I16 = (λ p. cc, λ p. cc)
storages_decide (Val a) (Val b) = Decides-like _ (ap spec.Val) (λ p. cc) (vals_decide a b)

pub fields_decide : (a b : FieldType) → Decides (field_types.ghosts.eq a b) (field_type a ≡ field_type b)
fields_decide a b =
    Decides-like _ (λ p. cc (p.0, p.1)) (λ p. (ap (λ (t : spec.FieldType TypeReference). t.element_type) p, ap (λ (t : spec.FieldType TypeReference). t.mutable) p))
    (Decides-and _ _ (storages_decide a.element_type b.element_type) (flags_decide a.mutable b.mutable))

pub funcs_decide : (a b : FuncType) → Decides (func_types.ghosts.eq a b) (func_type a ≡ func_type b)
funcs_decide a b =
    Decides-like _ (λ p. cc (p.0, p.1)) (λ p. (ap (λ (t : spec.FuncType TypeReference). t.params) p, ap (λ (t : spec.FuncType TypeReference). t.results) p))
    (Decides-and _ _ (lists_decide _ val_type vals_decide a.params.items b.params.items) (lists_decide _ val_type vals_decide a.results.items b.results.items))

pub composites_decide : (a b : CompositeType) → Decides (composite_types.ghosts.eq a b) (composite_type a ≡ composite_type b)
composites_decide (Func a) (Func b) = Decides-like _ (ap spec.FuncComposite) (λ p. cc) (funcs_decide a b)
composites_decide (Func a) (Struct b) = (λ p. cc, λ p. cc)
composites_decide (Func a) (Array b) = (λ p. cc, λ p. cc)
composites_decide (Func a) (Cont b) = (λ p. cc, λ p. cc)
composites_decide (Struct a) (Func b) = (λ p. cc, λ p. cc)
composites_decide (Struct a) (Struct b) = Decides-like _ (ap spec.StructComposite) (λ p. cc) (lists_decide _ field_type fields_decide a.items b.items)
composites_decide (Struct a) (Array b) = (λ p. cc, λ p. cc)
composites_decide (Struct a) (Cont b) = (λ p. cc, λ p. cc)
composites_decide (Array a) (Func b) = (λ p. cc, λ p. cc)
composites_decide (Array a) (Struct b) = (λ p. cc, λ p. cc)
composites_decide (Array a) (Array b) = Decides-like _ (ap spec.ArrayComposite) (λ p. cc) (fields_decide a b)
composites_decide (Array a) (Cont b) = (λ p. cc, λ p. cc)
composites_decide (Cont a) (Func b) = (λ p. cc, λ p. cc)
composites_decide (Cont a) (Struct b) = (λ p. cc, λ p. cc)
composites_decide (Cont a) (Array b) = (λ p. cc, λ p. cc)
composites_decide (Cont a) (Cont b) = Decides-like _ (ap spec.ContComposite) (λ p. cc) (references_decide a b)

pub subs_decide : (a b : SubType) → Decides (sub_types.ghosts.eq a b) (sub_type a ≡ sub_type b)
subs_decide a b = search (rules, references_decide, composites_decide, flags_decide)
