-- What equality of the code's types decides: whether the types of the specification that they stand for are equal.
use Rattle.std.specs.Prelude.{◌≡◌, ◌==◌, ◌&&◌, Bool, List, [], ◌∷◌, map, refl}
use Rattle.std.specs.Bool.{Decides}
use Rattle.std.specs.Cmp.Lexicographic.{pointwise}
use Rattle.std.proofs.Common.{rules, ap, sym, ◌∙◌}
use Rattle.std.proofs.lemmas.Bool.Decides.{Decides-eqb, Decides-like, Decides-and}
use Rattle.std.proofs.lemmas.Slice.Eq.{slice_eq-Decides}
use Rattle.wasm_spec.specs.Types as spec
use Rattle.wasmparser_types.specs.Index.{Index, unpacked-packed}
use Rattle.wasmparser_types.specs.RefBits.{ref_bits, ref_type_at, ref_type_at-bits}
use Rattle.wasmparser_types.specs.ValTypes.{val_type, storage_type, field_type}
use Rattle.wasmparser_types.specs.CompositeTypes.{func_type, struct_fields, composite_type}
use Rattle.wasmparser_types.specs.SubTypes.{sub_type}
use Rattle.wasmparser_types.specs.RecGroups.{rec_group, group_of}
use Rattle.wasmparser_types.specs.declared.val_type.ValType.{ValType}
use Rattle.wasmparser_types.specs.declared.val_type.StorageType.{StorageType}
use Rattle.wasmparser_types.specs.declared.val_type.StorageType.TheVariants.{I8, I16, Val}
use Rattle.wasmparser_types.specs.declared.val_type.FieldType.{FieldType}
use Rattle.wasmparser_types.specs.declared.composite_type.FuncType.{FuncType}
use Rattle.wasmparser_types.specs.declared.composite_type.StructType.{StructType}
use Rattle.wasmparser_types.specs.declared.composite_type.CompositeType.{CompositeType}
use Rattle.wasmparser_types.specs.declared.sub_type.SubType.{SubType}
use Rattle.wasmparser_types.specs.declared.sub_type.RecGroup.{RecGroup}
use Rattle.wasmparser_types.specs.declared.sub_type.GroupTypes.{GroupTypes}
use Rattle.wasmparser_types.specs.declared.sub_type.GroupTypes.TheVariants.{Implicit, Explicit}
use Rattle.std.specs.contracts.prelude.BoolPartialEq.TheImpl as flags
use Rattle.wasmparser_types.specs.contracts.index.PackedIndexPartialEq.TheImpl as packed_indexes
use Rattle.wasmparser_types.specs.contracts.val_type.ValTypePartialEq.TheImpl as val_types
use Rattle.wasmparser_types.specs.contracts.val_type.StorageTypePartialEq.TheImpl as storage_types
use Rattle.wasmparser_types.specs.contracts.val_type.FieldTypePartialEq.TheImpl as field_types
use Rattle.wasmparser_types.specs.contracts.composite_type.FuncTypePartialEq.TheImpl as func_types
use Rattle.wasmparser_types.specs.contracts.composite_type.StructTypePartialEq.TheImpl as struct_types
use Rattle.wasmparser_types.specs.contracts.composite_type.CompositeTypePartialEq.TheImpl as composite_types
use Rattle.wasmparser_types.specs.contracts.sub_type.SubTypePartialEq.TheImpl as sub_types
use Rattle.wasmparser_types.specs.contracts.sub_type.GroupTypesPartialEq.TheImpl as group_types
use Rattle.wasmparser_types.specs.contracts.sub_type.RecGroupPartialEq.TheImpl as rec_groups

-- lists are equal as their items are
pub lists_decide : {A B : Type 0} (E : A → A → Bool) (view : A → B) → ((a b : A) → Decides (E a b) (view a ≡ view b)) → (xs ys : List A) → Decides (pointwise E xs ys) (map view xs ≡ map view ys)
lists_decide E view items [] [] = (λ _. refl, λ _. refl)
lists_decide E view items [] (y ∷ ys) = (λ p. cc, λ p. cc)
lists_decide E view items (x ∷ xs) [] = (λ p. cc, λ p. cc)
lists_decide E view items (x ∷ xs) (y ∷ ys) =
    Decides-like (E x y && pointwise E xs ys) (λ p. cc (p.0, p.1)) (λ p. (cc, cc)) (Decides-and (E x y) (pointwise E xs ys) (items x y) (lists_decide E view items xs ys))

pub same_bits : (a b : spec.RefType Index) → ref_bits a ≡ ref_bits b → a ≡ b
same_bits a b is = sym (ref_type_at-bits a) ∙ (ap ref_type_at is ∙ ref_type_at-bits b)

pub refs_decide : (a b : spec.RefType Index) → Decides (ref_bits a == ref_bits b) (a ≡ b)
refs_decide a b = Decides-like (ref_bits a == ref_bits b) (same_bits a b) (ap ref_bits) (Decides-eqb (ref_bits a) (ref_bits b))

pub vals_decide : (a b : ValType) → Decides (val_types.ghosts.eq a b) (val_type a ≡ val_type b)
vals_decide a b = search (rules, refs_decide)

pub storages_decide : (a b : StorageType) → Decides (storage_types.ghosts.eq a b) (storage_type a ≡ storage_type b)
storages_decide I8 I8 = (λ _. refl, λ _. refl)
storages_decide I8 I16 = (λ p. cc, λ p. cc)
storages_decide I8 (Val b) = (λ p. cc, λ p. cc)
storages_decide I16 I8 = (λ p. cc, λ p. cc)
storages_decide I16 I16 = (λ _. refl, λ _. refl)
storages_decide I16 (Val b) = (λ p. cc, λ p. cc)
storages_decide (Val a) I8 = (λ p. cc, λ p. cc)
storages_decide (Val a) I16 = (λ p. cc, λ p. cc)
storages_decide (Val a) (Val b) = Decides-like _ (ap spec.Val) (λ p. cc) (vals_decide a b)

flags_decide : (a b : Bool) → Decides (flags.ghosts.eq a b) (a ≡ b)
flags_decide a b = search rules

pub fields_decide : (a b : FieldType) → Decides (field_types.ghosts.eq a b) (field_type a ≡ field_type b)
fields_decide a b =
    Decides-like _ (λ p. cc (p.0, p.1)) (λ p. (ap (λ (t : spec.FieldType Index). t.element_type) p, ap (λ (t : spec.FieldType Index). t.mutable) p)) (Decides-and _ _ (storages_decide a.element_type b.element_type) (flags_decide a.mutable b.mutable))

pub funcs_decide : (a b : FuncType) → Decides (func_types.ghosts.eq a b) (func_type a ≡ func_type b)
funcs_decide a b =
    Decides-like _ (λ p. cc (p.0, p.1)) (λ p. (ap (λ (t : spec.FuncType Index). t.params) p, ap (λ (t : spec.FuncType Index). t.results) p)) (Decides-and _ _ (lists_decide _ val_type vals_decide a.params.items b.params.items) (lists_decide _ val_type vals_decide a.results.items b.results.items))

pub structs_decide : (a b : StructType) → Decides (struct_types.ghosts.eq a b) (struct_fields a ≡ struct_fields b)
structs_decide a b = lists_decide _ field_type fields_decide a.fields.items b.fields.items

pub composites_decide : (a b : CompositeType) → Decides (composite_types.ghosts.eq a b) (composite_type a ≡ composite_type b)
composites_decide a b = search (rules, fields_decide, funcs_decide, structs_decide)

indexes_decide : (a b : Index) → Decides (packed_indexes.ghosts.eq a b) (a ≡ b)
indexes_decide a b = search (rules, Decides-eqb, unpacked-packed)

supertypes_decide : (xs ys : List Index) → Decides (pointwise packed_indexes.ghosts.eq xs ys) (xs ≡ ys)
supertypes_decide xs ys = slice_eq-Decides indexes_decide xs ys _ refl

pub subs_decide : (a b : SubType) → Decides (sub_types.ghosts.eq a b) (sub_type a ≡ sub_type b)
subs_decide a b = search (rules, supertypes_decide, composites_decide)

inner_decides : (a b : GroupTypes) → Decides (group_types.ghosts.eq a b) (group_of a ≡ group_of b)
inner_decides (Implicit a) (Implicit b) = Decides-like _ (ap spec.Single) (λ p. cc) (subs_decide a b)
inner_decides (Implicit a) (Explicit ys) = (λ p. cc, λ p. cc)
inner_decides (Explicit xs) (Implicit b) = (λ p. cc, λ p. cc)
inner_decides (Explicit xs) (Explicit ys) = Decides-like _ (ap spec.Group) (λ p. cc) (lists_decide _ sub_type subs_decide xs.items ys.items)

pub groups_decide : (a b : RecGroup) → Decides (rec_groups.ghosts.eq a b) (rec_group a ≡ rec_group b)
groups_decide a b = inner_decides a.inner b.inner
