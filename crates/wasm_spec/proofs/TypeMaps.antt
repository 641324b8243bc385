-- Types with their references replaced, taken out and put back.
use Rattle.std.proofs.Common.{◌≡◌, List, [], ◌∷◌, ◌++◌, map, refl, ap, sym, ◌∙◌, append_assoc}
use Rattle.std.proofs.lemmas.List.{map-append, append-nil}
use Rattle.std.specs.List.{AllByRecursion, flat_map}
use Rattle.wasm_spec.specs.TypeReferences.{heap_map, ref_map, val_map, storage_map, field_map, composite_map, sub_map, subs_map, group_map, table_map, global_map, external_map, heap_refs, ref_refs, val_refs, storage_refs, field_refs, composite_refs, sub_refs, subs_refs, group_refs, table_refs, global_refs, external_refs, one_fill, list_fill, heap_fill, ref_fill, val_fill, storage_fill, field_fill, composite_fill, sub_fill, subs_fill, group_fill, table_fill, global_fill, external_fill}
use Rattle.wasm_spec.specs.Types.{HeapType, Abstract, Concrete, RefType, ValType, I32, I64, F32, F64, V128, Ref, StorageType, I8, I16, Val, FieldType, CompositeType, FuncComposite, StructComposite, ArrayComposite, ContComposite, SubType, RecGroup, Single, Group, TableType, GlobalType, ExternalType, FuncExternal, TableExternal, MemoryExternal, GlobalExternal, TagExternal}

-- ---- one map after another

pub map-map : {A B C : Type 0} (h : B → C) (k : A → B) (m : A → C) → ((x : A) → h (k x) ≡ m x) → (xs : List A) → map h (map k xs) ≡ map m xs
map-map h k m same [] = refl
map-map h k m same (x ∷ xs) = rw (same x, map-map h k m same xs)

heap_map-heap_map : {R S T : Type 0} (g : S → T) (f : R → S) (x : HeapType R) → heap_map g (heap_map f x) ≡ heap_map (λ r. g (f r)) x
heap_map-heap_map g f (Abstract a) = refl
heap_map-heap_map g f (Concrete r) = refl

val_map-val_map : {R S T : Type 0} (g : S → T) (f : R → S) (x : ValType R) → val_map g (val_map f x) ≡ val_map (λ r. g (f r)) x
val_map-val_map g f I32 = refl
val_map-val_map g f I64 = refl
val_map-val_map g f F32 = refl
val_map-val_map g f F64 = refl
val_map-val_map g f V128 = refl
val_map-val_map g f (Ref null h) = rw (heap_map-heap_map g f h)

storage_map-storage_map : {R S T : Type 0} (g : S → T) (f : R → S) (x : StorageType R) → storage_map g (storage_map f x) ≡ storage_map (λ r. g (f r)) x
storage_map-storage_map g f I8 = refl
storage_map-storage_map g f I16 = refl
storage_map-storage_map g f (Val v) = rw (val_map-val_map g f v)

field_map-field_map : {R S T : Type 0} (g : S → T) (f : R → S) (x : FieldType R) → field_map g (field_map f x) ≡ field_map (λ r. g (f r)) x
field_map-field_map g f x = rw (storage_map-storage_map g f x.element_type)

vals_map-vals_map : {R S T : Type 0} (g : S → T) (f : R → S) (xs : List (ValType R)) → map (val_map g) (map (val_map f) xs) ≡ map (val_map (λ r. g (f r))) xs
vals_map-vals_map g f xs = map-map (val_map g) (val_map f) (val_map (λ r. g (f r))) (val_map-val_map g f) xs

composite_map-composite_map : {R S T : Type 0} (g : S → T) (f : R → S) (x : CompositeType R) → composite_map g (composite_map f x) ≡ composite_map (λ r. g (f r)) x
composite_map-composite_map g f (FuncComposite x) = rw (vals_map-vals_map g f x.params, vals_map-vals_map g f x.results)
composite_map-composite_map g f (StructComposite fs) =
    rw (map-map (field_map g) (field_map f) (field_map (λ r. g (f r))) (field_map-field_map g f) fs)
composite_map-composite_map g f (ArrayComposite x) = rw (field_map-field_map g f x)
composite_map-composite_map g f (ContComposite r) = refl

pub sub_map-sub_map : {R S T : Type 0} (g : S → T) (f : R → S) (x : SubType R) → sub_map g (sub_map f x) ≡ sub_map (λ r. g (f r)) x
sub_map-sub_map g f x =
    rw (map-map g f (λ r. g (f r)) (λ r. refl) x.supertypes, composite_map-composite_map g f x.composite_type)

pub subs_map-subs_map : {R S T : Type 0} (g : S → T) (f : R → S) (xs : List (SubType R)) → subs_map g (subs_map f xs) ≡ subs_map (λ r. g (f r)) xs
subs_map-subs_map g f xs = map-map (sub_map g) (sub_map f) (sub_map (λ r. g (f r))) (sub_map-sub_map g f) xs

-- ---- the references of what a map gives

flat_map-refs : {R S X Y : Type 0} (f : R → S) (k : X → Y) (p : X → List R) (q : Y → List S) → ((x : X) → q (k x) ≡ map f (p x)) → (xs : List X) → flat_map q (map k xs) ≡ map f (flat_map p xs)
flat_map-refs f k p q same [] = refl
flat_map-refs f k p q same (x ∷ xs) = rw (same x, flat_map-refs f k p q same xs) (sym (map-append f (p x) (flat_map p xs)))

heap_refs-map : {R S : Type 0} (f : R → S) (x : HeapType R) → heap_refs (heap_map f x) ≡ map f (heap_refs x)
heap_refs-map f (Abstract a) = refl
heap_refs-map f (Concrete r) = refl

val_refs-map : {R S : Type 0} (f : R → S) (x : ValType R) → val_refs (val_map f x) ≡ map f (val_refs x)
val_refs-map f I32 = refl
val_refs-map f I64 = refl
val_refs-map f F32 = refl
val_refs-map f F64 = refl
val_refs-map f V128 = refl
val_refs-map f (Ref null h) = heap_refs-map f h

storage_refs-map : {R S : Type 0} (f : R → S) (x : StorageType R) → storage_refs (storage_map f x) ≡ map f (storage_refs x)
storage_refs-map f I8 = refl
storage_refs-map f I16 = refl
storage_refs-map f (Val v) = val_refs-map f v

field_refs-map : {R S : Type 0} (f : R → S) (x : FieldType R) → field_refs (field_map f x) ≡ map f (field_refs x)
field_refs-map f x = storage_refs-map f x.element_type

composite_refs-map : {R S : Type 0} (f : R → S) (x : CompositeType R) → composite_refs (composite_map f x) ≡ map f (composite_refs x)
composite_refs-map f (FuncComposite x) =
    rw (flat_map-refs f (val_map f) val_refs val_refs (val_refs-map f) x.params, flat_map-refs f (val_map f) val_refs val_refs (val_refs-map f) x.results)
    (sym (map-append f (flat_map val_refs x.params) (flat_map val_refs x.results)))
composite_refs-map f (StructComposite fs) = flat_map-refs f (field_map f) field_refs field_refs (field_refs-map f) fs
composite_refs-map f (ArrayComposite x) = field_refs-map f x
composite_refs-map f (ContComposite r) = refl

pub sub_refs-map : {R S : Type 0} (f : R → S) (x : SubType R) → sub_refs (sub_map f x) ≡ map f (sub_refs x)
sub_refs-map f x = rw (composite_refs-map f x.composite_type) (sym (map-append f x.supertypes (composite_refs x.composite_type)))

pub subs_refs-map : {R S : Type 0} (f : R → S) (xs : List (SubType R)) → subs_refs (subs_map f xs) ≡ map f (subs_refs xs)
subs_refs-map f xs = flat_map-refs f (sub_map f) sub_refs sub_refs (sub_refs-map f) xs

pub group_refs-map : {R S : Type 0} (f : R → S) (x : RecGroup R) → group_refs (group_map f x) ≡ map f (group_refs x)
group_refs-map f (Single type) = sub_refs-map f type
group_refs-map f (Group types) = subs_refs-map f types

-- ---- references that were taken out, put back

list_fill-exact : {R X Y : Type 0} (fill : X → List R → Y × List R) (shape : Y → X) (refs : Y → List R) → ((y : Y) (rest : List R) → fill (shape y) (refs y ++ rest) ≡ (y, rest)) → (ys : List Y) (rest : List R) → list_fill fill (map shape ys) (flat_map refs ys ++ rest) ≡ (ys, rest)
list_fill-exact fill shape refs exact [] rest = refl
list_fill-exact fill shape refs exact (y ∷ ys) rest =
    rw (append_assoc (refs y) (flat_map refs ys) rest, exact y (flat_map refs ys ++ rest), list_fill-exact fill shape refs exact ys rest)

supertypes_fill-exact : {R : Type 0} (d : R) (rs rest : List R) → list_fill (one_fill d) (map (λ _. tt) rs) (rs ++ rest) ≡ (rs, rest)
supertypes_fill-exact d [] rest = refl
supertypes_fill-exact d (r ∷ rs) rest = rw (supertypes_fill-exact d rs rest)

heap_fill-exact : {R : Type 0} (d : R) (x : HeapType R) (rest : List R) → heap_fill d (heap_map (λ _. tt) x) (heap_refs x ++ rest) ≡ (x, rest)
heap_fill-exact d (Abstract a) rest = refl
heap_fill-exact d (Concrete r) rest = refl

val_fill-exact : {R : Type 0} (d : R) (x : ValType R) (rest : List R) → val_fill d (val_map (λ _. tt) x) (val_refs x ++ rest) ≡ (x, rest)
val_fill-exact d I32 rest = refl
val_fill-exact d I64 rest = refl
val_fill-exact d F32 rest = refl
val_fill-exact d F64 rest = refl
val_fill-exact d V128 rest = refl
val_fill-exact d (Ref null h) rest = rw (heap_fill-exact d h rest)

storage_fill-exact : {R : Type 0} (d : R) (x : StorageType R) (rest : List R) → storage_fill d (storage_map (λ _. tt) x) (storage_refs x ++ rest) ≡ (x, rest)
storage_fill-exact d I8 rest = refl
storage_fill-exact d I16 rest = refl
storage_fill-exact d (Val v) rest = rw (val_fill-exact d v rest)

field_fill-exact : {R : Type 0} (d : R) (x : FieldType R) (rest : List R) → field_fill d (field_map (λ _. tt) x) (field_refs x ++ rest) ≡ (x, rest)
field_fill-exact d x rest = rw (storage_fill-exact d x.element_type rest)

composite_fill-exact : {R : Type 0} (d : R) (x : CompositeType R) (rest : List R) → composite_fill d (composite_map (λ _. tt) x) (composite_refs x ++ rest) ≡ (x, rest)
composite_fill-exact d (FuncComposite x) rest =
    rw (append_assoc (flat_map val_refs x.params) (flat_map val_refs x.results) rest, list_fill-exact (val_fill d) (val_map (λ _. tt)) val_refs (val_fill-exact d) x.params (flat_map val_refs x.results ++ rest), list_fill-exact (val_fill d) (val_map (λ _. tt)) val_refs (val_fill-exact d) x.results rest)
composite_fill-exact d (StructComposite fs) rest = rw (list_fill-exact (field_fill d) (field_map (λ _. tt)) field_refs (field_fill-exact d) fs rest)
composite_fill-exact d (ArrayComposite x) rest = ap (λ q. (ArrayComposite q.0, q.1)) (field_fill-exact d x rest)
composite_fill-exact d (ContComposite r) rest = refl

sub_fill-exact : {R : Type 0} (d : R) (x : SubType R) (rest : List R) → sub_fill d (sub_map (λ _. tt) x) (sub_refs x ++ rest) ≡ (x, rest)
sub_fill-exact d x rest =
    rw (append_assoc x.supertypes (composite_refs x.composite_type) rest, supertypes_fill-exact d x.supertypes (composite_refs x.composite_type ++ rest), composite_fill-exact d x.composite_type rest)

pub subs_fill-exact : {R : Type 0} (d : R) (xs : List (SubType R)) (rest : List R) → subs_fill d (subs_map (λ _. tt) xs) (subs_refs xs ++ rest) ≡ (xs, rest)
subs_fill-exact d xs rest = list_fill-exact (sub_fill d) (sub_map (λ _. tt)) sub_refs (sub_fill-exact d) xs rest

pub group_fill-exact : {R : Type 0} (d : R) (x : RecGroup R) (rest : List R) → group_fill d (group_map (λ _. tt) x) (group_refs x ++ rest) ≡ (x, rest)
group_fill-exact d (Single x) rest = ap (λ q. (Single q.0, q.1)) (sub_fill-exact d x rest)
group_fill-exact d (Group xs) rest = ap (λ q. (Group q.0, q.1)) (subs_fill-exact d xs rest)

ref_fill-exact : {R : Type 0} (d : R) (x : RefType R) (rest : List R) → ref_fill d (ref_map (λ _. tt) x) (ref_refs x ++ rest) ≡ (x, rest)
ref_fill-exact d x rest = rw (heap_fill-exact d x.heap_type rest)

table_fill-exact : {R : Type 0} (d : R) (x : TableType R) (rest : List R) → table_fill d (table_map (λ _. tt) x) (table_refs x ++ rest) ≡ (x, rest)
table_fill-exact d x rest = ap (λ q. (record { element_type = q.0; limits = x.limits }, q.1)) (ref_fill-exact d x.element_type rest)

global_fill-exact : {R : Type 0} (d : R) (x : GlobalType R) (rest : List R) → global_fill d (global_map (λ _. tt) x) (global_refs x ++ rest) ≡ (x, rest)
global_fill-exact d x rest = rw (val_fill-exact d x.value_type rest)

pub external_fill-exact : {R : Type 0} (d : R) (x : ExternalType R) (rest : List R) → external_fill d (external_map (λ _. tt) x) (external_refs x ++ rest) ≡ (x, rest)
external_fill-exact d (FuncExternal r) rest = refl
external_fill-exact d (TableExternal x) rest = ap (λ q. (TableExternal q.0, q.1)) (table_fill-exact d x rest)
external_fill-exact d (MemoryExternal x) rest = refl
external_fill-exact d (GlobalExternal x) rest = ap (λ q. (GlobalExternal q.0, q.1)) (global_fill-exact d x rest)
external_fill-exact d (TagExternal r) rest = refl

-- ---- maps that agree

-- sub types are their shapes and their references
pub same_subs : {R : Type 0} (d : R) (xs ys : List (SubType R)) → subs_map (λ _. tt {0}) xs ≡ subs_map (λ _. tt {0}) ys → subs_refs xs ≡ subs_refs ys → xs ≡ ys
same_subs d xs ys shapes refs =
    let from_xs = ap (λ q. q.0) (subs_fill-exact d xs []) in
    let from_ys = ap (λ q. q.0) (subs_fill-exact d ys []) in
    sym from_xs ∙ ap (λ s. (subs_fill d s (subs_refs xs ++ [])).0) shapes ∙ ap (λ rs. (subs_fill d (subs_map (λ _. tt) ys) (rs ++ [])).0) refs ∙ from_ys

maps_agree : {R S : Type 0} (f h : R → S) (rs : List R) → AllByRecursion (λ r. f r ≡ h r) rs → map f rs ≡ map h rs
maps_agree f h [] all = refl
maps_agree f h (r ∷ rs) all = rw (all.0, maps_agree f h rs all.1)

-- a map is fixed by its values at the references
pub subs_map_agree : {R S : Type 0} (d : S) (f h : R → S) (xs : List (SubType R)) → AllByRecursion (λ r. f r ≡ h r) (subs_refs xs) → subs_map f xs ≡ subs_map h xs
subs_map_agree d f h xs all =
    same_subs d (subs_map f xs) (subs_map h xs)
    (subs_map-subs_map (λ _. tt {0}) f xs ∙ sym (subs_map-subs_map (λ _. tt {0}) h xs))
    (subs_refs-map f xs ∙ maps_agree f h (subs_refs xs) all ∙ sym (subs_refs-map h xs))

pub sub_map_agree : {R S : Type 0} (d : S) (f h : R → S) (x : SubType R) → AllByRecursion (λ r. f r ≡ h r) (sub_refs x) → sub_map f x ≡ sub_map h x
sub_map_agree d f h x all =
    let P : List _ → Type 0 = λ rs. AllByRecursion (λ r. f r ≡ h r) rs in
    let whole : subs_map f (x ∷ []) ≡ subs_map h (x ∷ []) = subs_map_agree d f h (x ∷ []) (rw (append-nil (sub_refs x)) all) in
    cc

-- ---- maps that are one to one

maps_injective : {R S : Type 0} (f : R → S) → ((a b : R) → f a ≡ f b → a ≡ b) → (xs ys : List R) → map f xs ≡ map f ys → xs ≡ ys
maps_injective f one [] [] e = refl
maps_injective f one [] (y ∷ ys) e = cc
maps_injective f one (x ∷ xs) [] e = cc
maps_injective f one (x ∷ xs) (y ∷ ys) e =
    let head : f x ≡ f y = cc in
    let tail : map f xs ≡ map f ys = cc in
    rw (one x y head, maps_injective f one xs ys tail)

pub subs_map_injective : {R S : Type 0} (d : R) (f : R → S) → ((a b : R) → f a ≡ f b → a ≡ b) → (xs ys : List (SubType R)) → subs_map f xs ≡ subs_map f ys → xs ≡ ys
subs_map_injective d f one xs ys e =
    same_subs d xs ys
    (sym (subs_map-subs_map (λ _. tt {0}) f xs) ∙ ap (subs_map (λ _. tt {0})) e ∙ subs_map-subs_map (λ _. tt {0}) f ys)
    (maps_injective f one (subs_refs xs) (subs_refs ys) (sym (subs_refs-map f xs) ∙ ap subs_refs e ∙ subs_refs-map f ys))
