-- Types whose indexes were packed, taken back.
use Rattle.std.proofs.Common.{◌≡◌, ◌≤◌, ◌<◌, ℕ, zero, suc, List, [], ◌∷◌, map, Option, Some, None, refl, sym, ap, subst, ◌∙◌, ◌⊎◌, inl, inr, arith}
use Rattle.std.proofs.lemmas.Bool.{cases_lt, lt-ltb, le-ltb}
use Rattle.std.proofs.lemmas.List.{append-nil}
use Rattle.std.specs.List.{AllByRecursion, Any}
use Rattle.wasm_core_read.specs.Reading.{◌>>=◌, ReadingOf}
use Rattle.wasm_core_read.specs.TypeReading.{val_type_at, ref_type_at, rec_group_at}
use Rattle.wasm_core_read.proofs.Forms.{some_is}
use Rattle.wasm_spec.proofs.TypeMaps.{subs_map-subs_map, subs_refs-map, group_refs-map, subs_map_agree, same_subs}
use Rattle.wasm_spec.specs.TypeReferences.{heap_map, ref_map, val_map, subs_map, group_map, heap_refs, ref_refs, val_refs, subs_refs, group_refs}
use Rattle.wasm_spec.specs.Types.{HeapType, Abstract, Concrete, RefType, ValType, I32, I64, F32, F64, V128, Ref, SubType, RecGroup, Single, Group}
use Rattle.wasmparser_types.specs.Index.{Index, packable, number_of}
use Rattle.wasmparser_types.specs.Index as indexes
use Rattle.wasmparser_readers.specs.Answers.{HasLargeIndex}
use Rattle.wasmparser_readers.specs.ModuleIndexes.{IsModuleIndex}
use Rattle.wasmparser_readers.specs.PackedReading.{packed_index, packed_val_at, packed_ref_type_at, packed_group_at}
use Rattle.wasmparser_readers.proofs.MappedReading.{Mapped, given}
use Rattle.wasmparser_readers.proofs.PackedLaws.{val_is, ref_is, group_is}

-- ---- indexes

is_packed : (n : ℕ) → ((packed_index n ≡ indexes.Module n) × (n < packable)) ⊎ ((packed_index n ≡ indexes.RecGroup 0) × (packable ≤ n))
is_packed n = elim (cases_lt n packable) [ inl lt ↦ inl (rw (lt-ltb n packable lt) refl, lt) | inr le ↦ inr (rw (le-ltb n packable le) refl, le) ]

number_back : (n : ℕ) → IsModuleIndex (packed_index n) → number_of (packed_index n) ≡ n
number_back n h = elim (is_packed n) [ inl p ↦ ap number_of p.0 | inr p ↦ absurd (subst IsModuleIndex p.0 h) ]

is_large : (n : ℕ) → ¬ (IsModuleIndex (packed_index n)) → packable ≤ n
is_large n h = elim (is_packed n) [ inl p ↦ absurd (h (subst IsModuleIndex (sym p.0) tt)) | inr p ↦ p.1 ]

all_back : (ns : List ℕ) → AllByRecursion IsModuleIndex (map packed_index ns) → AllByRecursion (λ n. number_of (packed_index n) ≡ n) ns
all_back [] h = tt
all_back (n ∷ ns) h = (number_back n h.0, all_back ns h.1)

any_large : (ns : List ℕ) → Any (λ i. ¬ (IsModuleIndex i)) (map packed_index ns) → Any (λ n. packable ≤ n) ns
any_large [] h = absurd (omega (arith, h.2))
any_large (n ∷ ns) (zero, i, lt, is, not) = (0, n, omega arith, refl, is_large n (subst (λ (x : Index). ¬ (IsModuleIndex x)) (sym is) not))
any_large (n ∷ ns) (suc k, i, lt, is, not) =
    let r = any_large ns (k, i, omega (arith, lt), is, not) in
    (suc r.0, r.1, omega (arith, r.2), r.3, r.4)

-- ---- what is read packed

-- of what reads packed: what the grammar reads
abbrev pub Unpacks : {A B : Type 0} → (A → B) → ReadingOf A → List ℕ → B → List ℕ → Type 0
Unpacks {A} f a_at bytes v rest = (x : A) × (a_at bytes ≡ given x rest) × (v ≡ f x)

unpacks : {A B : Type 0} (f : A → B) (a_at : ReadingOf A) (b_at : ReadingOf B) → Mapped f a_at b_at → (bytes : List ℕ) (v : B) (rest : List ℕ) → b_at bytes ≡ given v rest → Unpacks f a_at bytes v rest
unpacks {A = A} {B = B} f a_at b_at law bytes v rest e = by_read (a_at bytes) (sym (law bytes) ∙ e)
  where
    by_read : (read : Option (A × List ℕ)) → (read >>= λ a. given (f a.0) a.1) ≡ given v rest → (x : A) × (read ≡ given x rest) × (v ≡ f x)
    by_read None h = absurd cc
    by_read (Some a) h =
        let p = some_is (f a.0, a.1) (v, rest) h in
        (a.0, ap (λ (q : B × List ℕ). given a.0 q.1) p, sym (ap (λ (q : B × List ℕ). q.0) p))

pub item_unread : {A B : Type 0} (f : A → B) (a_at : ReadingOf A) (b_at : ReadingOf B) → Mapped f a_at b_at → (bytes : List ℕ) → b_at bytes ≡ None → a_at bytes ≡ None
item_unread {A = A} f a_at b_at law bytes e = by_read (a_at bytes) (sym (law bytes) ∙ e)
  where
    by_read : (read : Option (A × List ℕ)) → (read >>= λ a. given (f a.0) a.1) ≡ None → read ≡ None
    by_read None h = refl
    by_read (Some a) h = absurd cc

-- what a value that reads packed says of what the grammar reads: where nothing stands for a large index, and where something does
pub item_read : {A B : Type 0} (f : A → B) (a_at : ReadingOf A) (b_at : ReadingOf B) (back : B → A) (IsOf : B → Type 0) → Mapped f a_at b_at → ((x : A) → IsOf (f x) → back (f x) ≡ x)
    → (bytes : List ℕ) (v : B) (rest : List ℕ) → b_at bytes ≡ Some (v, rest) → IsOf v → a_at bytes ≡ Some (back v, rest)
item_read {A = A} f a_at b_at back IsOf law is_back bytes v rest e h =
    let (x, reads, is) = unpacks f a_at b_at law bytes v rest e in
    let same : back v ≡ x = ap back is ∙ is_back x (subst IsOf is h) in
    reads ∙ ap (λ (a : A). given a rest) (sym same)

pub item_large : {A B : Type 0} (f : A → B) (a_at : ReadingOf A) (b_at : ReadingOf B) (IsOf : B → Type 0) (indexes : A → List ℕ) → Mapped f a_at b_at → ((x : A) → ¬ (IsOf (f x)) → Any (λ n. packable ≤ n) (indexes x))
    → (bytes : List ℕ) (v : B) (rest : List ℕ) → b_at bytes ≡ Some (v, rest) → ¬ (IsOf v) → HasLargeIndex indexes (a_at bytes)
item_large {B = B} f a_at b_at IsOf indexes law is_large_in bytes v rest e h =
    let (x, reads, is) = unpacks f a_at b_at law bytes v rest e in
    subst (HasLargeIndex indexes) (sym reads) (is_large_in x (subst (λ (b : B). ¬ (IsOf b)) is h))

-- ---- groups

identity : {R : Type 0} (d : R) (xs : List (SubType R)) → subs_map (λ r. r) xs ≡ xs
identity {R = R} d xs =
    same_subs d (subs_map (λ r. r) xs) xs (subs_map-subs_map (λ _. tt {0}) (λ r. r) xs) (subs_refs-map (λ r. r) xs ∙ itself (subs_refs xs))
  where
    itself : (rs : List R) → map (λ r. r) rs ≡ rs
    itself [] = refl
    itself (r ∷ rs) = ap (λ (ts : List R). r ∷ ts) (itself rs)

abbrev first : {R : Type 0} → List (SubType R) → SubType R → SubType R
first [] d = d
first (x ∷ xs) d = x

group_identity : (g : RecGroup Index) → group_map (λ r. r) g ≡ g
group_identity (Single type) = ap (λ (xs : List (SubType Index)). Single (first xs type)) (identity (indexes.Module 0) (type ∷ []))
group_identity (Group types) = ap Group (identity (indexes.Module 0) types)

types_back : (xs : List (SubType ℕ)) → AllByRecursion IsModuleIndex (subs_refs (subs_map packed_index xs)) → subs_map number_of (subs_map packed_index xs) ≡ xs
types_back xs h =
    subs_map-subs_map number_of packed_index xs
    ∙ subs_map_agree 0 (λ n. number_of (packed_index n)) (λ n. n) xs (all_back (subs_refs xs) (subst (AllByRecursion IsModuleIndex) (subs_refs-map packed_index xs) h))
    ∙ identity 0 xs

group_back : (x : RecGroup ℕ) → AllByRecursion IsModuleIndex (group_refs (group_map packed_index x)) → group_map number_of (group_map packed_index x) ≡ x
group_back (Single type) h = ap (λ (xs : List (SubType ℕ)). Single (first xs type)) (types_back (type ∷ []) (subst (AllByRecursion IsModuleIndex) (sym (append-nil (group_refs (group_map packed_index (Single type))))) h))
group_back (Group types) h = ap Group (types_back types h)

pub group_unread : (bytes : List ℕ) → packed_group_at bytes ≡ None → rec_group_at bytes ≡ None
group_unread bytes e = item_unread _ _ _ group_is bytes e

group_read : (bytes : List ℕ) (v : RecGroup Index) (rest : List ℕ) → packed_group_at bytes ≡ Some (v, rest) → AllByRecursion IsModuleIndex (group_refs v) → rec_group_at bytes ≡ Some (group_map number_of v, rest)
group_read bytes v rest e h = item_read _ _ _ (group_map number_of) (λ g. AllByRecursion IsModuleIndex (group_refs g)) group_is group_back bytes v rest e h

-- a group whose indexes were let through as they are
pub group_kept : (bytes : List ℕ) (v w : RecGroup Index) (rest : List ℕ) → packed_group_at bytes ≡ Some (v, rest) → w ≡ group_map (λ i. i) v → AllByRecursion IsModuleIndex (group_refs v) → rec_group_at bytes ≡ Some (group_map number_of w, rest)
group_kept bytes v w rest e same h = group_read bytes v rest e h ∙ ap (λ (g : RecGroup Index). Some (group_map number_of g, rest)) (sym (same ∙ group_identity v))

pub kept_indexes : (v w : RecGroup Index) → w ≡ group_map (λ i. i) v → AllByRecursion IsModuleIndex (group_refs v) → AllByRecursion IsModuleIndex (group_refs w)
kept_indexes v w same h = subst (λ (g : RecGroup Index). AllByRecursion IsModuleIndex (group_refs g)) (sym (same ∙ group_identity v)) h

pub group_large : (bytes : List ℕ) (v : RecGroup Index) (rest : List ℕ) → packed_group_at bytes ≡ Some (v, rest) → Any (λ i. ¬ (IsModuleIndex i)) (group_refs v) → HasLargeIndex group_refs (rec_group_at bytes)
group_large bytes v rest e h =
    let (x, reads, is) = unpacks _ _ _ group_is bytes v rest e in
    let refs : group_refs v ≡ map packed_index (group_refs x) = ap group_refs is ∙ group_refs-map packed_index x in
    subst (HasLargeIndex group_refs) (sym reads) (any_large (group_refs x) (subst (Any (λ i. ¬ (IsModuleIndex i))) refs h))

-- ---- value types and reference types

heap_back : (x : HeapType ℕ) → AllByRecursion IsModuleIndex (heap_refs (heap_map packed_index x)) → heap_map number_of (heap_map packed_index x) ≡ x
heap_back (Abstract heap) h = refl
heap_back (Concrete n) h = ap Concrete (number_back n h.0)

heap_large : (x : HeapType ℕ) → ¬ (AllByRecursion IsModuleIndex (heap_refs (heap_map packed_index x))) → Any (λ n. packable ≤ n) (heap_refs x)
heap_large (Abstract heap) h = absurd (h tt)
heap_large (Concrete n) h = (0, n, omega arith, refl, is_large n (λ m. h (m, tt)))

pub ref_unread : (bytes : List ℕ) → packed_ref_type_at bytes ≡ None → ref_type_at bytes ≡ None
ref_unread bytes e = item_unread _ _ _ ref_is bytes e

pub ref_back : (x : RefType ℕ) → AllByRecursion IsModuleIndex (ref_refs (ref_map packed_index x)) → ref_map number_of (ref_map packed_index x) ≡ x
ref_back x h = rw (heap_back x.heap_type h) refl

pub ref_large_in : (x : RefType ℕ) → ¬ (AllByRecursion IsModuleIndex (ref_refs (ref_map packed_index x))) → Any (λ n. packable ≤ n) (ref_refs x)
ref_large_in x h = heap_large x.heap_type h

pub ref_read : (bytes : List ℕ) (v : RefType Index) (rest : List ℕ) → packed_ref_type_at bytes ≡ Some (v, rest) → AllByRecursion IsModuleIndex (ref_refs v) → ref_type_at bytes ≡ Some (ref_map number_of v, rest)
ref_read bytes v rest e h = item_read _ _ _ (ref_map number_of) (λ t. AllByRecursion IsModuleIndex (ref_refs t)) ref_is ref_back bytes v rest e h

pub ref_large : (bytes : List ℕ) (v : RefType Index) (rest : List ℕ) → packed_ref_type_at bytes ≡ Some (v, rest) → ¬ (AllByRecursion IsModuleIndex (ref_refs v)) → HasLargeIndex ref_refs (ref_type_at bytes)
ref_large bytes v rest e h = item_large _ _ _ (λ t. AllByRecursion IsModuleIndex (ref_refs t)) ref_refs ref_is ref_large_in bytes v rest e h

pub val_back : (x : ValType ℕ) → AllByRecursion IsModuleIndex (val_refs (val_map packed_index x)) → val_map number_of (val_map packed_index x) ≡ x
val_back I32 h = refl
val_back I64 h = refl
val_back F32 h = refl
val_back F64 h = refl
val_back V128 h = refl
val_back (Ref nullable heap) h = ap (Ref nullable) (heap_back heap h)

pub val_large_in : (x : ValType ℕ) → ¬ (AllByRecursion IsModuleIndex (val_refs (val_map packed_index x))) → Any (λ n. packable ≤ n) (val_refs x)
val_large_in I32 h = absurd (h tt)
val_large_in I64 h = absurd (h tt)
val_large_in F32 h = absurd (h tt)
val_large_in F64 h = absurd (h tt)
val_large_in V128 h = absurd (h tt)
val_large_in (Ref nullable heap) h = heap_large heap h

pub val_unread : (bytes : List ℕ) → packed_val_at bytes ≡ None → val_type_at bytes ≡ None
val_unread bytes e = item_unread _ _ _ val_is bytes e

pub val_read : (bytes : List ℕ) (v : ValType Index) (rest : List ℕ) → packed_val_at bytes ≡ Some (v, rest) → AllByRecursion IsModuleIndex (val_refs v) → val_type_at bytes ≡ Some (val_map number_of v, rest)
val_read bytes v rest e h = item_read _ _ _ (val_map number_of) (λ t. AllByRecursion IsModuleIndex (val_refs t)) val_is val_back bytes v rest e h

pub val_large : (bytes : List ℕ) (v : ValType Index) (rest : List ℕ) → packed_val_at bytes ≡ Some (v, rest) → ¬ (AllByRecursion IsModuleIndex (val_refs v)) → HasLargeIndex val_refs (val_type_at bytes)
val_large bytes v rest e h = item_large _ _ _ (λ t. AllByRecursion IsModuleIndex (val_refs t)) val_refs val_is val_large_in bytes v rest e h

pub ruleset group_items = (group_unread, group_kept, kept_indexes, group_large)

pub ruleset ref_items = (ref_unread, ref_read, ref_large)

pub ruleset val_items = (val_unread, val_read, val_large)
