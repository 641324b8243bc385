-- The bounds on items in lists that the types of the code give.
use Rattle.std.proofs.Common.{◌≡◌, ℕ, zero, suc, ◌+◌, ◌≤◌, ◌<◌, Bool, List, ℤ, Option, Some, None, [], ◌∷◌, length, map, take, drop, get_or, Fits, w8, w32, refl, sym, ap, subst, ◌∙◌, arith}
use Rattle.std.specs.List.{AllByRecursion}
use Rattle.std.proofs.lemmas.List.{drop_more, drop_all}
use Rattle.wasm_encoder_expression_sections.specs.ReadItems.{IsSmallOption}
use Rattle.wasm_encoder_instructions.specs.Instructions.{vector_bytes}
use Rattle.wasm_encoder_sections.specs.SmallItems.{HasBits, IsSmallImport}
use Rattle.wasm_smith_shapes.specs.Imports.{import_entry}
use Rattle.wasm_smith_shapes.specs.declared.imports.ImportEntry.{ImportEntry}
use Rattle.wasm_smith_sections.specs.SmallModules.{IsReadable}
use Rattle.wasm_smith_validity.specs.ValidGroups.{entry}
use Rattle.wasm_smith_types.specs.Grouped.{grouped}
use Rattle.wasm_spec.specs.Bytes.{AreBytes}
use Rattle.wasm_spec.specs.SmallIndexes.{IsSmallIndex, IsSmallGroup, IsSmallSub}
use Rattle.wasm_spec.specs.Types.{SubType}

pub indexes_fit : (indexes : List ℕ) → ((k : ℕ) → Fits w32 (get_or indexes k 0)) → AllByRecursion IsSmallIndex indexes
indexes_fit [] h = tt
indexes_fit (index ∷ indexes) h = (omega (arith, h 0), indexes_fit indexes (λ k. h (suc k)))

pub bytes_fit : (bytes : List ℕ) → ((k : ℕ) → Fits w8 (get_or bytes k 0)) → AreBytes bytes
bytes_fit [] h = tt
bytes_fit (b ∷ bs) h = (omega (arith, h 0), bytes_fit bs (λ k. h (suc k)))

-- ---- loops

pub next_fits : {A : Type 0} (P : A → Type 0) (items : List A) (i : ℕ) (item : A) → i < length items → item ≡ get_or items i item → P item
    → (AllByRecursion P (drop i items) → AllByRecursion P items) → AllByRecursion P (drop (i + 1) items) → AllByRecursion P items
next_fits P items i item within is fits so_far rest =
    so_far (subst (λ l. AllByRecursion P l) (sym (drop_more items i item within ∙ ap (λ x. x ∷ drop (i + 1) items) (sym is))) (fits, rest))

pub all_fit : {A : Type 0} (P : A → Type 0) (items : List A) (i : ℕ) → length items ≤ i → (AllByRecursion P (drop i items) → AllByRecursion P items) → AllByRecursion P items
all_fit P items i past so_far = so_far (subst (λ l. AllByRecursion P l) (sym (drop_all i items past)) tt)

-- ---- views

pub seen : {A B : Type 0} (P : B → Type 0) (view : A → B) (items : List A) → AllByRecursion (λ item. P (view item)) items → AllByRecursion P (map view items)
seen P view [] h = tt
seen P view (item ∷ items) h = (h.0, seen P view items h.1)

pub readable_imports : (compact : Bool) (entries : List ImportEntry) → AllByRecursion (λ entry. (on : Bool) → IsReadable on (import_entry entry) → IsSmallImport on (import_entry entry)) entries
    → AllByRecursion (IsReadable compact) (map import_entry entries) → AllByRecursion (IsSmallImport compact) (map import_entry entries)
readable_imports compact [] h readable = tt
readable_imports compact (entry ∷ entries) h readable = (h.0 compact readable.0, readable_imports compact entries h.1 readable.1)

pub small_option : (index : Option ℕ) → HasBits 32 index → IsSmallOption index
small_option None small = tt
small_option (Some index) small = small

-- ---- vectors

pub vector_fits : (bits : ℤ) → AreBytes (vector_bytes bits) × (length (vector_bytes bits) ≡ 16)
unfolding vector_bytes
vector_fits bits = ((omega arith, (omega arith, (omega arith, (omega arith, (omega arith, (omega arith, (omega arith, (omega arith, (omega arith, (omega arith, (omega arith, (omega arith, (omega arith, (omega arith, (omega arith, (omega arith, tt)))))))))))))))), refl)

-- ---- groups

taken : {A : Type 0} (P : A → Type 0) (n : ℕ) (xs : List A) → AllByRecursion P xs → AllByRecursion P (take n xs)
taken P zero xs h = tt
taken P (suc n) [] h = tt
taken P (suc n) (x ∷ xs) h = (h.0, taken P n xs h.1)

dropped : {A : Type 0} (P : A → Type 0) (n : ℕ) (xs : List A) → AllByRecursion P xs → AllByRecursion P (drop n xs)
dropped P zero xs h = h
dropped P (suc n) [] h = tt
dropped P (suc n) (x ∷ xs) h = dropped P n xs h.1

small_entry : (types : List (SubType ℕ)) → AllByRecursion IsSmallSub types → IsSmallGroup (entry types)
small_entry [] h = tt
small_entry (type ∷ []) h = h.0
small_entry (type ∷ next ∷ types) h = h

pub small_groups : (sizes : List ℕ) (types : List (SubType ℕ)) → AllByRecursion IsSmallSub types → AllByRecursion IsSmallGroup (grouped sizes types)
small_groups [] types h = tt
small_groups (size ∷ sizes) types h = (small_entry (take size types) (taken IsSmallSub size types h), small_groups sizes (drop size types) (dropped IsSmallSub size types h))
