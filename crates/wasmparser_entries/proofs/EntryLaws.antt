-- What is read of an entry, part after part.
use Rattle.std.proofs.Common.{◌≡◌, ℕ, suc, ◌≤◌, ◌<◌, Bool, true, false, List, [], ◌∷◌, Option, Some, None, refl, sym, ap, subst, ◌∙◌, inl, inr, length, Result, Ok, Err, arith}
use Rattle.std.proofs.lemmas.Bool.{cases_lt, lt-ltb, le-ltb}
use Rattle.std.proofs.lemmas.Bool.Decides.{eqb_tells}
use Rattle.std.specs.List.{AllByRecursion}
use Rattle.wasm_core_read.specs.PartReading.{import_item_at, single_at, imported_at, import_at}
use Rattle.wasm_core_read.specs.declared.malformed.Malformed.{Malformed}
use Rattle.wasm_core_read.specs.Input.{Input, GoesOn}
use Rattle.wasm_core_read.specs.Reading.{◌>>=◌, seen_at, pair_at, name_at, byte_at}
use Rattle.wasm_core_read.specs.TypeReading.{list_at, external_type_at}
use Rattle.wasm_core_read.proofs.Forms.{some_is}
use Rattle.wasm_spec.specs.Syntax.{ImportItem, ImportEntry, Import, CompactItems, CompactNames}
use Rattle.wasm_spec.specs.Types.{HeapType, Abstract, Concrete, ValType, I32, I64, F32, F64, V128, Ref, ExternalType, FuncExternal, TableExternal, MemoryExternal, GlobalExternal, TagExternal}
use Rattle.wasm_spec.specs.TypeReferences.{heap_map, heap_refs, val_map, val_refs, external_map}
use Rattle.wasmparser_types.specs.Index.{Index, number_of, packable}
use Rattle.wasmparser_readers.specs.Answers.{HasLargeIndex}
use Rattle.wasmparser_readers.specs.ModuleIndexes.{IsModuleIndex}
use Rattle.wasmparser_readers.specs.PackedReading.{packed_index}
use Rattle.wasmparser_readers.specs.Passing.{rest_of}
use Rattle.wasmparser_readers.proofs.MappedReading.{given}
use Rattle.wasmparser_readers.specs.ItemTypes.{packed_refs}
use Rattle.wasmparser_readers.specs.PackedItems.{packed_external, packed_external_at}
use Rattle.wasmparser_readers.proofs.PackedItemLaws.{external_is, external_unread, external_read, external_large_in}
use Rattle.wasmparser_entries.specs.ImportEntries.{entry_refs, group_code, ReadsEntry, IsItemsSince, IsNamesSince, IsSingleAt, IsPlaced}
use Rattle.wasmparser_entries.specs.declared.imports.Imports.{Imports}
use Rattle.wasmparser_entries.specs.declared.imports.Imports.TheVariants as entries
use Rattle.wasmparser_entries.specs.ImportItems.{items_refs}

-- ---- the two bytes of a group

pub none_there : (bytes : List ℕ) → byte_at bytes ≡ None → length bytes ≡ 0
unfolding byte_at
none_there [] e = refl
none_there (b ∷ rest) e = absurd cc

pub one_there : (bytes : List ℕ) (b : ℕ) (rest : List ℕ) → byte_at bytes ≡ Some (b, rest) → length bytes ≡ suc (length rest)
unfolding byte_at
one_there [] b rest e = absurd cc
one_there (c ∷ cs) b rest e = ap (λ (p : ℕ × List ℕ). suc (length p.1)) (some_is (c, cs) (b, rest) e)

-- ---- a single import

pub single_unread : (origin bytes name mid : List ℕ) → name_at bytes ≡ Some (name, mid) → packed_external_at mid ≡ None → single_at origin bytes ≡ None
single_unread origin bytes name mid e f = rw (e, external_unread mid f) refl

abbrev after_name : List ℕ → ExternalType ℕ → List ℕ → Option ((List ℕ × ExternalType ℕ) × List ℕ)
after_name name type rest = Some ((name, type), rest)

abbrev entry : ImportEntry → List ℕ → Option (ImportEntry × List ℕ)
entry v rest = Some (v, rest)

pub single_large : (origin bytes name mid : List ℕ) → name_at bytes ≡ Some (name, mid) → HasLargeIndex packed_refs (external_type_at mid) → HasLargeIndex entry_refs (single_at origin bytes)
single_large origin bytes name mid e large = rw e (by_read (external_type_at mid) large)
  where
    by_read : (read : Option (ExternalType ℕ × List ℕ)) → HasLargeIndex packed_refs read → HasLargeIndex entry_refs ((read >>= λ t. after_name name t.0 t.1) >>= λ x. entry (Import origin x.0.0 x.0.1) x.1)
    by_read None h = absurd h
    by_read (Some t) h = h

pub ruleset single_steps = (single_unread, single_large)

-- ---- a group of items

pub items_large : (origin bytes : List ℕ) → HasLargeIndex items_refs (list_at import_item_at bytes) → HasLargeIndex entry_refs (seen_at (λ items. CompactItems origin items) (list_at import_item_at) bytes)
items_large origin bytes large = by_read (list_at import_item_at bytes) large
  where
    by_read : (read : Option (List ImportItem × List ℕ)) → HasLargeIndex items_refs read → HasLargeIndex entry_refs (read >>= λ x. entry (CompactItems origin x.0) x.1)
    by_read None h = absurd h
    by_read (Some t) h = h

pub ruleset items_steps = (items_large)

-- ---- a group of names

abbrev after_type : ExternalType ℕ → List (List ℕ) → List ℕ → Option ((ExternalType ℕ × List (List ℕ)) × List ℕ)
after_type type names rest = Some ((type, names), rest)

-- what the grammar reads of a type that reads packed
type_is : (bytes : List ℕ) (v : ExternalType Index) (mid : List ℕ) → packed_external_at bytes ≡ Some (v, mid) → (x : ExternalType ℕ) × (external_type_at bytes ≡ Some (x, mid)) × (v ≡ packed_external x)
type_is bytes v mid e = by_read (external_type_at bytes) (sym (external_is bytes) ∙ e)
  where
    by_read : (read : Option (ExternalType ℕ × List ℕ)) → (read >>= λ t. given (packed_external t.0) t.1) ≡ given v mid → (x : ExternalType ℕ) × (read ≡ Some (x, mid)) × (v ≡ packed_external x)
    by_read None h = absurd cc
    by_read (Some t) h =
        let p = some_is (packed_external t.0, t.1) (v, mid) h in
        (t.0, ap (λ (q : ExternalType Index × List ℕ). given t.0 q.1) p, sym (ap (λ (q : ExternalType Index × List ℕ). q.0) p))

pub type_rest : (bytes : List ℕ) (v : ExternalType Index) (mid : List ℕ) → packed_external_at bytes ≡ Some (v, mid) → rest_of (external_type_at bytes) ≡ Some mid
type_rest bytes v mid e = let t = type_is bytes v mid e in rw t.1 refl

pub type_unread : (origin bytes : List ℕ) → packed_external_at bytes ≡ None → seen_at (λ x. CompactNames origin x.0 x.1) (pair_at external_type_at (list_at name_at)) bytes ≡ None
type_unread origin bytes e = rw (external_unread bytes e) refl

pub names_unread : (origin bytes : List ℕ) (v : ExternalType Index) (mid : List ℕ) → packed_external_at bytes ≡ Some (v, mid) → list_at name_at mid ≡ None
    → seen_at (λ x. CompactNames origin x.0 x.1) (pair_at external_type_at (list_at name_at)) bytes ≡ None
names_unread origin bytes v mid e f = let t = type_is bytes v mid e in rw (t.1, f) refl

pub names_large : (origin bytes : List ℕ) (v : ExternalType Index) (mid : List ℕ) (names : List (List ℕ)) (rest : List ℕ) → packed_external_at bytes ≡ Some (v, mid) → list_at name_at mid ≡ Some (names, rest)
    → ¬ (AllByRecursion IsModuleIndex (packed_refs v)) → HasLargeIndex entry_refs (seen_at (λ x. CompactNames origin x.0 x.1) (pair_at external_type_at (list_at name_at)) bytes)
names_large origin bytes v mid names rest e f not =
    let t = type_is bytes v mid e in
    rw (t.1, f) (external_large_in t.0 (subst (λ (w : ExternalType Index). ¬ (AllByRecursion IsModuleIndex (packed_refs w))) t.2 not))

pub names_read : (origin bytes : List ℕ) (v : ExternalType Index) (mid : List ℕ) (names : List (List ℕ)) (rest : List ℕ) → packed_external_at bytes ≡ Some (v, mid) → list_at name_at mid ≡ Some (names, rest)
    → AllByRecursion IsModuleIndex (packed_refs v) → seen_at (λ x. CompactNames origin x.0 x.1) (pair_at external_type_at (list_at name_at)) bytes ≡ Some (CompactNames origin (external_map number_of v) names, rest)
names_read origin bytes v mid names rest e f all = rw (external_read bytes v mid e all, f) refl

-- the indexes of a type that is named by places in the module
small_index : (n : ℕ) → AllByRecursion IsModuleIndex (packed_index n ∷ []) → AllByRecursion (λ m. m < packable) (number_of (packed_index n) ∷ [])
small_index n all =
    elim (cases_lt n packable) [
      | inl lt ↦ rw (lt-ltb n packable lt) (lt, tt)
      | inr le ↦ absurd (rw (le-ltb n packable le) at all).0
    ]

small_in_heap : (heap : HeapType ℕ) → AllByRecursion IsModuleIndex (heap_refs (heap_map packed_index heap)) → AllByRecursion (λ m. m < packable) (heap_refs (heap_map number_of (heap_map packed_index heap)))
small_in_heap (Abstract heap) all = tt
small_in_heap (Concrete n) all = small_index n all

small_in_value : (type : ValType ℕ) → AllByRecursion IsModuleIndex (val_refs (val_map packed_index type)) → AllByRecursion (λ m. m < packable) (val_refs (val_map number_of (val_map packed_index type)))
small_in_value I32 all = tt
small_in_value I64 all = tt
small_in_value F32 all = tt
small_in_value F64 all = tt
small_in_value V128 all = tt
small_in_value (Ref nullable heap) all = small_in_heap heap all

small_in_item : (type : ExternalType ℕ) → AllByRecursion IsModuleIndex (packed_refs (packed_external type)) → AllByRecursion (λ m. m < packable) (packed_refs (external_map number_of (packed_external type)))
small_in_item (FuncExternal function) all = tt
small_in_item (TableExternal type) all = small_in_heap type.element_type.heap_type all
small_in_item (MemoryExternal type) all = tt
small_in_item (GlobalExternal type) all = small_in_value type.value_type all
small_in_item (TagExternal function) all = tt

pub names_small : (bytes : List ℕ) (v : ExternalType Index) (mid : List ℕ) → packed_external_at bytes ≡ Some (v, mid) → AllByRecursion IsModuleIndex (packed_refs v) → AllByRecursion (λ n. n < packable) (packed_refs (external_map number_of v))
names_small bytes v mid e all =
    let t = type_is bytes v mid e in
    subst (λ (w : ExternalType Index). AllByRecursion (λ n. n < packable) (packed_refs (external_map number_of w))) (sym t.2)
    (small_in_item t.0 (subst (λ (w : ExternalType Index). AllByRecursion IsModuleIndex (packed_refs w)) t.2 all))

pub ruleset names_steps = (type_rest, type_unread, names_unread, names_large, names_read, names_small)

-- ---- what stands after the module's name

pub entry_unread : (compact : Bool) (bytes : List ℕ) → name_at bytes ≡ None → import_at compact bytes ≡ None
unfolding import_at
entry_unread compact bytes e = rw e refl

plain : (compact : Bool) (bytes origin mid : List ℕ) → name_at bytes ≡ Some (origin, mid) → compact ≡ false → import_at compact bytes ≡ single_at origin mid
unfolding import_at
plain compact bytes origin mid e f = rw (e, f) refl

with_items : (compact : Bool) (bytes origin mid rest : List ℕ) → name_at bytes ≡ Some (origin, mid) → compact ≡ true → mid ≡ 0x00 ∷ 0x7f ∷ rest → import_at compact bytes ≡ seen_at (λ items. CompactItems origin items) (list_at import_item_at) rest
unfolding import_at
with_items compact bytes origin mid rest e f g = rw (e, f, g) refl

with_names : (compact : Bool) (bytes origin mid rest : List ℕ) → name_at bytes ≡ Some (origin, mid) → compact ≡ true → mid ≡ 0x00 ∷ 0x7e ∷ rest
    → import_at compact bytes ≡ seen_at (λ x. CompactNames origin x.0 x.1) (pair_at external_type_at (list_at name_at)) rest
unfolding import_at
with_names compact bytes origin mid rest e f g = rw (e, f, g) refl

no_group : (origin bytes : List ℕ) → ¬ (group_code bytes ≡ Some 0x7f) → ¬ (group_code bytes ≡ Some 0x7e) → imported_at true origin bytes ≡ single_at origin bytes
no_group origin [] g h = refl
no_group origin (z ∷ []) g h = refl
no_group origin (z ∷ c ∷ rest) g h =
    elim (eqb_tells z 0x00) [
      | inl (t, zeroth) ↦ elim (eqb_tells c 0x7f) [
        | inl (u, same) ↦ absurd (g (rw (t, same) refl))
        | inr (u, other) ↦ elim (eqb_tells c 0x7e) [
          | inl (w, same) ↦ absurd (h (rw (t, same) refl))
          | inr (w, another) ↦ rw (t, u, w) refl
        ]
      ]
      | inr (t, other) ↦ rw t refl
    ]

alone : (compact : Bool) (bytes origin mid : List ℕ) → name_at bytes ≡ Some (origin, mid) → compact ≡ true → ¬ (group_code mid ≡ Some 0x7f) → ¬ (group_code mid ≡ Some 0x7e) → import_at compact bytes ≡ single_at origin mid
unfolding import_at
alone compact bytes origin mid e f g h = rw (e, f) (no_group origin mid g h)

both : (old mid new : Input) → GoesOn old mid → GoesOn mid new → GoesOn old new
both old mid new a b = record { forward = omega (arith, a.forward, b.forward); same_end = b.same_end ∙ a.same_end; same_features = b.same_features ∙ a.same_features }

-- what is read after the name is what is read of the entry
lifted : (Is IsIt : Imports → Type 0) (old mid new : Input) (r : Result (Option Imports) Malformed) (whole part : Option (ImportEntry × List ℕ)) → GoesOn old mid → whole ≡ part → ((x : Imports) → Is x → IsIt x)
    → ReadsEntry Is mid new r part → ReadsEntry IsIt old new r whole
lifted Is IsIt old mid new (Ok (Some x)) whole part on same is h = (same ∙ h.0, h.1, is x h.2, both old mid new on h.3)
lifted Is IsIt old mid new (Ok None) whole part on same is h = (subst (HasLargeIndex entry_refs) (sym same) h.0, both old mid new on h.1)
lifted Is IsIt old mid new (Err e) whole part on same is h =
    (same ∙ h.0, both old mid new on h.1, record { from = omega (arith, on.forward, h.2.from); to = subst (λ (n : ℕ). e.offset ≤ n) on.same_end h.2.to })

single_placed : (old new : Input) (x : Imports) → IsSingleAt old.position x → IsPlaced old new x
single_placed old new (entries.Single start import) is = is
single_placed old new (entries.Compact1 origin items) is = absurd is
single_placed old new (entries.Compact2 origin type names) is = absurd is

pub plain_entry : (compact : Bool) (old mid new : Input) (origin : List ℕ) (r : Result (Option Imports) Malformed) → name_at old.rest ≡ Some (origin, mid.rest) → GoesOn old mid → compact ≡ false
    → ReadsEntry (IsSingleAt old.position) mid new r (single_at origin mid.rest) → ReadsEntry (IsPlaced old new) old new r (import_at compact old.rest)
plain_entry compact old mid new origin r e on f h =
    lifted (IsSingleAt old.position) (IsPlaced old new) old mid new r (import_at compact old.rest) (single_at origin mid.rest) on (plain compact old.rest origin mid.rest e f) (λ x is. single_placed old new x is) h

pub single_entry : (compact : Bool) (old mid new : Input) (origin : List ℕ) (r : Result (Option Imports) Malformed) → name_at old.rest ≡ Some (origin, mid.rest) → GoesOn old mid → compact ≡ true
    → ¬ (group_code mid.rest ≡ Some 0x7f) → ¬ (group_code mid.rest ≡ Some 0x7e)
    → ReadsEntry (IsSingleAt old.position) mid new r (single_at origin mid.rest) → ReadsEntry (IsPlaced old new) old new r (import_at compact old.rest)
single_entry compact old mid new origin r e on f g k h =
    lifted (IsSingleAt old.position) (IsPlaced old new) old mid new r (import_at compact old.rest) (single_at origin mid.rest) on (alone compact old.rest origin mid.rest e f g k) (λ x is. single_placed old new x is) h

pub items_entry : (compact : Bool) (old named mid new : Input) (origin : List ℕ) (r : Result (Option Imports) Malformed) → name_at old.rest ≡ Some (origin, named.rest) → named.rest ≡ 0x00 ∷ 0x7f ∷ mid.rest → GoesOn old mid → compact ≡ true
    → ReadsEntry (IsItemsSince mid new) mid new r (seen_at (λ items. CompactItems origin items) (list_at import_item_at) mid.rest) → ReadsEntry (IsPlaced old new) old new r (import_at compact old.rest)
items_entry compact old named mid new origin r e g on f h =
    lifted (IsItemsSince mid new) (IsPlaced old new) old mid new r (import_at compact old.rest) (seen_at (λ items. CompactItems origin items) (list_at import_item_at) mid.rest) on
    (with_items compact old.rest origin named.rest mid.rest e f g) (λ x is. placed x is (rw (e, g) refl)) h
  where
    placed : (x : Imports) → IsItemsSince mid new x → rest_of (name_at old.rest) ≡ Some (0x00 ∷ 0x7f ∷ mid.rest) → IsPlaced old new x
    placed (entries.Single start import) is after = absurd is
    placed (entries.Compact1 origin items) is after = (mid, after, on, is)
    placed (entries.Compact2 origin type names) is after = absurd is

pub names_entry : (compact : Bool) (old named mid new : Input) (origin : List ℕ) (r : Result (Option Imports) Malformed) → name_at old.rest ≡ Some (origin, named.rest) → named.rest ≡ 0x00 ∷ 0x7e ∷ mid.rest → GoesOn old mid → compact ≡ true
    → ReadsEntry (IsNamesSince mid new) mid new r (seen_at (λ x. CompactNames origin x.0 x.1) (pair_at external_type_at (list_at name_at)) mid.rest) → ReadsEntry (IsPlaced old new) old new r (import_at compact old.rest)
names_entry compact old named mid new origin r e g on f h =
    lifted (IsNamesSince mid new) (IsPlaced old new) old mid new r (import_at compact old.rest) (seen_at (λ x. CompactNames origin x.0 x.1) (pair_at external_type_at (list_at name_at)) mid.rest) on
    (with_names compact old.rest origin named.rest mid.rest e f g) (λ x is. placed x is (rw (e, g) refl)) h
  where
    placed : (x : Imports) → IsNamesSince mid new x → rest_of (name_at old.rest) ≡ Some (0x00 ∷ 0x7e ∷ mid.rest) → IsPlaced old new x
    placed (entries.Single start import) is after = absurd is
    placed (entries.Compact1 origin items) is after = absurd is
    placed (entries.Compact2 origin type names) is after = (mid, after, on, is)
