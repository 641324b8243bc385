-- Counting the functions that a section imports.
use Rattle.std.proofs.Common.{◌≡◌, ◌≢◌, ◌≤◌, ◌<◌, ℕ, ◌+◌, Bool, true, false, cond, leb, List, [], ◌∷◌, ◌++◌, length, map, Option, Some, None, refl, sym, ap, ◌∙◌, arith, inl, inr}
use Rattle.std.proofs.lemmas.Bool.{le-leb}
use Rattle.std.proofs.lemmas.Bool.Decides.{eqb_tells}
use Rattle.std.proofs.lemmas.Option.{cond_some}
use Rattle.std.specs.List.{flat_map}
use Rattle.std.specs.Option.{unwrap_or}
use Rattle.std.specs.Str.{is_utf8}
use Rattle.wasm_core_read.specs.Input.{Input, GoesOn}
use Rattle.wasm_core_read.specs.ModuleReading.{frame_at}
use Rattle.wasm_core_read.specs.PartReading.{body_at, import_at, import_item_at, imported_at, single_at}
use Rattle.wasm_core_read.specs.Reading.{◌>>=◌, byte_at, bytes_at, filled, name_at, pair_at, seen_at, unsigned_at}
use Rattle.wasm_core_read.specs.TypeReading.{external_type_at, list_at}
use Rattle.wasm_core_read.proofs.ModuleForms.{number_shorter}
use Rattle.wasm_core_read.proofs.ReadingLaws.{bind_some, bytes_length, some_is}
use Rattle.wasm_spec.specs.Features.{CompactImports, has}
use Rattle.wasm_spec.specs.Syntax.{CompactItems, CompactNames, Import, ImportEntry, ImportItem, imported_by}
use Rattle.wasm_spec.specs.Types.{ExternalType, FuncExternal, GlobalExternal, MemoryExternal, TableExternal, TagExternal}
use Rattle.wasmparser_types.specs.Index.{Index}
use Rattle.wasmparser_readers.specs.PackedItems.{packed_external, packed_external_at}
use Rattle.wasmparser_readers.proofs.MappedReading.{given}
use Rattle.wasmparser_readers.proofs.PackedItemLaws.{external_is, external_unread}
use Rattle.wasm_gen_explain.proofs.SectionLaws.{frame_reads, frame_unread}
use Rattle.wasm_gen_explain.specs.Imports.{CountsNext, code_of, counted, entries_in, functions_among, functions_in}

-- ---- names

name_shorter : (bytes name rest : List ℕ) → name_at bytes ≡ Some (name, rest) → length rest < length bytes
unfolding name_at
name_shorter bytes name rest e =
    let n = bind_some (unsigned_at 32 bytes) (λ n. bytes_at n.0 n.1 >>= λ x. cond (is_utf8 x.0) (Some x) None) (name, rest) e in
    let x = bind_some (bytes_at n.0.0 n.0.1) (λ x. cond (is_utf8 x.0) (Some x) None) (name, rest) n.2 in
    let text = cond_some (is_utf8 x.0.0) x.0 (name, rest) x.2 in
    let same : x.0.1 ≡ rest = ap (λ (p : List ℕ × List ℕ). p.1) text.1 in
    omega (arith, number_shorter 32 bytes n.0.0 n.0.1 n.1, (bytes_length n.0.0 n.0.1 x.0.0 x.0.1 x.1).1, ap length same)

pub after_name : (old new : Input) (name : List ℕ) → name_at old.rest ≡ Some (name, new.rest) → GoesOn old new → old.position + 1 ≤ new.position
after_name old new name e g = omega (arith, name_shorter old.rest name new.rest e, g.same_end)

-- (cited by counting names)
pub ruleset name_steps = (after_name)

-- ---- types

-- an item that reads counts so much
abbrev seen : {A : Type 0} → (A → ℕ) → Option (A × List ℕ) → Option (ℕ × List ℕ)
seen count read = read >>= λ x. Some (count x.0, x.1)

packed_counts : (type : ExternalType ℕ) → functions_in type ≡ functions_in (packed_external type)
packed_counts (FuncExternal function) = refl
packed_counts (TableExternal type) = refl
packed_counts (MemoryExternal type) = refl
packed_counts (GlobalExternal type) = refl
packed_counts (TagExternal function) = refl

pub type_counts : (bytes : List ℕ) (v : ExternalType Index) (rest : List ℕ) → packed_external_at bytes ≡ Some (v, rest) → seen_at functions_in external_type_at bytes ≡ Some (functions_in v, rest)
type_counts bytes v rest e = by_read (external_type_at bytes) (sym (external_is bytes) ∙ e)
  where
    by_read : (read : Option (ExternalType ℕ × List ℕ)) → (read >>= λ t. given (packed_external t.0) t.1) ≡ given v rest → seen functions_in read ≡ Some (functions_in v, rest)
    by_read None h = absurd cc
    by_read (Some t) h =
        let p = some_is (packed_external t.0, t.1) (v, rest) h in
        ap (λ (n : ℕ). Some (n, t.1)) (packed_counts t.0) ∙ ap (λ (q : ExternalType Index × List ℕ). Some (functions_in q.0, q.1)) p

pub type_unread : (bytes : List ℕ) → packed_external_at bytes ≡ None → seen_at functions_in external_type_at bytes ≡ None
type_unread bytes e = rw (external_unread bytes e) refl

-- (cited by counting a type)
pub ruleset type_steps = (type_counts, type_unread)

-- ---- imports of a group

-- a name, and what is read after it
abbrev named : {A : Type 0} → List ℕ → A × List ℕ → Option ((List ℕ × A) × List ℕ)
named name t = Some ((name, t.0), t.1)

abbrev item_of : (List ℕ × ExternalType ℕ) × List ℕ → Option (ImportItem × List ℕ)
item_of x = Some (record { name = x.0.0; type = x.0.1 }, x.1)

pub item_counts : (bytes name mid : List ℕ) (total : Option (ℕ × List ℕ)) → name_at bytes ≡ Some (name, mid) → seen_at functions_in external_type_at mid ≡ total → seen_at (λ item. functions_in item.type) import_item_at bytes ≡ total
unfolding import_item_at
item_counts bytes name mid total e h = rw e (by_read (external_type_at mid) h)
  where
    by_read : (read : Option (ExternalType ℕ × List ℕ)) → seen functions_in read ≡ total → seen (λ (item : ImportItem). functions_in item.type) ((read >>= named name) >>= item_of) ≡ total
    by_read None f = f
    by_read (Some t) f = f

pub item_unread : (bytes : List ℕ) → name_at bytes ≡ None → seen_at (λ item. functions_in item.type) import_item_at bytes ≡ None
unfolding import_item_at
item_unread bytes e = rw e refl

-- (cited by counting an import)
pub ruleset item_steps = (after_name, item_counts, item_unread)

abbrev items_count : List ImportItem → ℕ
items_count items = counted (λ (item : ImportItem). functions_in item.type) items

pub items_counted : (bytes two mid : List ℕ) (total : Option (ℕ × List ℕ)) → bytes_at 2 bytes ≡ Some (two, mid) → seen_at (counted (λ item. functions_in item.type)) (list_at import_item_at) mid ≡ total
    → seen_at (λ x. counted (λ item. functions_in item.type) x.1) (pair_at (bytes_at 2) (list_at import_item_at)) bytes ≡ total
items_counted bytes two mid total e h = rw e (by_read (list_at import_item_at mid) h)
  where
    by_read : (read : Option (List ImportItem × List ℕ)) → seen items_count read ≡ total → seen (λ (x : List ℕ × List ImportItem). items_count x.1) (read >>= named two) ≡ total
    by_read None f = f
    by_read (Some t) f = f

pub items_unread : (bytes : List ℕ) → bytes_at 2 bytes ≡ None → seen_at (λ x. counted (λ item. functions_in item.type) x.1) (pair_at (bytes_at 2) (list_at import_item_at)) bytes ≡ None
items_unread bytes e = rw e refl

-- (cited by counting a group of imports)
pub ruleset items_steps = (items_counted, items_unread)

-- ---- names of a group

abbrev with_names : ExternalType ℕ × List ℕ → Option ((ExternalType ℕ × List (List ℕ)) × List ℕ)
with_names t = list_at name_at t.1 >>= λ names. Some ((t.0, names.0), names.1)

abbrev names_count : List ℕ × (ExternalType ℕ × List (List ℕ)) → ℕ
names_count x = functions_among (map (λ name. x.1.0) x.1.1)

-- the imports of one type, by what one of them is
each_counts : (type : ExternalType ℕ) (names : List (List ℕ)) → (functions_in type ≡ 0 → functions_among (map (λ name. type) names) ≡ 0) × (functions_in type ≡ 1 → functions_among (map (λ name. type) names) ≡ counted (λ name. 1) names)
each_counts type [] = (λ e. refl, λ e. refl)
each_counts type (name ∷ names) =
    let others = each_counts type names in
    (λ e. omega (arith, e, others.0 e), λ e. omega (arith, e, others.1 e))

-- a type and names that read
group_is : (mid after rest : List ℕ) (each names : ℕ) → seen_at functions_in external_type_at mid ≡ Some (each, after) → seen_at (counted (λ name. 1)) (list_at name_at) after ≡ Some (names, rest)
    → (type : ExternalType ℕ) × (list : List (List ℕ)) × (external_type_at mid ≡ Some (type, after)) × (list_at name_at after ≡ Some (list, rest)) × (functions_in type ≡ each) × (counted (λ name. 1) list ≡ names)
group_is mid after rest each names e f =
    let t = bind_some (external_type_at mid) (λ t. Some (functions_in t.0, t.1)) (each, after) e in
    let l = bind_some (list_at name_at after) (λ l. Some (counted (λ (name : List ℕ). 1) l.0, l.1)) (names, rest) f in
    let p = some_is (functions_in t.0.0, t.0.1) (each, after) t.2 in
    let q = some_is (counted (λ (name : List ℕ). 1) l.0.0, l.0.1) (names, rest) l.2 in (
      t.0.0,
      l.0.0,
      t.1 ∙ ap (λ (x : ℕ × List ℕ). Some (t.0.0, x.1)) p,
      l.1 ∙ ap (λ (x : ℕ × List ℕ). Some (l.0.0, x.1)) q,
      ap (λ (x : ℕ × List ℕ). x.0) p,
      ap (λ (x : ℕ × List ℕ). x.0) q,
    )

group_reads : (bytes two mid after rest : List ℕ) (each names : ℕ) (total : ℕ) → bytes_at 2 bytes ≡ Some (two, mid) → seen_at functions_in external_type_at mid ≡ Some (each, after)
    → seen_at (counted (λ name. 1)) (list_at name_at) after ≡ Some (names, rest)
    → ((type : ExternalType ℕ) (list : List (List ℕ)) → functions_in type ≡ each → counted (λ name. 1) list ≡ names → functions_among (map (λ name. type) list) ≡ total)
    → seen_at (λ x. functions_among (map (λ name. x.1.0) x.1.1)) (pair_at (bytes_at 2) (pair_at external_type_at (list_at name_at))) bytes ≡ Some (total, rest)
group_reads bytes two mid after rest each names total e f g is =
    let x = group_is mid after rest each names f g in
    rw (e, x.2, x.3) (ap (λ (n : ℕ). Some (n, rest)) (is x.0 x.1 x.4 x.5))

pub no_functions : (bytes two mid after rest : List ℕ) (each names : ℕ) → bytes_at 2 bytes ≡ Some (two, mid) → seen_at functions_in external_type_at mid ≡ Some (each, after) → each ≡ 0
    → seen_at (counted (λ name. 1)) (list_at name_at) after ≡ Some (names, rest)
    → seen_at (λ x. functions_among (map (λ name. x.1.0) x.1.1)) (pair_at (bytes_at 2) (pair_at external_type_at (list_at name_at))) bytes ≡ Some (0, rest)
no_functions bytes two mid after rest each names e f none g = group_reads bytes two mid after rest each names 0 e f g (λ type list t l. (each_counts type list).0 (t ∙ none))

pub all_functions : (bytes two mid after rest : List ℕ) (each names : ℕ) → bytes_at 2 bytes ≡ Some (two, mid) → seen_at functions_in external_type_at mid ≡ Some (each, after) → each ≤ 1 → each ≢ 0
    → seen_at (counted (λ name. 1)) (list_at name_at) after ≡ Some (names, rest)
    → seen_at (λ x. functions_among (map (λ name. x.1.0) x.1.1)) (pair_at (bytes_at 2) (pair_at external_type_at (list_at name_at))) bytes ≡ Some (names, rest)
all_functions bytes two mid after rest each names e f le some g =
    let one : each ≡ 1 = omega (arith, le, some) in
    group_reads bytes two mid after rest each names names e f g (λ type list t l. (each_counts type list).1 (t ∙ one) ∙ l)

pub no_group : (bytes : List ℕ) → bytes_at 2 bytes ≡ None → seen_at (λ x. functions_among (map (λ name. x.1.0) x.1.1)) (pair_at (bytes_at 2) (pair_at external_type_at (list_at name_at))) bytes ≡ None
no_group bytes e = rw e refl

pub no_type : (bytes two mid : List ℕ) → bytes_at 2 bytes ≡ Some (two, mid) → seen_at functions_in external_type_at mid ≡ None
    → seen_at (λ x. functions_among (map (λ name. x.1.0) x.1.1)) (pair_at (bytes_at 2) (pair_at external_type_at (list_at name_at))) bytes ≡ None
no_type bytes two mid e f = rw e (by_read (external_type_at mid) f)
  where
    by_read : (read : Option (ExternalType ℕ × List ℕ)) → seen functions_in read ≡ None
        → seen names_count ((read >>= with_names) >>= named two) ≡ None
    by_read None g = refl
    by_read (Some t) g = absurd cc

pub no_names : (bytes two mid after : List ℕ) (each : ℕ) → bytes_at 2 bytes ≡ Some (two, mid) → seen_at functions_in external_type_at mid ≡ Some (each, after) → seen_at (counted (λ name. 1)) (list_at name_at) after ≡ None
    → seen_at (λ x. functions_among (map (λ name. x.1.0) x.1.1)) (pair_at (bytes_at 2) (pair_at external_type_at (list_at name_at))) bytes ≡ None
no_names bytes two mid after each e f g =
    let t = bind_some (external_type_at mid) (λ t. Some (functions_in t.0, t.1)) (each, after) f in
    let p : t.0.1 ≡ after = ap (λ (x : ℕ × List ℕ). x.1) (some_is (functions_in t.0.0, t.0.1) (each, after) t.2) in
    rw (e, t.1, none_read (list_at name_at t.0.1) (rw p g)) refl
  where
    none_read : (read : Option (List (List ℕ) × List ℕ)) → seen (counted (λ (name : List ℕ). 1)) read ≡ None → read ≡ None
    none_read None h = refl
    none_read (Some l) h = absurd cc

-- (cited by counting a group of names)
pub ruleset names_steps = (no_functions, all_functions, no_group, no_type, no_names)

-- ---- entries

abbrev entry_count : ImportEntry → ℕ
entry_count entry = functions_among (imported_by entry)

-- the bytes after the two that a group begins with
is_code : (compact : Bool) (bytes : List ℕ) (code : ℕ) → code_of compact bytes ≡ Some code → (compact ≡ true) × (rest : List ℕ) × (bytes ≡ 0x00 ∷ code ∷ rest)
is_code false bytes code e = absurd cc
is_code true [] code e = absurd cc
is_code true (z ∷ []) code e = absurd cc
is_code true (z ∷ c ∷ rest) code e =
    elim (eqb_tells z 0x00) [
      | inl (t, same) ↦ let is : c ≡ code = some_is c code (rw t at e) in (refl, rest, rw (same, is) refl)
      | inr (t, other) ↦ let none = rw t at e in absurd cc
    ]

two_bytes : (code : ℕ) (rest : List ℕ) → bytes_at 2 (0x00 ∷ code ∷ rest) ≡ Some (0x00 ∷ code ∷ [], rest)
unfolding bytes_at
two_bytes code rest =
    let t : leb 2 (length (0x00 ∷ code ∷ rest)) ≡ true = le-leb _ _ (omega arith) in
    rw t refl

items_add_up : (items : List ImportItem) → functions_among (map (λ (item : ImportItem). item.type) items) ≡ items_count items
items_add_up [] = refl
items_add_up (item ∷ items) = ap (λ (n : ℕ). functions_in item.type + n) (items_add_up items)

abbrev items_of : List ℕ → List ImportItem × List ℕ → Option (ImportEntry × List ℕ)
items_of origin x = Some (CompactItems origin x.0, x.1)

entry_items : (compact : Bool) (bytes origin mid : List ℕ) (total : Option (ℕ × List ℕ)) → name_at bytes ≡ Some (origin, mid) → code_of compact mid ≡ Some 0x7f
    → seen_at (λ x. counted (λ item. functions_in item.type) x.1) (pair_at (bytes_at 2) (list_at import_item_at)) mid ≡ total → seen_at (λ entry. functions_among (imported_by entry)) (import_at compact) bytes ≡ total
unfolding import_at
entry_items compact bytes origin mid total e f h =
    let is = is_code compact mid 0x7f f in
    rw (e, is.0, is.2) (by_read (0x00 ∷ 0x7f ∷ []) (list_at import_item_at is.1) (rw (is.2, two_bytes 0x7f is.1) at h))
  where
    by_read : (two : List ℕ) (read : Option (List ImportItem × List ℕ)) → seen (λ (x : List ℕ × List ImportItem). items_count x.1) (read >>= named two) ≡ total → seen entry_count (read >>= items_of origin) ≡ total
    by_read two None g = g
    by_read two (Some x) g = ap (λ (n : ℕ). Some (n, x.1)) (items_add_up x.0) ∙ g

abbrev names_of : List ℕ → (ExternalType ℕ × List (List ℕ)) × List ℕ → Option (ImportEntry × List ℕ)
names_of origin x = Some (CompactNames origin x.0.0 x.0.1, x.1)

entry_names : (compact : Bool) (bytes origin mid : List ℕ) (total : Option (ℕ × List ℕ)) → name_at bytes ≡ Some (origin, mid) → code_of compact mid ≡ Some 0x7e
    → seen_at (λ x. functions_among (map (λ name. x.1.0) x.1.1)) (pair_at (bytes_at 2) (pair_at external_type_at (list_at name_at))) mid ≡ total
    → seen_at (λ entry. functions_among (imported_by entry)) (import_at compact) bytes ≡ total
unfolding import_at
entry_names compact bytes origin mid total e f h =
    let is = is_code compact mid 0x7e f in
    rw (e, is.0, is.2) (by_read (0x00 ∷ 0x7e ∷ []) (pair_at external_type_at (list_at name_at) is.1) (rw (is.2, two_bytes 0x7e is.1) at h))
  where
    by_read : (two : List ℕ) (read : Option ((ExternalType ℕ × List (List ℕ)) × List ℕ)) → seen names_count (read >>= named two) ≡ total → seen entry_count (read >>= names_of origin) ≡ total
    by_read two None g = g
    by_read two (Some x) g = g

no_code : (compact : Bool) (origin bytes : List ℕ) → ¬ (code_of compact bytes ≡ Some 0x7f) → ¬ (code_of compact bytes ≡ Some 0x7e) → imported_at compact origin bytes ≡ single_at origin bytes
no_code false origin bytes g h = refl
no_code true origin [] g h = refl
no_code true origin (z ∷ []) g h = refl
no_code true origin (z ∷ c ∷ rest) g h =
    elim (eqb_tells z 0x00) [
      | inl (t, zeroth) ↦ elim (eqb_tells c 0x7f) [
        | inl (u, same) ↦ absurd (g (rw (t, same) refl))
        | inr (u, other) ↦ elim (eqb_tells c 0x7e) [
          | inl (w, same) ↦ absurd (h (rw (t, same) refl))
          | inr (w, another) ↦ rw (t, u, w) refl
        ]
      ]
      | inr (t, other) ↦ rw t refl
    ]

abbrev single_of : List ℕ → (List ℕ × ExternalType ℕ) × List ℕ → Option (ImportEntry × List ℕ)
single_of origin x = Some (Import origin x.0.0 x.0.1, x.1)

entry_alone : (compact : Bool) (bytes origin mid : List ℕ) (total : Option (ℕ × List ℕ)) → name_at bytes ≡ Some (origin, mid) → ¬ (code_of compact mid ≡ Some 0x7f) → ¬ (code_of compact mid ≡ Some 0x7e)
    → seen_at (λ item. functions_in item.type) import_item_at mid ≡ total → seen_at (λ entry. functions_among (imported_by entry)) (import_at compact) bytes ≡ total
unfolding import_at import_item_at
entry_alone compact bytes origin mid total e f g h = rw (e, no_code compact origin mid f g) (by_read (pair_at name_at external_type_at mid) h)
  where
    by_read : (read : Option ((List ℕ × ExternalType ℕ) × List ℕ)) → seen (λ (item : ImportItem). functions_in item.type) (read >>= item_of) ≡ total → seen entry_count (read >>= single_of origin) ≡ total
    by_read None k = k
    by_read (Some x) k = let one : functions_in x.0.1 + 0 ≡ functions_in x.0.1 = omega arith in ap (λ (n : ℕ). Some (n, x.1)) one ∙ k

-- the same of readers

pub items_entry : (old mid : Input) (origin : List ℕ) (total : Option (ℕ × List ℕ)) → name_at old.rest ≡ Some (origin, mid.rest) → GoesOn old mid → code_of (has mid.features CompactImports) mid.rest ≡ Some 0x7f
    → seen_at (λ x. counted (λ item. functions_in item.type) x.1) (pair_at (bytes_at 2) (list_at import_item_at)) mid.rest ≡ total
    → seen_at (λ entry. functions_among (imported_by entry)) (import_at (has old.features CompactImports)) old.rest ≡ total
items_entry old mid origin total e g f h = entry_items (has old.features CompactImports) old.rest origin mid.rest total e (rw g.same_features at f) h

pub names_entry : (old mid : Input) (origin : List ℕ) (total : Option (ℕ × List ℕ)) → name_at old.rest ≡ Some (origin, mid.rest) → GoesOn old mid → code_of (has mid.features CompactImports) mid.rest ≡ Some 0x7e
    → seen_at (λ x. functions_among (map (λ name. x.1.0) x.1.1)) (pair_at (bytes_at 2) (pair_at external_type_at (list_at name_at))) mid.rest ≡ total
    → seen_at (λ entry. functions_among (imported_by entry)) (import_at (has old.features CompactImports)) old.rest ≡ total
names_entry old mid origin total e g f h = entry_names (has old.features CompactImports) old.rest origin mid.rest total e (rw g.same_features at f) h

pub single_entry : (old mid : Input) (origin : List ℕ) (total : Option (ℕ × List ℕ)) → name_at old.rest ≡ Some (origin, mid.rest) → GoesOn old mid → ¬ (code_of (has mid.features CompactImports) mid.rest ≡ Some 0x7f)
    → ¬ (code_of (has mid.features CompactImports) mid.rest ≡ Some 0x7e) → seen_at (λ item. functions_in item.type) import_item_at mid.rest ≡ total
    → seen_at (λ entry. functions_among (imported_by entry)) (import_at (has old.features CompactImports)) old.rest ≡ total
single_entry old mid origin total e g f k h = entry_alone (has old.features CompactImports) old.rest origin mid.rest total e (rw g.same_features at f) (rw g.same_features at k) h

pub entry_unread : (compact : Bool) (bytes : List ℕ) → name_at bytes ≡ None → import_at compact bytes ≡ None
unfolding import_at
entry_unread compact bytes e = rw e refl

-- (cited by counting an entry)
pub ruleset entry_steps = (entry_unread)

-- ---- a section

pub among_both : (types others : List (ExternalType ℕ)) → functions_among (types ++ others) ≡ functions_among types + functions_among others
among_both [] others = omega arith
among_both (type ∷ types) others = let rest = among_both types others in omega (arith, rest)

entries_add_up : (entries : List ImportEntry) → counted (λ (entry : ImportEntry). functions_among (imported_by entry)) entries ≡ functions_among (flat_map imported_by entries)
entries_add_up [] = refl
entries_add_up (entry ∷ entries) = ap (λ (n : ℕ). entry_count entry + n) (entries_add_up entries) ∙ sym (among_both (imported_by entry) (flat_map imported_by entries))

abbrev whole_count : Option (List ImportEntry × List ℕ) → ℕ
whole_count read = functions_among (flat_map imported_by (unwrap_or (filled read) []))

pub all_counted : (compact : Bool) (bytes rest : List ℕ) (n : ℕ) → seen_at (counted (λ entry. functions_among (imported_by entry))) (list_at (import_at compact)) bytes ≡ Some (n, rest) → length rest ≡ 0
    → n ≡ functions_among (flat_map imported_by (entries_in compact bytes))
all_counted compact bytes rest n e none = by_read (list_at (import_at compact) bytes) rest e none
  where
    by_read : (read : Option (List ImportEntry × List ℕ)) (left : List ℕ) → seen (counted entry_count) read ≡ Some (n, left) → length left ≡ 0 → n ≡ whole_count read
    by_read None left h k = absurd cc
    by_read (Some (entries, [])) left h k = ap (λ (p : ℕ × List ℕ). p.0) (sym (some_is (counted entry_count entries, []) (n, left) h)) ∙ entries_add_up entries
    by_read (Some (entries, b ∷ bs)) left h k =
        let same : b ∷ bs ≡ left = ap (λ (p : ℕ × List ℕ). p.1) (some_is (counted entry_count entries, b ∷ bs) (n, left) h) in
        absurd omega (arith, k, ap length same)

pub not_filled : (compact : Bool) (bytes rest : List ℕ) (n : ℕ) → seen_at (counted (λ entry. functions_among (imported_by entry))) (list_at (import_at compact)) bytes ≡ Some (n, rest) → ¬ (length rest ≡ 0)
    → 0 ≡ functions_among (flat_map imported_by (entries_in compact bytes))
not_filled compact bytes rest n e more = by_read (list_at (import_at compact) bytes) rest e more
  where
    by_read : (read : Option (List ImportEntry × List ℕ)) (left : List ℕ) → seen (counted entry_count) read ≡ Some (n, left) → ¬ (length left ≡ 0) → 0 ≡ whole_count read
    by_read None left h k = refl
    by_read (Some (entries, [])) left h k =
        let same : [] ≡ left = ap (λ (p : ℕ × List ℕ). p.1) (some_is (counted entry_count entries, []) (n, left) h) in
        absurd (k (sym (ap length same)))
    by_read (Some (entries, b ∷ bs)) left h k = refl

pub none_counted : (compact : Bool) (bytes : List ℕ) → seen_at (counted (λ entry. functions_among (imported_by entry))) (list_at (import_at compact)) bytes ≡ None → 0 ≡ functions_among (flat_map imported_by (entries_in compact bytes))
none_counted compact bytes e = by_read (list_at (import_at compact) bytes) e
  where
    by_read : (read : Option (List ImportEntry × List ℕ)) → seen (counted entry_count) read ≡ None → 0 ≡ whole_count read
    by_read None h = refl
    by_read (Some x) h = absurd cc

pub no_more : (old new : Input) (n : ℕ) → GoesOn old new → old.position + n ≤ new.position → n ≤ length old.rest
no_more old new n g le = omega (arith, g.same_end, le)

-- (cited by counting the imports of a section)
pub ruleset section_steps = (all_counted, not_filled, none_counted, no_more)

-- ---- the next section

pub no_next : (compact : Bool) (bytes : List ℕ) → byte_at bytes ≡ None → CountsNext compact (frame_at bytes) 0
unfolding frame_at
no_next compact bytes e = rw e refl

abbrev sized : ℕ → ℕ × List ℕ → Option ((ℕ × List ℕ) × List ℕ)
sized id n = bytes_at n.0 n.1 >>= λ c. Some ((id, c.0), c.1)

pub other_next : (compact : Bool) (bytes mid : List ℕ) (id : ℕ) → byte_at bytes ≡ Some (id, mid) → id ≢ 2 → CountsNext compact (frame_at bytes) 0
unfolding frame_at
other_next compact bytes mid id e other = rw e (by_size (unsigned_at 32 mid))
  where
    by_content : (read : Option (List ℕ × List ℕ)) → CountsNext compact (read >>= λ c. Some ((id, c.0), c.1)) 0
    by_content None = refl
    by_content (Some c) = elim (eqb_tells id 2) [ inl (t, same) ↦ absurd (other same) | inr (t, not) ↦ (rw t refl, omega arith) ]

    by_size : (read : Option (ℕ × List ℕ)) → CountsNext compact (read >>= sized id) 0
    by_size None = refl
    by_size (Some n) = by_content (bytes_at n.0 n.1)

pub unread_next : (compact : Bool) (bytes mid : List ℕ) (id : ℕ) → byte_at bytes ≡ Some (id, mid) → body_at mid ≡ None → CountsNext compact (frame_at bytes) 0
unread_next compact bytes mid id e f = rw (frame_unread bytes id mid e f) refl

pub imports_next : (old mid new content : Input) (id n : ℕ) → byte_at old.rest ≡ Some (id, mid.rest) → GoesOn old mid → id ≡ 2 → body_at mid.rest ≡ Some (content.rest, new.rest) → content.features ≡ mid.features
    → n ≡ functions_among (flat_map imported_by (entries_in (has content.features CompactImports) content.rest)) → n ≤ length content.rest → CountsNext (has old.features CompactImports) (frame_at old.rest) n
imports_next old mid new content id n e g is f same holds few =
    let reads = frame_reads old.rest id mid.rest content.rest new.rest e f in
    let features : content.features ≡ old.features = same ∙ g.same_features in
    rw (reads, is) (rw features at holds, few)

pub frame_parts : (bytes : List ℕ) (id : ℕ) (content rest : List ℕ) → frame_at bytes ≡ Some ((id, content), rest) → length content + length rest < length bytes
unfolding frame_at byte_at
frame_parts [] id content rest e = absurd cc
frame_parts (b ∷ bs) id content rest e =
    let n = bind_some (unsigned_at 32 bs) (λ n. bytes_at n.0 n.1 >>= λ c. Some ((b, c.0), c.1)) ((id, content), rest) e in
    let c = bind_some (bytes_at n.0.0 n.0.1) (λ c. Some ((b, c.0), c.1)) ((id, content), rest) n.2 in
    let p = some_is ((b, c.0.0), c.0.1) ((id, content), rest) c.2 in
    let same : c.0.0 ≡ content = ap (λ (x : (ℕ × List ℕ) × List ℕ). x.0.1) p in
    let left : c.0.1 ≡ rest = ap (λ (x : (ℕ × List ℕ) × List ℕ). x.1) p in
    let long = bytes_length n.0.0 n.0.1 c.0.0 c.0.1 c.1 in
    omega (arith, number_shorter 32 bs n.0.0 n.0.1 n.1, long.0, long.1, ap length same, ap length left)

-- (cited by counting the imports of the next section)
pub ruleset next_steps = (no_next, other_next, unread_next, imports_next)
