-- A list of items is passed over, one after the other, with one flag kept.
use Rattle.std.proofs.Common.{◌≡◌, ℕ, suc, ◌-◌, ◌+◌, ◌≤◌, ◌<◌, Bool, true, false, cond, ltb, List, [], ◌∷◌, ◌++◌, Option, Some, None, refl, sym, ap, ◌∙◌, arith}
use Rattle.wasm_core_read.specs.PartReading.{import_item_at}
use Rattle.wasm_core_read.specs.Reading.{◌>>=◌, seen_at, unsigned_at}
use Rattle.wasm_core_read.specs.TypeReading.{items_at, list_at}
use Rattle.wasm_core_read.proofs.Forms.{some_is}
use Rattle.wasm_spec.specs.Syntax.{ImportItem}
use Rattle.wasmparser_types.specs.Index.{packable}
use Rattle.wasmparser_readers.specs.ItemTypes.{packed_refs}
use Rattle.wasmparser_entries.specs.ImportItems.{are_packable, items_refs}

-- the flag that is kept, and whether the indexes of further items can be packed
abbrev pub checked : Bool → Option (List ImportItem × List ℕ) → Option (Bool × List ℕ)
checked so_far None = None
checked so_far (Some read) = Some (cond so_far (are_packable (items_refs read.0)) false, read.1)

abbrev checked_item : Option (ImportItem × List ℕ) → Option (Bool × List ℕ)
checked_item read = read >>= λ item. Some (are_packable (packed_refs item.0.type), item.1)

both_packable : (ns others : List ℕ) → are_packable (ns ++ others) ≡ cond (are_packable ns) (are_packable others) false
both_packable [] others = refl
both_packable (n ∷ ns) others = by_test (ltb n packable) (both_packable ns others)
  where
    by_test : (t : Bool) → are_packable (ns ++ others) ≡ cond (are_packable ns) (are_packable others) false
        → cond t (are_packable (ns ++ others)) false ≡ cond (cond t (are_packable ns) false) (are_packable others) false
    by_test true e = e
    by_test false e = refl

whole : (read : Option (List ImportItem × List ℕ)) → (read >>= λ items. Some (are_packable (items_refs items.0), items.1)) ≡ checked true read
whole None = refl
whole (Some read) = refl

pub count_unread : (bytes : List ℕ) → unsigned_at 32 bytes ≡ None → seen_at (λ items. are_packable (items_refs items)) (list_at import_item_at) bytes ≡ None
unfolding list_at
count_unread bytes e = rw e refl

pub begins : (bytes rest : List ℕ) (count : ℕ) → unsigned_at 32 bytes ≡ Some (count, rest) → checked true (items_at import_item_at (count - 0) rest) ≡ checked true (list_at import_item_at bytes)
unfolding list_at
begins bytes rest count h =
    let k : count - 0 ≡ count = omega arith in
    rw (k, h) refl

-- what is told of the others with the first one's answer is what is told of all
others_told : (so_far : Bool) (item : ImportItem) (read : Option (List ImportItem × List ℕ))
    → checked (cond (are_packable (packed_refs item.type)) so_far false) read ≡ checked so_far (read >>= λ others. Some (item ∷ others.0, others.1))
others_told so_far item None = refl
others_told so_far item (Some read) =
    ap (λ (b : Bool). Some (b, read.1)) (by_flags so_far (are_packable (packed_refs item.type)) (are_packable (items_refs read.0)) ∙ ap (λ (b : Bool). cond so_far b false) (sym (both_packable (packed_refs item.type) (items_refs read.0))))
  where
    by_flags : (a b c : Bool) → cond (cond b a false) c false ≡ cond a (cond b c false) false
    by_flags true true c = refl
    by_flags true false c = refl
    by_flags false true c = refl
    by_flags false false c = refl

goes_on : (count i : ℕ) (bytes after : List ℕ) (so_far is_packable : Bool) (total : Option (Bool × List ℕ)) → i < count → seen_at (λ item. are_packable (packed_refs item.type)) import_item_at bytes ≡ Some (is_packable, after)
    → checked so_far (items_at import_item_at (count - i) bytes) ≡ total → checked (cond is_packable so_far false) (items_at import_item_at (count - (i + 1)) after) ≡ total
unfolding items_at
goes_on count i bytes after so_far is_packable total lt h told =
    let k : count - i ≡ suc (count - (i + 1)) = omega arith in
    by_read (import_item_at bytes) h (rw k at told)
  where
    by_read : (read : Option (ImportItem × List ℕ)) → checked_item read ≡ Some (is_packable, after)
        → checked so_far (read >>= λ first. items_at import_item_at (count - (i + 1)) first.1 >>= λ others. Some (first.0 ∷ others.0, others.1)) ≡ total
        → checked (cond is_packable so_far false) (items_at import_item_at (count - (i + 1)) after) ≡ total
    by_read None e f = absurd cc
    by_read (Some read) e f =
        let r = some_is (are_packable (packed_refs read.0.type), read.1) (is_packable, after) e in
        ap (λ (p : Bool × List ℕ). checked (cond p.0 so_far false) (items_at import_item_at (count - (i + 1)) p.1)) (sym r)
        ∙ others_told so_far read.0 (items_at import_item_at (count - (i + 1)) read.1) ∙ f

pub goes_on_packable : (count i : ℕ) (bytes after : List ℕ) (so_far is_packable : Bool) (total : Option (Bool × List ℕ)) → i < count → seen_at (λ item. are_packable (packed_refs item.type)) import_item_at bytes ≡ Some (is_packable, after)
    → is_packable ≡ true → checked so_far (items_at import_item_at (count - i) bytes) ≡ total → checked so_far (items_at import_item_at (count - (i + 1)) after) ≡ total
goes_on_packable count i bytes after so_far is_packable total lt h is told = rw is at (goes_on count i bytes after so_far is_packable total lt h told)

pub goes_on_large : (count i : ℕ) (bytes after : List ℕ) (so_far is_packable : Bool) (total : Option (Bool × List ℕ)) → i < count → seen_at (λ item. are_packable (packed_refs item.type)) import_item_at bytes ≡ Some (is_packable, after)
    → is_packable ≡ false → checked so_far (items_at import_item_at (count - i) bytes) ≡ total → checked false (items_at import_item_at (count - (i + 1)) after) ≡ total
goes_on_large count i bytes after so_far is_packable total lt h is told = rw is at (goes_on count i bytes after so_far is_packable total lt h told)

unread_all : (read : Option (List ImportItem × List ℕ)) → checked true read ≡ None → read ≡ None
unread_all None e = refl
unread_all (Some read) e = absurd cc

pub ends : (count i : ℕ) (bytes all : List ℕ) (so_far : Bool) → i < count → seen_at (λ item. are_packable (packed_refs item.type)) import_item_at bytes ≡ None
    → checked so_far (items_at import_item_at (count - i) bytes) ≡ checked true (list_at import_item_at all) → seen_at (λ items. are_packable (items_refs items)) (list_at import_item_at) all ≡ None
unfolding items_at
ends count i bytes all so_far lt h told =
    let k : count - i ≡ suc (count - (i + 1)) = omega arith in
    let one : checked so_far (items_at import_item_at (count - i) bytes) ≡ None = rw k (by_read (import_item_at bytes) h) in
    rw (unread_all (list_at import_item_at all) (sym told ∙ one)) refl
  where
    by_read : (read : Option (ImportItem × List ℕ)) → checked_item read ≡ None
        → checked so_far (read >>= λ first. items_at import_item_at (count - (i + 1)) first.1 >>= λ others. Some (first.0 ∷ others.0, others.1)) ≡ None
    by_read None e = refl
    by_read (Some read) e = absurd cc

pub is_done : (count i : ℕ) (bytes all : List ℕ) (so_far : Bool) → count ≤ i → checked so_far (items_at import_item_at (count - i) bytes) ≡ checked true (list_at import_item_at all)
    → seen_at (λ items. are_packable (items_refs items)) (list_at import_item_at) all ≡ Some (so_far, bytes)
unfolding items_at
is_done count i bytes all so_far le told =
    let k : count - i ≡ 0 = omega arith in
    whole (list_at import_item_at all) ∙ sym told ∙ rw k (ap (λ (b : Bool). Some (b, bytes)) (by_flag so_far))
  where
    by_flag : (b : Bool) → cond b true false ≡ b
    by_flag true = refl
    by_flag false = refl

-- what the loop cites
pub ruleset check_loop = (count_unread, begins, goes_on_packable, goes_on_large, ends, is_done)
