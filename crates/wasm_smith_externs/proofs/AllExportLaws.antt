-- Exports of everything, one after the other.
use Rattle.std.proofs.Common.{◌≡◌, ℕ, zero, suc, ◌+◌, ◌-◌, ◌<◌, ◌≤◌, ◌^◌, true, false, List, [], ◌∷◌, ◌++◌, map, min, refl, ap, sym, ◌∙◌, subst, append_assoc, arith, Option, Some, None, Result, Ok, Err}
use Rattle.std.specs.List.{AllByRecursion, range_with_len, sum_by}
use Rattle.std.specs.Prelude.{IfOk}
use Rattle.std.proofs.lemmas.List.{append-nil, map-append}
use Rattle.std.proofs.lemmas.List.FromFn.{map-range_with_len_more, sum_by-map-range_with_len_more}
use Rattle.std.proofs.lemmas.List.Sums.{sum_by-append, sum_by-cons}
use Rattle.wasm_spec.specs.Syntax.{Export}
use Rattle.wasm_spec.specs.Types.{ExternalKind, FuncKind, TableKind, MemoryKind, GlobalKind, TagKind, FuncType}
use Rattle.wasm_smith_config.specs.declared.config.Config.{Config}
use Rattle.wasm_smith_unstructured.specs.declared.error.Error.{Error}
use Rattle.wasm_smith_definitions.proofs.FrameLaws.{kept}
use Rattle.wasm_smith_definitions.proofs.StepLaws.{keep_append, known_append}
use Rattle.wasm_smith_definitions.specs.FunctionTypes.{func_size}
use Rattle.wasm_smith_definitions.specs.Kinds.{count_of, of_export}
use Rattle.wasm_smith_definitions.specs.Steps.{IsStep}
use Rattle.wasm_smith_types.proofs.ListLaws.{all_append}
use Rattle.wasm_smith_unstructured.specs.Draws.{text_at}
use Rattle.wasm_smith_validity.specs.Rules.{KeepAll}
use Rattle.wasm_smith_validity.specs.Spaces.{Spaces, functions_of, spaces_after, spaces_after_all}
use Rattle.wasm_smith_externs.proofs.ExportLaws.{export_allowed}
use Rattle.wasm_smith_externs.specs.AllExports.{AreExported, AreExports, IsAllExported, after_names, all_of, everything, exported_by, items_size}
use Rattle.wasm_smith_externs.specs.Exports.{AreNames, HasShortName, IsAddedName}
use Rattle.wasm_smith_externs.specs.Sizes.{exports_size, item_size}

-- ---- adding

names_more : (xs ys : List (ExternalKind × ℕ)) (s : List ℕ) → after_names (xs ++ ys) s ≡ after_names ys (after_names xs s)
names_more [] ys s = refl
names_more (x ∷ xs) ys s = names_more xs ys (text_at 1000 s).1

pub none_exported : (k : Spaces) (s : List ℕ) → AreExported k s k s []
none_exported k s = record { exports = []; keep = λ c features f. tt; known = refl; are = refl; short = tt; named = refl }

pub more_exported : (k m n : Spaces) (s t u : List ℕ) (xs ys : List (ExternalKind × ℕ)) → AreExported k s m t xs → AreExported m t n u ys → AreExported k s n u (xs ++ ys)
more_exported k m n s t u xs ys h g =
    let entries : map of_export (h.exports ++ g.exports) ≡ map of_export h.exports ++ map of_export g.exports = map-append of_export h.exports g.exports in
    record {
      exports = h.exports ++ g.exports;
      keep = λ c features f. subst (KeepAll features k) (sym entries)
          (keep_append features k (map of_export h.exports) (map of_export g.exports) (h.keep c features f) (subst (λ (it : Spaces). KeepAll features it (map of_export g.exports)) h.known (g.keep c features f)));
      known = g.known ∙ ap (λ (it : Spaces). spaces_after_all it (map of_export g.exports)) h.known
          ∙ sym (ap (spaces_after_all k) entries ∙ known_append k (map of_export h.exports) (map of_export g.exports));
      are = map-append (λ (e : Export). (e.kind, e.index)) h.exports g.exports ∙ ap (λ l. l ++ exported_by g.exports) h.are ∙ ap (λ l. xs ++ l) g.are;
      short = all_append (λ (e : Export). HasShortName e.name) h.exports g.exports h.short g.short;
      named = g.named ∙ ap (after_names ys) h.named ∙ sym (names_more xs ys s);
    }

pub one_exported : (k new : Spaces) (s t : List ℕ) (old_names names : List (List ℕ)) (e : Export) (kind : ExternalKind) (index : ℕ) → e.kind ≡ kind → e.index ≡ index → index < count_of k kind
    → AreNames old_names k.exports → IsAddedName old_names names e.name → new ≡ record k { exports = k.exports ++ e ∷ [] } → t ≡ (text_at 1000 s).1
    → AreExported k s new t ((kind, index) ∷ [])
one_exported k new s t old_names names e kind index kind_is index_is there before name added drawn =
    let at : e.index < count_of k e.kind = rw (kind_is, index_is) there in
    record {
      exports = e ∷ [];
      keep = λ c features f. (export_allowed c k e at (sym (before e.name) ∙ name.is_new) features f, tt);
      known = added;
      are = rw (kind_is, index_is) refl;
      short = (name.short, tt);
      named = drawn;
    }

-- one item more of a kind
pub next_exported : (start k n : Spaces) (s t u : List ℕ) (kind : ExternalKind) (index next : ℕ) → next ≡ index + 1
    → AreExported start s k t (map (λ i. (kind, i)) (range_with_len 0 index)) → AreExported k t n u ((kind, index) ∷ [])
    → AreExported start s n u (map (λ i. (kind, i)) (range_with_len 0 next))
next_exported start k n s t u kind index next is h g =
    let pair : ℕ → ExternalKind × ℕ = λ i. (kind, i) in
    let all : map pair (range_with_len 0 next) ≡ map pair (range_with_len 0 index) ++ (kind, index) ∷ [] = ap (λ m. map pair (range_with_len 0 m)) is ∙ map-range_with_len_more pair 0 index index (omega arith) in
    subst (AreExported start s n u) (sym all) (more_exported start k n s t u (map pair (range_with_len 0 index)) ((kind, index) ∷ []) h g)

-- ---- what stays

-- what exports leave as it was
abbrev unexported : Spaces → Spaces
unexported k = record k { exports = [] }

stays : (k new : Spaces) (s left : List ℕ) (items : List (ExternalKind × ℕ)) → AreExported k s new left items → unexported new ≡ unexported k
stays k new s left items h = ap unexported h.known ∙ kept unexported of_export (λ it x. refl) k h.exports

count_unexported : (k : Spaces) (kind : ExternalKind) → count_of (unexported k) kind ≡ count_of k kind
count_unexported k FuncKind = refl
count_unexported k TableKind = refl
count_unexported k MemoryKind = refl
count_unexported k GlobalKind = refl
count_unexported k TagKind = refl

pub counts_stay : (k new : Spaces) (s left : List ℕ) (items : List (ExternalKind × ℕ)) → AreExported k s new left items → (kind : ExternalKind) → count_of new kind ≡ count_of k kind
counts_stay k new s left items h kind =
    sym (count_unexported new kind) ∙ ap (λ (it : Spaces). count_of it kind) (stays k new s left items h) ∙ count_unexported k kind

exports_after : (k : Spaces) (xs : List Export) → (spaces_after_all k (map of_export xs)).exports ≡ k.exports ++ xs
exports_after k [] = sym (append-nil k.exports)
exports_after k (x ∷ xs) = exports_after (spaces_after k (of_export x)) xs ∙ append_assoc k.exports (x ∷ []) xs

-- ---- everything

pub all_exported : (k new : Spaces) (s left : List ℕ) → k.exports ≡ [] → AreExported k s new left (everything k) → IsAllExported k s new left
all_exported k new s left first h =
    let same : new.exports ≡ h.exports = ap (λ (it : Spaces). it.exports) h.known ∙ exports_after k h.exports ∙ ap (λ xs. xs ++ h.exports) first in
    record {
      step = λ c. subst (IsStep c of_export k new) (sym same) (record { keep = h.keep c; known = h.known });
      are = ap exported_by same ∙ h.are;
      short = subst (AllByRecursion (λ (e : Export). HasShortName e.name)) (sym same) h.short;
      named = h.named;
    }

sum_mapped : {A B : Type 0} (f : B → ℕ) (g : A → B) (xs : List A) → sum_by f (map g xs) ≡ sum_by (λ x. f (g x)) xs
sum_mapped f g [] = refl
sum_mapped f g (x ∷ xs) = sum_by-cons f (g x) (map g xs) ∙ (ap (λ n. f (g x) + n) (sum_mapped f g xs) ∙ sym (sum_by-cons (λ x. f (g x)) x xs))

pub exported_size : (k new : Spaces) (s left : List ℕ) (items : List (ExternalKind × ℕ)) → k.exports ≡ [] → AreExported k s new left items → exports_size new ≡ items_size k items
exported_size k new s left items first h =
    let same : new.exports ≡ h.exports = ap (λ (it : Spaces). it.exports) h.known ∙ exports_after k h.exports ∙ ap (λ xs. xs ++ h.exports) first in
    sym (sum_mapped (λ (item : ExternalKind × ℕ). item_size new.types (functions_of new) new.tags item.0 item.1) (λ (e : Export). (e.kind, e.index)) new.exports)
    ∙ ap (λ xs. items_size new (exported_by xs)) same ∙ ap (items_size new) h.are ∙ ap (λ (it : Spaces). items_size it items) (stays k new s left items h)

-- ---- all kinds

-- spaces with as many items of each kind
abbrev pub AreAlike : Spaces → Spaces → Type 0
AreAlike k n = (kind : ExternalKind) → count_of n kind ≡ count_of k kind

pub alike_after : (k m n : Spaces) (s left : List ℕ) (items : List (ExternalKind × ℕ)) → AreAlike k m → AreExported m s n left items → AreAlike k n
alike_after k m n s left items same h kind = counts_stay m n s left items h kind ∙ same kind

pub themselves : (k : Spaces) → AreAlike k k
themselves k kind = refl

-- all items of a kind more, in the words of the spaces at the start
pub kind_exported : (k m n p : Spaces) (s t u : List ℕ) (kind : ExternalKind) (others : List (ExternalKind × ℕ)) → AreAlike k m → AreExported m s n t (all_of m kind) → AreExported n t p u others
    → AreExported m s p u (all_of k kind ++ others)
kind_exported k m n p s t u kind others same h g =
    let all : all_of m kind ≡ all_of k kind = ap (λ count. map (λ i. (kind, i)) (range_with_len 0 count)) (same kind) in
    more_exported m n p s t u (all_of k kind) others (subst (AreExported m s n t) all h) g

-- ---- sizes

-- a size of items so far, which stays at the greatest number
pub next_kind_size : (k : Spaces) (kind : ExternalKind) (index next size more : ℕ) → next ≡ index + 1
    → size ≡ min (items_size k (map (λ i. (kind, i)) (range_with_len 0 index))) (2 ^ 64 - 1)
    → more ≡ min (size + item_size k.types (functions_of k) k.tags kind index) (2 ^ 64 - 1)
    → more ≡ min (items_size k (map (λ i. (kind, i)) (range_with_len 0 next))) (2 ^ 64 - 1)
next_kind_size k kind index next size more is so_far added =
    let pair : ℕ → ExternalKind × ℕ = λ i. (kind, i) in
    let of : ExternalKind × ℕ → ℕ = λ item. item_size k.types (functions_of k) k.tags item.0 item.1 in
    let sum : sum_by of (map pair (range_with_len 0 next)) ≡ sum_by of (map pair (range_with_len 0 index)) + item_size k.types (functions_of k) k.tags kind index =
    ap (λ m. sum_by of (map pair (range_with_len 0 m))) is ∙ sum_by-map-range_with_len_more of pair 0 index index (omega arith) in
    omega (arith, sum, so_far, added)

kind_sizes : (k : Spaces) → items_size k (everything k)
    ≡ items_size k (all_of k FuncKind) + (items_size k (all_of k TableKind) + (items_size k (all_of k MemoryKind) + (items_size k (all_of k GlobalKind) + items_size k (all_of k TagKind))))
kind_sizes k =
    let of : ExternalKind × ℕ → ℕ = λ item. item_size k.types (functions_of k) k.tags item.0 item.1 in
    let tags : items_size k (all_of k TagKind ++ []) ≡ items_size k (all_of k TagKind) = ap (items_size k) (append-nil (all_of k TagKind)) in
    let globals = sum_by-append of (all_of k GlobalKind) (all_of k TagKind ++ []) in
    let memories = sum_by-append of (all_of k MemoryKind) (all_of k GlobalKind ++ (all_of k TagKind ++ [])) in
    let tables = sum_by-append of (all_of k TableKind) (all_of k MemoryKind ++ (all_of k GlobalKind ++ (all_of k TagKind ++ []))) in
    let functions = sum_by-append of (all_of k FuncKind) (all_of k TableKind ++ (all_of k MemoryKind ++ (all_of k GlobalKind ++ (all_of k TagKind ++ [])))) in
    omega (arith, tags, globals, memories, tables, functions)

-- each item counts at least 1
one_counts : (type : Option (FuncType ℕ)) → 1 ≤ func_size type
one_counts None = omega arith
one_counts (Some type) = omega arith

item_counts : (k : Spaces) (kind : ExternalKind) (index : ℕ) → 1 ≤ item_size k.types (functions_of k) k.tags kind index
item_counts k FuncKind index = one_counts _
item_counts k TableKind index = omega arith
item_counts k MemoryKind index = omega arith
item_counts k GlobalKind index = omega arith
item_counts k TagKind index = one_counts _

all_count : (k : Spaces) (kind : ExternalKind) (a n : ℕ) → n ≤ items_size k (map (λ i. (kind, i)) (range_with_len a n))
all_count k kind a zero = omega arith
all_count k kind a (suc n) =
    let of : ExternalKind × ℕ → ℕ = λ item. item_size k.types (functions_of k) k.tags item.0 item.1 in
    let sum = sum_by-cons of (kind, a) (map (λ i. (kind, i)) (range_with_len (a + 1) n)) in
    omega (arith, sum, all_count k kind (a + 1) n, item_counts k kind a)

-- each table, memory and global counts 1
plain_count : (k : Spaces) (kind : ExternalKind) → ((index : ℕ) → item_size k.types (functions_of k) k.tags kind index ≡ 1) → (a n : ℕ)
    → items_size k (map (λ i. (kind, i)) (range_with_len a n)) ≡ n
plain_count k kind one a zero = refl
plain_count k kind one a (suc n) =
    let of : ExternalKind × ℕ → ℕ = λ item. item_size k.types (functions_of k) k.tags item.0 item.1 in
    let sum = sum_by-cons of (kind, a) (map (λ i. (kind, i)) (range_with_len (a + 1) n)) in
    omega (arith, sum, plain_count k kind one (a + 1) n, one a)

pub counts_within : (k : Spaces) (kind : ExternalKind) → count_of k kind ≤ items_size k (everything k)
counts_within k FuncKind = omega (arith, kind_sizes k, all_count k FuncKind 0 (count_of k FuncKind))
counts_within k TableKind = omega (arith, kind_sizes k, all_count k TableKind 0 (count_of k TableKind))
counts_within k MemoryKind = omega (arith, kind_sizes k, all_count k MemoryKind 0 (count_of k MemoryKind))
counts_within k GlobalKind = omega (arith, kind_sizes k, all_count k GlobalKind 0 (count_of k GlobalKind))
counts_within k TagKind = omega (arith, kind_sizes k, all_count k TagKind 0 (count_of k TagKind))

-- the sum of the sizes of all kinds, in the order in which they are added
pub whole_size : (k : Spaces) (f t a b d r : ℕ) → f ≡ min (items_size k (all_of k FuncKind)) (2 ^ 64 - 1) → t ≡ min (items_size k (all_of k TagKind)) (2 ^ 64 - 1)
    → a ≡ min (f + count_of k TableKind) (2 ^ 64 - 1) → b ≡ min (a + count_of k MemoryKind) (2 ^ 64 - 1) → d ≡ min (b + count_of k GlobalKind) (2 ^ 64 - 1) → r ≡ min (d + t) (2 ^ 64 - 1)
    → r ≡ min (items_size k (everything k)) (2 ^ 64 - 1)
whole_size k f t a b d r functions tags tables memories globals all =
    omega (
      arith,
      kind_sizes k,
      plain_count k TableKind (λ i. refl) 0 (count_of k TableKind),
      plain_count k MemoryKind (λ i. refl) 0 (count_of k MemoryKind),
      plain_count k GlobalKind (λ i. refl) 0 (count_of k GlobalKind),
      functions,
      tags,
      tables,
      memories,
      globals,
      all,
    )

-- ---- the step

pub all_made : {X : Type 0} (c : Config) (size : ℕ) (old : Spaces) (s : List ℕ) (new : Spaces) (left : List ℕ) (r : Result X Error) → c.export_everything ≡ true
    → IfOk r (λ _. IsAllExported old s new left) → IfOk r (λ _. exports_size new ≤ c.max_type_size - size) → IfOk r (λ _. AreExports c size old s new left)
all_made c size old s new left (Ok x) on h within = record {
  step = h.step c;
  bounded = h.short;
  size = within;
  drawn = λ off. let both : true ≡ false = sym on ∙ off in absurd cc;
  all = λ _. h;
}
all_made c size old s new left (Err e) on h within = tt
