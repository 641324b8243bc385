-- Items of a list that has read before, which are read again one by one.
use Rattle.std.proofs.Common.{◌≡◌, ◌≤◌, ◌<◌, ℕ, zero, suc, List, [], ◌∷◌, length, Option, Some, None, option_map, refl, sym, ap, subst, ◌∙◌, arith, slice_index_or}
use Rattle.std.specs.List.{AllByRecursion, Any}
use Rattle.wasm_core_read.specs.Input.{IsWithin}
use Rattle.wasm_core_read.specs.Reading.{◌>>=◌, ReadingOf, filled}
use Rattle.wasm_core_read.specs.TypeReading.{items_at}
use Rattle.wasm_core_read.proofs.Forms.{bind_some, some_is}
use Rattle.wasmparser_error.specs.declared.error.Error.{Error}
use Rattle.wasmparser_error.specs.declared.error.ErrorKind.{ErrorKind}
use Rattle.wasmparser_error.specs.declared.error.ErrorKind.TheVariants as kinds
use Rattle.wasmparser_readers.specs.Answers.{HasLargeIndex, IsItemRefusal}
use Rattle.wasmparser_readers.specs.Sections.{Left, left_items, IsEmpty, IsNext, IsNextRefusal, IsUnread}
use Rattle.wasmparser_readers.proofs.SectionLaws.{item_and_left, none_left, unread_left}
use Rattle.wasmparser_types.specs.Index.{packable}

-- of items that name no type by an index that can't be packed
abbrev pub HaveSmall : {A : Type 0} → (A → List ℕ) → List A → Type 0
HaveSmall indexes items = AllByRecursion (λ x. ¬ (Any (λ index. packable ≤ index) (indexes x))) items

-- the first of the items that are left, and the others
pub record Split {A : Type 0} (item_at : ReadingOf A) (rest : List A) (item : A) (next : Left) : Type 0 where
  pub others : List A
  pub is : rest ≡ item ∷ others
  pub reads : left_items (λ features. item_at) next ≡ Some others

pub split : {A : Type 0} (item_at : ReadingOf A) (left next : Left) (offset : ℕ) (item : A) (rest : List A) → left_items (λ features. item_at) left ≡ Some rest → IsNext (λ features. item_at) left next offset item → Split item_at rest item next
split {A = A} item_at left next offset item rest e h = by_read (left_items (λ features. item_at) next) refl (sym (item_and_left (λ features. item_at) left next offset item h) ∙ e)
  where
    by_read : (read : Option (List A)) → left_items (λ features. item_at) next ≡ read → option_map (λ items. item ∷ items) read ≡ Some rest → Split item_at rest item next
    by_read None is said = absurd cc
    by_read (Some others) is said = record { others = others; is = sym (some_is (item ∷ others) rest said); reads = is }

-- the first of the items that are left is the one that reads
first_of : {A : Type 0} (item_at : ReadingOf A) (n : ℕ) (bytes : List ℕ) (rest : List A) (read : A × List ℕ) → filled (items_at item_at (suc n) bytes) ≡ Some rest → item_at bytes ≡ Some read → (others : List A) × (rest ≡ read.0 ∷ others)
unfolding items_at
first_of {A = A} item_at n bytes rest read e is = by_others (items_at item_at n read.1) (rw is at e)
  where
    by_others : (more : Option (List A × List ℕ)) → filled (more >>= λ others. Some (read.0 ∷ others.0, others.1)) ≡ Some rest → (others : List A) × (rest ≡ read.0 ∷ others)
    by_others None h = absurd cc
    by_others (Some (xs, [])) h = (xs, sym (some_is (read.0 ∷ xs) rest h))
    by_others (Some (xs, b ∷ bs)) h = absurd cc

-- none of the items is refused as one that doesn't read
pub read_again : {A : Type 0} (item_at : ReadingOf A) (indexes : A → List ℕ) (left : Left) (rest : List A) (e : Error) → left_items (λ features. item_at) left ≡ Some rest → HaveSmall indexes rest
    → IsNextRefusal ⊥ indexes (λ features. item_at) left e → ⊥
unfolding left_items
read_again {A = A} item_at indexes left rest e reads small h = by_kind e.kind h
  where
    large_first : (count : ℕ) → left.count ≡ count → 0 < count → (read : Option (A × List ℕ)) → item_at left.input.rest ≡ read → HasLargeIndex indexes read → ⊥
    large_first zero counted lt read is large = absurd (omega (arith, lt))
    large_first (suc count) counted lt None is large = large
    large_first (suc count) counted lt (Some read) is large =
        let first = first_of item_at count left.input.rest rest read (ap (λ n. filled (items_at item_at n left.input.rest)) (sym counted) ∙ reads) is in
        let all : HaveSmall indexes (read.0 ∷ first.0) = subst (HaveSmall indexes) first.1 small in
        all.0 large

    by_kind : (kind : ErrorKind) → IsItemRefusal kind e.offset (⊥ × (0 < left.count) × (e.offset ≡ left.input.position)) (IsUnread (λ features. item_at) left × IsWithin left.input e.offset)
        ((0 < left.count) × HasLargeIndex indexes (item_at left.input.rest) × (e.offset ≡ left.input.position)) → ⊥
    by_kind kinds.Malformed h = let said = sym (unread_left (λ features. item_at) left h.0) ∙ reads in absurd cc
    by_kind kinds.Invalid h = large_first left.count refl h.0 (item_at left.input.rest) refl h.1
    by_kind kinds.Memory h = h.0
    by_kind (kinds.Limit l) h = h
    by_kind kinds.Operator h = h
    by_kind kinds.Body h = h
    by_kind kinds.Total h = h
    by_kind kinds.Order h = h
    by_kind kinds.Failed h = h

-- ---- small indexes

pub none_large : (xs : List ℕ) → AllByRecursion (λ n. n < packable) xs → ¬ (Any (λ n. packable ≤ n) xs)
none_large [] all any = absurd (omega (arith, any.2))
none_large (x ∷ xs) all any = by_place (none_large xs all.1) any.0 any.1 any.2 any.3 any.4
  where
    by_place : ¬ (Any (λ n. packable ≤ n) xs) → (place n : ℕ) → place < length (x ∷ xs) → slice_index_or (x ∷ xs) place n ≡ n → packable ≤ n → ⊥
    by_place others zero n lt is large = let same : x ≡ n = is in omega (arith, all.0, same, large)
    by_place others (suc place) n lt is large = others (place, n, omega (arith, lt), is, large)

pub no_indexes : {A : Type 0} (items : List A) → HaveSmall (λ item. []) items
no_indexes [] = tt
no_indexes (item ∷ items) = (none_large [] tt, no_indexes items)

-- ---- how many there are

count_of_items : {A : Type 0} (item_at : ReadingOf A) (n : ℕ) (bytes : List ℕ) (items : List A) (rest : List ℕ) → items_at item_at n bytes ≡ Some (items, rest) → n ≡ length items
unfolding items_at
count_of_items item_at zero bytes items rest e = ap (λ x. length x.0) (some_is ([], bytes) (items, rest) e)
count_of_items item_at (suc n) bytes items rest e =
    let a = bind_some (item_at bytes) (λ first. items_at item_at n first.1 >>= λ others. Some (first.0 ∷ others.0, others.1)) (items, rest) e in
    let b = bind_some (items_at item_at n a.0.1) (λ others. Some (a.0.0 ∷ others.0, others.1)) (items, rest) a.2 in
    ap suc (count_of_items item_at n a.0.1 b.0.0 b.0.1 b.1) ∙ ap (λ x. length x.0) (some_is (a.0.0 ∷ b.0.0, b.0.1) (items, rest) b.2)

pub counted : {A : Type 0} (item_at : ReadingOf A) (left : Left) (items : List A) → left_items (λ features. item_at) left ≡ Some items → left.count ≡ length items
unfolding left_items
counted {A = A} item_at left items reads = by_read (items_at item_at left.count left.input.rest) refl reads
  where
    by_read : (read : Option (List A × List ℕ)) → items_at item_at left.count left.input.rest ≡ read → filled read ≡ Some items → left.count ≡ length items
    by_read None is e = absurd cc
    by_read (Some (xs, [])) is e = count_of_items item_at left.count left.input.rest xs [] is ∙ ap length (some_is xs items e)
    by_read (Some (xs, b ∷ bs)) is e = absurd cc

-- ---- items that are judged one by one

-- Some items were read and judged: what is asked of each item holds of all where it holds of those that are left.
pub record AreJudged {A : Type 0} (item_at : ReadingOf A) (Holds : A → Type 0) (all : List A) (left : Left) : Type 0 where
  pub rest : List A
  pub reads : left_items (λ features. item_at) left ≡ Some rest
  pub to : AllByRecursion Holds all → AllByRecursion Holds rest
  pub back : AllByRecursion Holds rest → AllByRecursion Holds all

module _ {A : Type 0} (item_at : ReadingOf A) (Holds : A → Type 0) (all : List A) where
  pub none_judged : (left : Left) → left_items (λ features. item_at) left ≡ Some all → AreJudged item_at Holds all left
  none_judged left reads = record { rest = all; reads = reads; to = λ h. h; back = λ h. h }

  pub one_judged : (left next : Left) (offset : ℕ) (item : A) → AreJudged item_at Holds all left → IsNext (λ features. item_at) left next offset item → Holds item → AreJudged item_at Holds all next
  one_judged left next offset item judged is holds =
      let p = split item_at left next offset item judged.rest judged.reads is in
      record {
        rest = p.others;
        reads = p.reads;
        to = λ h. (subst (AllByRecursion Holds) p.is (judged.to h)).1;
        back = λ h. judged.back (subst (AllByRecursion Holds) (sym p.is) (holds, h));
      }

  pub one_broken : (left next : Left) (offset : ℕ) (item : A) → AreJudged item_at Holds all left → IsNext (λ features. item_at) left next offset item → ¬ (Holds item) → ¬ (AllByRecursion Holds all)
  one_broken left next offset item judged is broken h =
      let p = split item_at left next offset item judged.rest judged.reads is in
      broken (subst (AllByRecursion Holds) p.is (judged.to h)).0

  pub all_judged : (left : Left) → AreJudged item_at Holds all left → IsEmpty left → AllByRecursion Holds all
  all_judged left judged empty =
      let none : [] ≡ judged.rest = some_is [] judged.rest (sym (none_left (λ features. item_at) left empty) ∙ judged.reads) in
      judged.back (subst (AllByRecursion Holds) none tt)

  pub never_unread : (left : Left) (e : Error) → AreJudged item_at Holds all left → IsNextRefusal ⊥ (λ item. []) (λ features. item_at) left e → ⊥
  never_unread left e judged h = read_again item_at (λ item. []) left judged.rest e judged.reads (no_indexes judged.rest) h
