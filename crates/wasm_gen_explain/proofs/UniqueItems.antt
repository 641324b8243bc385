-- An input is passed in one way, and a place is in one of several items at most.
use Rattle.std.proofs.Common.{◌≡◌, ◌≤◌, ◌<◌, inl, inr, ℕ, zero, suc, length, List, Option, Some, None, refl, sym, ap, subst, ◌∙◌, arith}
use Rattle.std.proofs.lemmas.Bool.{cases_lt}
use Rattle.wasm_core_read.specs.Input.{Input, GoesOn, end}
use Rattle.wasm_core_read.specs.Reading.{ReadingOf, unsigned_at}
use Rattle.wasm_core_read.proofs.ReadingLaws.{some_is}
use Rattle.wasm_spec.specs.Features.{Features}
use Rattle.wasmparser_readers.specs.Passing.{rest_of}
use Rattle.wasm_gen_explain.specs.Items.{EndsPast, PassesItem, Stops}
use Rattle.wasm_gen_explain.specs.LargeIndexes.{IsLargeIn, IsLargeItem}
use Rattle.wasm_gen_explain.specs.Lists.{BeginsList, EndsItems, EndsList, HasMore, IsEntryAt, StandsInList, StopsCount}
use Rattle.wasm_gen_explain.specs.Passed.{ArePassed, none, one_more}
use Rattle.wasm_gen_explain.specs.declared.lists.Found.{Found}
use Rattle.wasm_gen_explain.specs.declared.lists.Found.TheVariants as founds

-- ---- parts

-- what a state leads to is the only one
abbrev pub IsFunctional : {S : Type 0} → (S → S → Type 0) → Type 0
IsFunctional {S} Passes = (s a b : S) → Passes s a → Passes s b → a ≡ b

-- no part is passed from a state
abbrev pub IsLast : {S : Type 0} → (S → S → Type 0) → S → Type 0
IsLast {S} Passes s = (t : S) → ¬ (Passes s t)

pub same_state : {S : Type 0} (Passes : S → S → Type 0) (start : S) (n : ℕ) (a b : S) → IsFunctional Passes → ArePassed Passes start n a → ArePassed Passes start n b → a ≡ b
same_state Passes start zero a b only none none = refl
same_state Passes start (suc n) a b only (one_more {old = s} x p step) (one_more {old = t} y q other) =
    let same = same_state Passes start n s t only p q in
    only t a b (subst (λ r. Passes r a) same step) other

earlier : {S : Type 0} (Passes : S → S → Type 0) (start : S) (n m : ℕ) (b : S) → n < m → ArePassed Passes start m b → (s : S) × (t : S) × ArePassed Passes start n s × Passes s t
earlier Passes start n zero b lt p = absurd omega (arith, lt)
earlier Passes start n (suc m) b lt (one_more {old = s} x p step) = elim (cases_lt n m) [
  | inl less ↦ earlier Passes start n m s less p
  | inr ge ↦ let same : m ≡ n = omega (arith, lt, ge) in (s, b, subst (λ (k : ℕ). ArePassed Passes start k s) same p, step)
]

-- a part from which none is passed is not among those that are
pub not_passed : {S : Type 0} (Passes : S → S → Type 0) (start : S) (n m : ℕ) (a b : S) → IsFunctional Passes → n < m → ArePassed Passes start n a → IsLast Passes a → ¬ (ArePassed Passes start m b)
not_passed Passes start n m a b only lt p last q =
    let e = earlier Passes start n m b lt q in
    last e.1 (subst (λ r. Passes r e.1) (same_state Passes start n e.0 a only e.2 p) e.3)

pub same_last : {S : Type 0} (Passes : S → S → Type 0) (start : S) (n m : ℕ) (a b : S) → IsFunctional Passes → ArePassed Passes start n a → IsLast Passes a → ArePassed Passes start m b → IsLast Passes b → (n ≡ m) × (a ≡ b)
same_last Passes start n m a b only p last q other = elim (cases_lt n m) [
  | inl lt ↦ absurd (not_passed Passes start n m a b only lt p last q)
  | inr ge ↦ elim (cases_lt m n) [
    | inl lt ↦ absurd (not_passed Passes start m n b a only lt q other p)
    | inr le ↦ let same : n ≡ m = omega (arith, le, ge) in (same, same_state Passes start m a b only (subst (λ (k : ℕ). ArePassed Passes start k a) same p) q)
  ]
]

-- ---- inputs

pub same_input : (a b : Input) → a.rest ≡ b.rest → a.position ≡ b.position → a.features ≡ b.features → a ≡ b
same_input a b r p f =
    ap (λ (l : List ℕ). record { rest = l; position = a.position; features = a.features }) r
    ∙ ap (λ (k : ℕ). record { rest = b.rest; position = k; features = a.features }) p
    ∙ ap (λ (g : Features). record { rest = b.rest; position = b.position; features = g }) f

pub same_after : (old a b : Input) → GoesOn old a → GoesOn old b → a.rest ≡ b.rest → a ≡ b
same_after old a b g h r =
    let n : length a.rest ≡ length b.rest = ap length r in
    same_input a b r (omega (arith, n, g.same_end, h.same_end)) (g.same_features ∙ sym h.same_features)

-- ---- items

pub one_rest : {A : Type 0} (read : Option (A × List ℕ)) (a b : List ℕ) → rest_of read ≡ Some a → rest_of read ≡ Some b → a ≡ b
one_rest read a b e f = some_is a b (sym e ∙ f)

pub items_functional : {A : Type 0} (item_at : Features → ReadingOf A) (offset : ℕ) → IsFunctional (PassesItem item_at offset)
items_functional item_at offset s a b p q = same_after s a b p.goes_on q.goes_on (one_rest (item_at s.features s.rest) a.rest b.rest p.reads q.reads)

-- what ends past a place isn't passed
pub not_past : {A : Type 0} (read : Option (A × List ℕ)) (now next : Input) (offset : ℕ) → rest_of read ≡ Some next.rest → GoesOn now next → next.position ≤ offset → ¬ (EndsPast (end now) offset read)
not_past None now next offset e g le past = past
not_past (Some read) now next offset e g le past =
    let n : length read.1 ≡ length next.rest = ap length (some_is read.1 next.rest e) in
    absurd omega (arith, past, n, g.same_end, le)

stops_last : {A : Type 0} (indexes : A → List ℕ) (now next : Input) (offset : ℕ) (read : Option (A × List ℕ)) (stops : Stops indexes now offset read) → ¬ (IsLargeItem indexes now offset read stops) → rest_of read ≡ Some next.rest
    → GoesOn now next → next.position ≤ offset → ⊥
stops_last indexes now next offset read (inl unread) small e g le = let f : None ≡ Some next.rest = ap rest_of (sym unread) ∙ e in absurd cc
stops_last indexes now next offset read (inr (inl large)) small e g le = absurd (small tt)
stops_last indexes now next offset read (inr (inr past)) small e g le = absurd (not_past read now next offset e g le past)

item_last : {A : Type 0} (item_at : Features → ReadingOf A) (indexes : A → List ℕ) (now : Input) (offset : ℕ) (stops : Stops indexes now offset (item_at now.features now.rest))
    → ¬ (IsLargeItem indexes now offset (item_at now.features now.rest) stops) → IsLast (PassesItem item_at offset) now
item_last item_at indexes now offset stops small t p = stops_last indexes now t offset (item_at now.features now.rest) stops small p.reads p.goes_on p.ends

-- ---- lists

pub same_list : (content : Input) (offset n m : ℕ) (items others : Input) → BeginsList content offset n items → BeginsList content offset m others → (n ≡ m) × (items ≡ others)
same_list content offset n m items others a b =
    let same = some_is (n, items.rest) (m, others.rest) (sym a.reads ∙ b.reads) in
    (ap (λ x. x.0) same, same_after content items others a.goes_on b.goes_on (ap (λ x. x.1) same))

pub count_read : (content : Input) (offset n : ℕ) (items : Input) → BeginsList content offset n items → ¬ (StopsCount content offset)
count_read content offset n items b (inl unread) = let f = sym b.reads ∙ unread in absurd cc
count_read content offset n items b (inr past) = absurd (not_past (unsigned_at 32 content.rest) content items offset (ap rest_of b.reads) b.goes_on b.begins past)

pub same_end_of : (Passes : Input → Input → Type 0) (content last other : Input) (offset : ℕ) → IsFunctional Passes → EndsItems Passes content offset last → EndsItems Passes content offset other → last ≡ other
same_end_of Passes content last other offset only a b =
    let same = same_list content offset a.count b.count a.items b.items a.begins b.begins in
    let passed : ArePassed Passes b.items b.count last = subst (λ (k : ℕ). ArePassed Passes b.items k last) same.0 (subst (λ (i : Input). ArePassed Passes i a.count last) same.1 a.passed) in
    same_state Passes b.items b.count last other only passed b.passed

pub more_or_none : (Passes : Input → Input → Type 0) (content : Input) (offset : ℕ) → IsFunctional Passes → HasMore Passes content offset → ¬ (EndsList Passes content offset)
more_or_none Passes content offset only more ended =
    let same = same_end_of Passes content more.last ended.last offset only more.ends ended.ends in
    let n : length more.last.rest ≡ 0 = ap (λ (i : Input). length i.rest) same ∙ ap length ended.ended in
    absurd omega (arith, n, more.more)

entry_past : {A : Type 0} (item_at : Features → ReadingOf A) (indexes : A → List ℕ) (content last : Input) (offset number : ℕ) (h : IsEntryAt item_at indexes content offset number)
    → ¬ (IsLargeItem indexes h.item.now offset (item_at h.item.now.features h.item.now.rest) h.item.stops) → ¬ (EndsItems (PassesItem item_at offset) content offset last)
entry_past item_at indexes content last offset number h small e =
    let same = same_list content offset e.count h.count e.items h.items e.begins h.begins in
    let passed : ArePassed (PassesItem item_at offset) h.items h.count last = subst (λ (k : ℕ). ArePassed (PassesItem item_at offset) h.items k last) same.0 (subst (λ (i : Input). ArePassed (PassesItem item_at offset) i e.count last) same.1 e.passed) in
    not_passed (PassesItem item_at offset) h.items number h.count h.item.now last (items_functional item_at offset) h.item.among h.item.passed (item_last item_at indexes h.item.now offset h.item.stops small) passed

same_entry : {A : Type 0} (item_at : Features → ReadingOf A) (indexes : A → List ℕ) (content : Input) (offset n m : ℕ) (h : IsEntryAt item_at indexes content offset n) (k : IsEntryAt item_at indexes content offset m)
    → ¬ (IsLargeItem indexes h.item.now offset (item_at h.item.now.features h.item.now.rest) h.item.stops) → ¬ (IsLargeItem indexes k.item.now offset (item_at k.item.now.features k.item.now.rest) k.item.stops) → n ≡ m
same_entry item_at indexes content offset n m h k small other =
    let same = same_list content offset h.count k.count h.items k.items h.begins k.begins in
    let passed : ArePassed (PassesItem item_at offset) k.items n h.item.now = subst (λ (i : Input). ArePassed (PassesItem item_at offset) i n h.item.now) same.1 h.item.passed in
    (same_last (PassesItem item_at offset) k.items n m h.item.now k.item.now (items_functional item_at offset) passed (item_last item_at indexes h.item.now offset h.item.stops small) k.item.passed
    (item_last item_at indexes k.item.now offset k.item.stops other)).0

pub one_in_list : {A : Type 0} (item_at : Features → ReadingOf A) (indexes : A → List ℕ) (content : Input) (offset : ℕ) (f g : Found) (h : StandsInList item_at indexes content offset f) (k : StandsInList item_at indexes content offset g)
    → ¬ (IsLargeIn item_at indexes content offset f h) → ¬ (IsLargeIn item_at indexes content offset g k) → f ≡ g
one_in_list item_at indexes content offset founds.Around founds.Around h k small other = refl
one_in_list item_at indexes content offset founds.Past founds.Past h k small other = refl
one_in_list item_at indexes content offset (founds.Entry n) (founds.Entry m) h k small other = ap (λ (i : ℕ). founds.Entry i) (same_entry item_at indexes content offset n m h k small other)
one_in_list item_at indexes content offset founds.Around founds.Past (inl stops) k small other = absurd (count_read content offset k.ends.count k.ends.items k.ends.begins stops)
one_in_list item_at indexes content offset founds.Around founds.Past (inr more) k small other = absurd (more_or_none (PassesItem item_at offset) content offset (items_functional item_at offset) more k)
one_in_list item_at indexes content offset founds.Past founds.Around h (inl stops) small other = absurd (count_read content offset h.ends.count h.ends.items h.ends.begins stops)
one_in_list item_at indexes content offset founds.Past founds.Around h (inr more) small other = absurd (more_or_none (PassesItem item_at offset) content offset (items_functional item_at offset) more h)
one_in_list item_at indexes content offset founds.Around (founds.Entry m) (inl stops) k small other = absurd (count_read content offset k.count k.items k.begins stops)
one_in_list item_at indexes content offset founds.Around (founds.Entry m) (inr more) k small other = absurd (entry_past item_at indexes content more.last offset m k other more.ends)
one_in_list item_at indexes content offset (founds.Entry n) founds.Around h (inl stops) small other = absurd (count_read content offset h.count h.items h.begins stops)
one_in_list item_at indexes content offset (founds.Entry n) founds.Around h (inr more) small other = absurd (entry_past item_at indexes content more.last offset n h small more.ends)
one_in_list item_at indexes content offset founds.Past (founds.Entry m) h k small other = absurd (entry_past item_at indexes content h.last offset m k other h.ends)
one_in_list item_at indexes content offset (founds.Entry n) founds.Past h k small other = absurd (entry_past item_at indexes content k.last offset n h small k.ends)
