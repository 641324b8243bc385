-- Judging items one by one is judging their list.
use Rattle.std.proofs.Common.{◌≡◌, ◌⊎◌, inl, inr, ◌≤◌, ◌<◌, ℕ, suc, zero, ◌+◌, List, [], ◌∷◌, ◌++◌, length, Option, Some, None, refl, sym, ap, subst, ◌∙◌, arith, slice_index_or}
use Rattle.std.proofs.lemmas.List.{append-nil}
use Rattle.std.specs.List.{Any}
use Rattle.wasm_core_types.specs.Limits as core
use Rattle.wasm_core_read.specs.Input.{Input, GoesOn, IsWithin}
use Rattle.wasm_core_read.specs.Reading.{◌>>=◌, ReadingOf, filled}
use Rattle.wasm_core_read.specs.TypeReading.{items_at}
use Rattle.wasm_core_read.proofs.FrontLaws.{goes_further}
use Rattle.wasm_core_read.proofs.ListLaws.{with_front}
use Rattle.wasm_core_read.proofs.Forms.{bind_some, some_is}
use Rattle.wasm_spec.specs.Features.{Features}
use Rattle.wasm_spec.specs.Limits.{Limit, Types, most}
use Rattle.wasmparser_error.specs.declared.error.Error.{Error}
use Rattle.wasmparser_error.specs.declared.error.ErrorKind.{ErrorKind}
use Rattle.wasmparser_error.specs.Error.{placed}
use Rattle.wasmparser_error.specs.declared.error.ErrorKind.TheVariants as kinds
use Rattle.wasmparser_readers.specs.Answers.{HasLargeIndex, IsItemRefusal}
use Rattle.wasmparser_readers.specs.Sections.{Left, left_items, IsUnread, IsEmpty, IsNextRefusal}
use Rattle.wasmparser_readers.proofs.SectionLaws.{unread_left}
use Rattle.wasmparser_types.specs.Index.{packable}
use Rattle.wasmparser_payloads.specs.EntryReading.{EntryReading}
use Rattle.wasm_spec.specs.Trees.{DefType}
use Rattle.wasmparser_module_state.specs.History.{EnterAll, EntersEntry, OneFindsNoRoom, FindsNoRoom}
use Rattle.wasmparser_module_state.specs.Judging.{Accepts, Fills, Fronts, HasLarge, IsMadeOf, IsRightSoFar, NamesEntry, NamesEntries, OneRunsOut, IsAt}
use Rattle.wasm_validity.specs.Context.{Context, after, after_all}
use Rattle.wasm_validity.specs.Entries.{Entry}
use Rattle.wasm_validity.specs.Rules.{Keeps, KeepRules, measures, Passes, PassesByTypes, IsWithin as IsWithinLimits, KeepLimits, PassLimit}

-- Entries at the front of what is left of a section, which keep the rules and limits, and what is known and left after them.
pub record Stands (features : Features) (entry_at : EntryReading) (old : Context) (left : Left) (new : Context) (now : Left) : Type 0 where
  pub front : List Entry
  pub number : ℕ
  pub counted : number + now.count ≡ left.count
  pub reads : items_at (entry_at left.input.features) number left.input.rest ≡ Some (front, now.input.rest)
  pub rules : KeepRules features old front
  pub limits : KeepLimits old front
  pub known : new ≡ after_all old front
  pub goes_on : GoesOn left.input now.input

-- ---- reading

one_before : {A : Type 0} (v : A) (xs : List A) (read : Option (List A × List ℕ)) → (with_front xs read >>= λ x. Some (v ∷ x.0, x.1)) ≡ with_front (v ∷ xs) read
one_before v xs None = refl
one_before v xs (Some x) = refl

none_before : {A : Type 0} (read : Option (List A × List ℕ)) → with_front [] read ≡ read
none_before None = refl
none_before (Some x) = refl

one_more : {A : Type 0} (item_at : ReadingOf A) (n m : ℕ) (bytes : List ℕ) (v : A) (mid : List ℕ) (xs : List A) (rest : List ℕ) → item_at bytes ≡ Some (v, mid) → items_at item_at (n + m) mid ≡ with_front xs (items_at item_at m rest)
    → items_at item_at (suc n + m) bytes ≡ with_front (v ∷ xs) (items_at item_at m rest)
unfolding items_at
one_more item_at n m bytes v mid xs rest e ih =
    let k : suc n + m ≡ suc (n + m) = omega arith in
    rw (k, e, ih) (one_before v xs (items_at item_at m rest))

-- items after others
items_after : {A : Type 0} (item_at : ReadingOf A) (n m : ℕ) (bytes : List ℕ) (xs : List A) (mid : List ℕ) → items_at item_at n bytes ≡ Some (xs, mid) → items_at item_at (n + m) bytes ≡ with_front xs (items_at item_at m mid)
unfolding items_at
items_after {A = A} item_at zero m bytes xs mid e =
    let p = some_is ([], bytes) (xs, mid) e in
    let k : zero + m ≡ m = omega arith in
    subst (λ (q : List A × List ℕ). items_at item_at (zero + m) bytes ≡ with_front q.0 (items_at item_at m q.1)) p (rw k (sym (none_before (items_at item_at m bytes))))
items_after {A = A} item_at (suc n) m bytes xs mid e =
    let f = bind_some (item_at bytes) (λ first. items_at item_at n first.1 >>= λ others. Some (first.0 ∷ others.0, others.1)) (xs, mid) e in
    let o = bind_some (items_at item_at n f.0.1) (λ others. Some (f.0.0 ∷ others.0, others.1)) (xs, mid) f.2 in
    let p = some_is (f.0.0 ∷ o.0.0, o.0.1) (xs, mid) o.2 in
    subst (λ (q : List A × List ℕ). items_at item_at (suc n + m) bytes ≡ with_front q.0 (items_at item_at m q.1)) p
    (one_more item_at n m bytes f.0.0 f.0.1 o.0.0 o.0.1 f.1 (items_after item_at n m f.0.1 o.0.0 o.0.1 o.1))

one_item : {A : Type 0} (item_at : ReadingOf A) (bytes : List ℕ) (v : A) (rest : List ℕ) → item_at bytes ≡ Some (v, rest) → items_at item_at 1 bytes ≡ Some (v ∷ [], rest)
unfolding items_at
one_item item_at bytes v rest e = rw e refl

-- ---- entries of items

-- an item is read as its entry
pub entry_read : {X A : Type 0} (form : X → A) (indexes : A → List ℕ) (form_at : Features → ReadingOf A) (entry : X → Entry) (entry_at : EntryReading) → IsMadeOf form indexes form_at entry entry_at
    → (features : Features) (bytes : List ℕ) (x : X) (rest : List ℕ) → form_at features bytes ≡ Some (form x, rest) → entry_at features bytes ≡ Some (entry x, rest)
entry_read form indexes form_at entry entry_at made features bytes x rest e = made.reads features bytes ∙ rw (e, made.is x) refl

-- what doesn't read as an item is no entry
entry_unread : {X A : Type 0} (form : X → A) (indexes : A → List ℕ) (form_at : Features → ReadingOf A) (entry : X → Entry) (entry_at : EntryReading) → IsMadeOf form indexes form_at entry entry_at
    → (left : Left) → IsUnread form_at left → IsUnread entry_at left
entry_unread form indexes form_at entry entry_at made left (inl h) = inl (h.0, made.reads left.input.features left.input.rest ∙ rw h.1 refl)
entry_unread form indexes form_at entry entry_at made left (inr h) = inr h

has_large : (indexes : List ℕ) → Any (λ index. packable ≤ index) indexes → HasLarge indexes
has_large [] any = absurd (omega (arith, any.2))
has_large (index ∷ indexes) any = by_place (λ others. has_large indexes others) any.0 any.1 any.2 any.3 any.4
  where
    by_place : (Any (λ index. packable ≤ index) indexes → HasLarge indexes) → (place n : ℕ) → place < length (index ∷ indexes) → slice_index_or (index ∷ indexes) place n ≡ n → packable ≤ n → HasLarge (index ∷ indexes)
    by_place ih zero n lt is large = inl (subst (λ m. packable ≤ m) (sym is) large)
    by_place ih (suc place) n lt is large = inr (ih (place, n, omega (arith, lt), is, large))

-- ---- rules

rules_push : (features : Features) (cx : Context) (es : List Entry) (e : Entry) → KeepRules features cx es → Keeps features (after_all cx es) e → KeepRules features cx (es ++ e ∷ [])
rules_push features cx [] e rules rule = (rule, tt)
rules_push features cx (d ∷ es) e rules rule = (rules.0, rules_push features (after cx d) es e rules.1 rule)

rules_broken : (features : Features) (cx : Context) (es : List Entry) (e : Entry) → ¬ (Keeps features (after_all cx es) e) → ¬ (KeepRules features cx (es ++ e ∷ []))
rules_broken features cx [] e breaks rules = breaks rules.0
rules_broken features cx (d ∷ es) e breaks rules = rules_broken features (after cx d) es e breaks rules.1

limits_push : (cx : Context) (es : List Entry) (e : Entry) → KeepLimits cx es → IsWithinLimits (after_all cx es) e → KeepLimits cx (es ++ e ∷ [])
limits_push cx [] e limits within = (within, tt)
limits_push cx (d ∷ es) e limits within = (limits.0, limits_push (after cx d) es e limits.1 within)

after_push : (cx : Context) (es : List Entry) (e : Entry) → after_all cx (es ++ e ∷ []) ≡ after (after_all cx es) e
after_push cx [] e = refl
after_push cx (d ∷ es) e = after_push (after cx d) es e

pass_push : (limit : Limit) (cx : Context) (es : List Entry) (e : Entry) → Passes limit (measures (after_all cx es) e) ⊎ PassesByTypes limit (after_all cx es) e → PassLimit limit cx (es ++ e ∷ [])
pass_push limit cx [] e (inl h) = inl h
pass_push limit cx [] e (inr h) = inr (inl h)
pass_push limit cx (d ∷ es) e h = inr (inr (pass_push limit (after cx d) es e h))

-- ---- what the list holds

enters_push : (features : Features) (cx : Context) (held mid new : List DefType) (es : List Entry) (e : Entry) → EnterAll features cx held es mid → EntersEntry features (after_all cx es) mid e new
    → EnterAll features cx held (es ++ e ∷ []) new
enters_push features cx held mid new [] e enter enters = subst (λ h. EnterAll features cx h (e ∷ []) new) enter (new, enters, refl)
enters_push features cx held mid new (d ∷ es) e enter enters = (enter.0, enter.1, enters_push features (after cx d) enter.0 mid new es e enter.2 enters)

-- ---- the loop

pub begins : (features : Features) (entry_at : EntryReading) (cx : Context) (left : Left) → Stands features entry_at cx left cx left
unfolding items_at
begins features entry_at cx left = record {
  front = [];
  number = 0;
  counted = omega arith;
  reads = refl;
  rules = tt;
  limits = tt;
  known = refl;
  goes_on = record { forward = omega arith; same_end = refl; same_features = refl };
}

-- one item more is read
read_more : (features : Features) (entry_at : EntryReading) (old : Context) (left : Left) (cx : Context) (now : Left) (v : Entry) (rest : List ℕ) → (s : Stands features entry_at old left cx now)
    → entry_at now.input.features now.input.rest ≡ Some (v, rest) → items_at (entry_at left.input.features) (s.number + 1) left.input.rest ≡ Some (s.front ++ v ∷ [], rest)
read_more features entry_at old left cx now v rest s e =
    let same : entry_at left.input.features now.input.rest ≡ Some (v, rest) = ap (λ f. entry_at f now.input.rest) (sym s.goes_on.same_features) ∙ e in
    items_after (entry_at left.input.features) s.number 1 left.input.rest s.front now.input.rest s.reads
    ∙ ap (with_front s.front) (one_item (entry_at left.input.features) now.input.rest v rest same)

pub goes_on : (features : Features) (entry_at : EntryReading) (old : Context) (left : Left) (cx : Context) (now : Left) (next : Context) (new : Left) (v : Entry) → Stands features entry_at old left cx now
    → now.count ≡ suc new.count → entry_at now.input.features now.input.rest ≡ Some (v, new.input.rest) → GoesOn now.input new.input
    → Accepts features cx v next → Stands features entry_at old left next new
goes_on features entry_at old left cx now next new v s counted e g accepts =
    record {
      front = s.front ++ v ∷ [];
      number = s.number + 1;
      counted = omega (arith, s.counted, counted);
      reads = read_more features entry_at old left cx now v new.input.rest s e;
      rules = rules_push features old s.front v s.rules (subst (λ c. Keeps features c v) s.known accepts.rule);
      limits = limits_push old s.front v s.limits (subst (λ c. IsWithinLimits c v) s.known accepts.limits);
      known = accepts.known ∙ ap (λ c. after c v) s.known ∙ sym (after_push old s.front v);
      goes_on = goes_further left.input now.input new.input s.goes_on g;
    }

-- Entries that stand at the front of what is left, and what the list holds after them.
abbrev pub StandsEntered : Features → EntryReading → Context → List DefType → Left → Context → List DefType → Left → Type 0
StandsEntered features entry_at old held left new now_held now = (s : Stands features entry_at old left new now) × EnterAll features old held s.front now_held

pub begins_entered : (features : Features) (entry_at : EntryReading) (cx : Context) (held : List DefType) (left : Left) → StandsEntered features entry_at cx held left cx held left
unfolding begins
begins_entered features entry_at cx held left = (begins features entry_at cx left, refl)

pub goes_on_entered : (features : Features) (entry_at : EntryReading) (old : Context) (held : List DefType) (left : Left) (cx : Context) (now_held : List DefType) (now : Left) (next : Context) (next_held : List DefType)
    (new : Left) (v : Entry) → StandsEntered features entry_at old held left cx now_held now → now.count ≡ suc new.count → entry_at now.input.features now.input.rest ≡ Some (v, new.input.rest)
    → GoesOn now.input new.input → Accepts features cx v next → EntersEntry features cx now_held v next_held → StandsEntered features entry_at old held left next next_held new
unfolding goes_on
goes_on_entered features entry_at old held left cx now_held now next next_held new v s counted e g accepts enters =
    (goes_on features entry_at old left cx now next new v s.0 counted e g accepts, enters_push features old held now_held next_held s.0.front v s.1 (subst (λ c. EntersEntry features c now_held v next_held) s.0.known enters))

broken : (features : Features) (entry_at : EntryReading) (old : Context) (left : Left) (cx : Context) (now : Left) (v : Entry) (count : ℕ) (rest : List ℕ) → Stands features entry_at old left cx now
    → now.count ≡ suc count → entry_at now.input.features now.input.rest ≡ Some (v, rest) → ¬ (Keeps features cx v) → Fronts entry_at left (λ entries. ¬ (KeepRules features old entries))
broken features entry_at old left cx now v count rest s counted e breaks =
    record {
      front = s.front ++ v ∷ [];
      number = s.number + 1;
      rest = rest;
      among = omega (arith, s.counted, counted);
      reads = read_more features entry_at old left cx now v rest s e;
      holds = rules_broken features old s.front v (subst (λ c. ¬ (Keeps features c v)) s.known breaks);
    }

-- there is no room for the next one
no_room_push : (features : Features) (cx : Context) (held mid : List DefType) (es : List Entry) (e : Entry) → KeepRules features cx es → KeepLimits cx es → EnterAll features cx held es mid
    → FindsNoRoom (after_all cx es) mid e → OneFindsNoRoom features cx held (es ++ e ∷ [])
no_room_push features cx held mid [] e rules limits enter none = inl (subst (λ h. FindsNoRoom cx h e) enter none)
no_room_push features cx held mid (d ∷ es) e rules limits enter none =
    inr (rules.0, limits.0, enter.0, enter.1, no_room_push features (after cx d) enter.0 mid es e rules.1 limits.1 enter.2 none)

full : (features : Features) (entry_at : EntryReading) (old : Context) (held : List DefType) (left : Left) (cx : Context) (now_held : List DefType) (now : Left) (v : Entry) (count : ℕ) (rest : List ℕ)
    → StandsEntered features entry_at old held left cx now_held now → now.count ≡ suc count → entry_at now.input.features now.input.rest ≡ Some (v, rest) → FindsNoRoom cx now_held v
    → Fronts entry_at left (λ entries. OneFindsNoRoom features old held entries)
full features entry_at old held left cx now_held now v count rest (s, entered) counted e none =
    record {
      front = s.front ++ v ∷ [];
      number = s.number + 1;
      rest = rest;
      among = omega (arith, s.counted, counted);
      reads = read_more features entry_at old left cx now v rest s e;
      holds = no_room_push features old held now_held s.front v s.rules s.limits entered (subst (λ c. FindsNoRoom c now_held v) s.known none);
    }

passed : (limit : Limit) (features : Features) (entry_at : EntryReading) (old : Context) (left : Left) (cx : Context) (now : Left) (v : Entry) (count : ℕ) (rest : List ℕ) → Stands features entry_at old left cx now
    → now.count ≡ suc count → entry_at now.input.features now.input.rest ≡ Some (v, rest) → Passes limit (measures cx v) ⊎ PassesByTypes limit cx v → Fronts entry_at left (λ entries. PassLimit limit old entries)
passed limit features entry_at old left cx now v count rest s counted e passes =
    record {
      front = s.front ++ v ∷ [];
      number = s.number + 1;
      rest = rest;
      among = omega (arith, s.counted, counted);
      reads = read_more features entry_at old left cx now v rest s e;
      holds = pass_push limit old s.front v (subst (λ c. Passes limit (measures c v) ⊎ PassesByTypes limit c v) s.known passes);
    }

-- memory ran out for the next one
runs_out_push : (features : Features) (cx : Context) (es : List Entry) (e : Entry) → KeepRules features cx es → KeepLimits cx es → IsRightSoFar features (after_all cx es) e → OneRunsOut features cx (es ++ e ∷ [])
runs_out_push features cx [] e rules limits right = inl right
runs_out_push features cx (d ∷ es) e rules limits right = inr (rules.0, limits.0, runs_out_push features (after cx d) es e rules.1 limits.1 right)

ran_out : (features : Features) (entry_at : EntryReading) (old : Context) (left : Left) (cx : Context) (now : Left) (v : Entry) (count : ℕ) (rest : List ℕ) → Stands features entry_at old left cx now
    → now.count ≡ suc count → entry_at now.input.features now.input.rest ≡ Some (v, rest) → IsRightSoFar features cx v → Fronts entry_at left (λ entries. OneRunsOut features old entries)
ran_out features entry_at old left cx now v count rest s counted e right =
    record {
      front = s.front ++ v ∷ [];
      number = s.number + 1;
      rest = rest;
      among = omega (arith, s.counted, counted);
      reads = read_more features entry_at old left cx now v rest s e;
      holds = runs_out_push features old s.front v s.rules s.limits (subst (λ c. IsRightSoFar features c v) s.known right);
    }

-- all that is left, by what is left after some items
all_left : (features : Features) (entry_at : EntryReading) (old : Context) (left : Left) (cx : Context) (now : Left) → (s : Stands features entry_at old left cx now)
    → left_items entry_at left ≡ filled (with_front s.front (items_at (entry_at now.input.features) now.count now.input.rest))
unfolding left_items
all_left features entry_at old left cx now s =
    let k : left.count ≡ s.number + now.count = sym s.counted in
    rw (k, s.goes_on.same_features) (ap filled (items_after (entry_at left.input.features) s.number now.count left.input.rest s.front now.input.rest s.reads))

unread : (features : Features) (entry_at : EntryReading) (old : Context) (left : Left) (cx : Context) (now : Left) → Stands features entry_at old left cx now
    → left_items entry_at now ≡ None → left_items entry_at left ≡ None
unfolding left_items
unread features entry_at old left cx now s e = all_left features entry_at old left cx now s ∙ by_read (items_at (entry_at now.input.features) now.count now.input.rest) e
  where
    by_read : (read : Option (List Entry × List ℕ)) → filled read ≡ None → filled (with_front s.front read) ≡ None
    by_read None h = refl
    by_read (Some (x, [])) h = absurd cc
    by_read (Some (x, b ∷ rest)) h = refl

pub fills : (features : Features) (entry_at : EntryReading) (old : Context) (held : List DefType) (left : Left) (cx : Context) (now_held : List DefType) (now : Left)
    → StandsEntered features entry_at old held left cx now_held now → IsEmpty now → Fills features entry_at old held left cx now_held
unfolding items_at
fills features entry_at old held left cx now_held now (s, entered) empty = record {
  entries = s.front;
  reads = all_left features entry_at old left cx now s ∙ rw (empty.none, empty.ended) (ap (λ xs. Some xs) (append-nil s.front));
  rules = s.rules;
  limits = s.limits;
  known = s.known;
  entered = entered;
}

-- ---- refusals

within_later : (old now : Input) (offset : ℕ) → GoesOn old now → IsWithin now offset → IsWithin old offset
within_later old now offset g h = record { from = omega (arith, g.forward, h.from); to = omega (arith, g.same_end, h.to) }

at_place : (old now : Input) (offset : ℕ) → GoesOn old now → offset ≡ now.position → IsWithin old offset
at_place old now offset g e = record { from = omega (arith, g.forward, e); to = omega (arith, g.same_end, e) }

pub refused_read : {X A : Type 0} (form : X → A) (TakesMemory : Type 0) (indexes : A → List ℕ) (form_at : Features → ReadingOf A) (entry : X → Entry) (features : Features) (entry_at : EntryReading) → IsMadeOf form indexes form_at entry entry_at
    → (old : Context) (held : List DefType) (left : Left) (cx : Context) (now : Left) → Stands features entry_at old left cx now → length cx.types ≤ most Types → (e : Error) → IsNextRefusal TakesMemory indexes form_at now e
    → NamesEntries features entry_at TakesMemory old held left e.kind × IsWithin left.input e.offset
refused_read {X = X} {A = A} form TakesMemory indexes form_at entry features entry_at made old held left cx now s few e h = by_kind e.kind h
  where
    by_large : (count : ℕ) → now.count ≡ count → 0 < count → (read : Option (A × List ℕ)) → form_at now.input.features now.input.rest ≡ read → HasLargeIndex indexes read
        → Fronts entry_at left (λ entries. ¬ (KeepRules features old entries))
    by_large zero counted lt read e large = absurd (omega (arith, lt))
    by_large (suc count) counted lt None e large = absurd large
    by_large (suc count) counted lt (Some read) e large =
        broken features entry_at old left cx now (made.made read.0) count read.1 s counted (made.reads now.input.features now.input.rest ∙ rw e refl) (made.breaks features cx read.0 few (has_large (indexes read.0) large))

    by_kind : (kind : ErrorKind) → IsItemRefusal kind e.offset (TakesMemory × (0 < now.count) × (e.offset ≡ now.input.position)) (IsUnread form_at now × IsWithin now.input e.offset)
        ((0 < now.count) × HasLargeIndex indexes (form_at now.input.features now.input.rest) × (e.offset ≡ now.input.position)) → NamesEntries features entry_at TakesMemory old held left kind × IsWithin left.input e.offset
    by_kind kinds.Malformed h = (unread features entry_at old left cx now s (unread_left entry_at now (entry_unread form indexes form_at entry entry_at made now h.0)), within_later left.input now.input e.offset s.goes_on h.1)
    by_kind kinds.Invalid h = (by_large now.count refl h.0 _ refl h.1, at_place left.input now.input e.offset s.goes_on h.2)
    by_kind kinds.Memory h = (inl (h.0, omega (arith, h.1, s.counted)), at_place left.input now.input e.offset s.goes_on h.2)
    by_kind (kinds.Limit l) h = absurd h
    by_kind kinds.Operator h = absurd h
    by_kind kinds.Body h = absurd h
    by_kind kinds.Total h = absurd h
    by_kind kinds.Order h = absurd h
    by_kind kinds.Failed h = absurd h

pub refused_entry : (TakesMemory : Type 0) (features : Features) (entry_at : EntryReading) (old : Context) (held : List DefType) (left : Left) (cx : Context) (now_held : List DefType) (now : Left) (v : Entry) (count : ℕ) (rest : List ℕ)
    → StandsEntered features entry_at old held left cx now_held now
    → now.count ≡ suc count → entry_at now.input.features now.input.rest ≡ Some (v, rest) → (kind : ErrorKind) (place offset : ℕ) → place ≡ now.input.position → NamesEntry features cx now_held v kind × IsAt place kind offset
    → NamesEntries features entry_at TakesMemory old held left kind × IsWithin left.input (placed kind place offset)
refused_entry TakesMemory features entry_at old held left cx now_held now v count rest s counted e kinds.Invalid place offset p h = (broken features entry_at old left cx now v count rest s.0 counted e h.0, at_place left.input now.input offset s.0.goes_on (h.1 ∙ p))
refused_entry TakesMemory features entry_at old held left cx now_held now v count rest s counted e (kinds.Limit l) place offset p h = (passed (core.limit l) features entry_at old left cx now v count rest s.0 counted e h.0, at_place left.input now.input offset s.0.goes_on (h.1 ∙ p))
refused_entry TakesMemory features entry_at old held left cx now_held now v count rest s counted e kinds.Memory place offset p h = (inr (ran_out features entry_at old left cx now v count rest s.0 counted e h.0), at_place left.input now.input place s.0.goes_on p)
refused_entry TakesMemory features entry_at old held left cx now_held now v count rest s counted e kinds.Malformed place offset p h = absurd h.0
refused_entry TakesMemory features entry_at old held left cx now_held now v count rest s counted e kinds.Operator place offset p h = absurd h.0
refused_entry TakesMemory features entry_at old held left cx now_held now v count rest s counted e kinds.Body place offset p h = absurd h.0
refused_entry TakesMemory features entry_at old held left cx now_held now v count rest s counted e kinds.Total place offset p h = (full features entry_at old held left cx now_held now v count rest s counted e h.0, at_place left.input now.input offset s.0.goes_on (h.1 ∙ p))
refused_entry TakesMemory features entry_at old held left cx now_held now v count rest s counted e kinds.Order place offset p h = absurd h.0
refused_entry TakesMemory features entry_at old held left cx now_held now v count rest s counted e kinds.Failed place offset p h = absurd h.0
