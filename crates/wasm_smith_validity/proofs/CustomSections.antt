-- Custom sections between the others change nothing of what holds of these.
use Rattle.std.proofs.Common.{◌≡◌, ℕ, zero, suc, ◌≤◌, Bool, true, false, nat_eq, List, [], ◌∷◌, ◌++◌, length, map, refl, ap, sym, ◌∙◌, subst, append_assoc, inl, inr, cond}
use Rattle.std.specs.List.{AllByRecursion, filter, flat_map}
use Rattle.std.proofs.lemmas.Bool.{le-ltb}
use Rattle.std.proofs.lemmas.Grind.{flat_map-append}
use Rattle.wasm_spec.specs.Features.{Features}
use Rattle.wasm_spec.specs.Limits.{Limit, Name, most}
use Rattle.wasm_spec.specs.Syntax.{Section, Custom}
use Rattle.wasm_validity.specs.Context.{Context, after, after_all}
use Rattle.wasm_validity.specs.Entries.{Entry, OfCustom, entries_in, entries_of}
use Rattle.wasm_validity.specs.Rules.{IsWithin, KeepLimits, KeepRules, PassLimit, are_within}
use Rattle.wasm_smith_validity.specs.Made.{PlacedCustom}
use Rattle.wasm_smith_validity.specs.Sections.{between, customs_before, section_of}

-- sections of several kinds
abbrev together : List (List Section) → List Section
together kinds = flat_map (λ kind. kind) kinds

-- ---- what custom sections don't have

none_of : {B : Type 0} (f : Section → List B) → ((name contents : List ℕ) → f (Custom name contents) ≡ []) → (customs : List PlacedCustom) → flat_map f (map section_of customs) ≡ []
none_of f none [] = refl
none_of f none (custom ∷ customs) = rw (none custom.name custom.contents) (none_of f none customs)

pub nothing_between : {B : Type 0} (f : Section → List B) → ((name contents : List ℕ) → f (Custom name contents) ≡ []) → (place : ℕ) (customs : List PlacedCustom) (kinds : List (List Section))
    → flat_map f (between place customs kinds) ≡ flat_map f (together kinds)
nothing_between f none place customs [] = none_of f none (filter (λ (custom : PlacedCustom). nat_eq custom.place place) customs)
nothing_between f none place customs (kind ∷ kinds) =
    flat_map-append f (customs_before place customs) (kind ++ between (suc place) customs kinds)
    ∙ ap (λ l. l ++ flat_map f (kind ++ between (suc place) customs kinds)) (none_of f none (filter (λ (custom : PlacedCustom). nat_eq custom.place place) customs))
    ∙ flat_map-append f kind (between (suc place) customs kinds)
    ∙ ap (λ l. flat_map f kind ++ l) (nothing_between f none (suc place) customs kinds)
    ∙ sym (flat_map-append f kind (together kinds))

-- ---- entries one after the other

context_append : (cx : Context) (xs ys : List Entry) → after_all cx (xs ++ ys) ≡ after_all (after_all cx xs) ys
context_append cx [] ys = refl
context_append cx (x ∷ xs) ys = context_append (after cx x) xs ys

-- a property of entries in a context that holds of some, and of others after them, exactly where it holds of all
record Joins (P : Context → List Entry → Type 0) : Type 1 where
  none : (cx : Context) → P cx []
  join : (cx : Context) (xs ys : List Entry) → P cx xs → P (after_all cx xs) ys → P cx (xs ++ ys)
  first : (cx : Context) (xs ys : List Entry) → P cx (xs ++ ys) → P cx xs
  second : (cx : Context) (xs ys : List Entry) → P cx (xs ++ ys) → P (after_all cx xs) ys

abbrev rules_join : (features : Features) → Joins (KeepRules features)
rules_join features = record {
  none = λ cx. tt;
  join = go;
  first = front;
  second = back;
}
  where
    go : (cx : Context) (xs ys : List Entry) → KeepRules features cx xs → KeepRules features (after_all cx xs) ys → KeepRules features cx (xs ++ ys)
    go cx [] ys h g = g
    go cx (x ∷ xs) ys h g = (h.0, go (after cx x) xs ys h.1 g)

    front : (cx : Context) (xs ys : List Entry) → KeepRules features cx (xs ++ ys) → KeepRules features cx xs
    front cx [] ys h = tt
    front cx (x ∷ xs) ys h = (h.0, front (after cx x) xs ys h.1)

    back : (cx : Context) (xs ys : List Entry) → KeepRules features cx (xs ++ ys) → KeepRules features (after_all cx xs) ys
    back cx [] ys h = h
    back cx (x ∷ xs) ys h = back (after cx x) xs ys h.1

abbrev limits_join : Joins KeepLimits
limits_join = record {
  none = λ cx. tt;
  join = go;
  first = front;
  second = back;
}
  where
    go : (cx : Context) (xs ys : List Entry) → KeepLimits cx xs → KeepLimits (after_all cx xs) ys → KeepLimits cx (xs ++ ys)
    go cx [] ys h g = g
    go cx (x ∷ xs) ys h g = (h.0, go (after cx x) xs ys h.1 g)

    front : (cx : Context) (xs ys : List Entry) → KeepLimits cx (xs ++ ys) → KeepLimits cx xs
    front cx [] ys h = tt
    front cx (x ∷ xs) ys h = (h.0, front (after cx x) xs ys h.1)

    back : (cx : Context) (xs ys : List Entry) → KeepLimits cx (xs ++ ys) → KeepLimits (after_all cx xs) ys
    back cx [] ys h = h
    back cx (x ∷ xs) ys h = back (after cx x) xs ys h.1

-- ---- custom sections alone

nothing_after : (customs : List PlacedCustom) (cx : Context) → after_all cx (entries_of (map section_of customs)) ≡ cx
nothing_after [] cx = refl
nothing_after (custom ∷ customs) cx = nothing_after customs cx

customs_rule : (features : Features) (customs : List PlacedCustom) (cx : Context) → KeepRules features cx (entries_of (map section_of customs))
customs_rule features [] cx = tt
customs_rule features (custom ∷ customs) cx = (tt, customs_rule features customs cx)

-- names that are short enough
abbrev pub HasLegalName : PlacedCustom → Type 0
HasLegalName custom = length custom.name ≤ most Name

customs_limit : (customs : List PlacedCustom) (cx : Context) → AllByRecursion HasLegalName customs → KeepLimits cx (entries_of (map section_of customs))
customs_limit [] cx h = tt
customs_limit (custom ∷ customs) cx h =
    (record { numbers = rw (le-ltb (most Name) (length custom.name) h.0) refl; types = λ limit passes. passes }, customs_limit customs cx h.1)

of_filtered : {A : Type 0} (P : A → Type 0) (test : A → Bool) (xs : List A) → AllByRecursion P xs → AllByRecursion P (filter test xs)
of_filtered P test [] h = tt
of_filtered P test (x ∷ xs) h = kept (test x) refl (of_filtered P test xs h.1)
  where
    kept : (b : Bool) → test x ≡ b → AllByRecursion P (filter test xs) → AllByRecursion P (filter test (x ∷ xs))
    kept true e rest = rw e (h.0, rest)
    kept false e rest = rw e rest

-- ---- between the others

after_customs : (place : ℕ) (customs : List PlacedCustom) (cx : Context) → after_all cx (entries_of (customs_before place customs)) ≡ cx
after_customs place customs cx = nothing_after (filter (λ (custom : PlacedCustom). nat_eq custom.place place) customs) cx

pub after_between : (place : ℕ) (customs : List PlacedCustom) (kinds : List (List Section)) (cx : Context) → after_all cx (entries_of (between place customs kinds)) ≡ after_all cx (entries_of (together kinds))
after_between place customs [] cx = after_customs place customs cx
after_between place customs (kind ∷ kinds) cx =
    let behind = between (suc place) customs kinds in
    ap (after_all cx) (flat_map-append entries_in (customs_before place customs) (kind ++ behind))
    ∙ context_append cx (entries_of (customs_before place customs)) (entries_of (kind ++ behind))
    ∙ ap (λ c. after_all c (entries_of (kind ++ behind))) (after_customs place customs cx)
    ∙ ap (after_all cx) (flat_map-append entries_in kind behind)
    ∙ context_append cx (entries_of kind) (entries_of behind)
    ∙ after_between (suc place) customs kinds (after_all cx (entries_of kind))
    ∙ sym (context_append cx (entries_of kind) (entries_of (together kinds)))
    ∙ sym (ap (after_all cx) (flat_map-append entries_in kind (together kinds)))

-- what joins, and holds of custom sections anywhere, holds of sections with them between
with_between : (P : Context → List Entry → Type 0) → Joins P → (customs : List PlacedCustom) → ((place : ℕ) (cx : Context) → P cx (entries_of (customs_before place customs)))
    → (place : ℕ) (kinds : List (List Section)) (cx : Context) → P cx (entries_of (together kinds)) → P cx (entries_of (between place customs kinds))
with_between P joins customs alone place [] cx h = alone place cx
with_between P joins customs alone place (kind ∷ kinds) cx h =
    let behind = between (suc place) customs kinds in
    let split = subst (P cx) (flat_map-append entries_in kind (together kinds)) h in
    let later = with_between P joins customs alone (suc place) kinds (after_all cx (entries_of kind)) (joins.second cx (entries_of kind) (entries_of (together kinds)) split) in
    let with_kind = subst (P cx) (sym (flat_map-append entries_in kind behind)) (joins.join cx (entries_of kind) (entries_of behind) (joins.first cx (entries_of kind) (entries_of (together kinds)) split) later) in
    subst (P cx) (sym (flat_map-append entries_in (customs_before place customs) (kind ++ behind)))
    (joins.join cx (entries_of (customs_before place customs)) (entries_of (kind ++ behind)) (alone place cx) (subst (λ c. P c (entries_of (kind ++ behind))) (sym (after_customs place customs cx)) with_kind))

-- and the reverse
without_between : (P : Context → List Entry → Type 0) → Joins P → (customs : List PlacedCustom) (place : ℕ) (kinds : List (List Section)) (cx : Context)
    → P cx (entries_of (between place customs kinds)) → P cx (entries_of (together kinds))
without_between P joins customs place [] cx h = joins.none cx
without_between P joins customs place (kind ∷ kinds) cx h =
    let behind = between (suc place) customs kinds in
    let split = subst (P cx) (flat_map-append entries_in (customs_before place customs) (kind ++ behind)) h in
    let rest = subst (λ c. P c (entries_of (kind ++ behind))) (after_customs place customs cx) (joins.second cx (entries_of (customs_before place customs)) (entries_of (kind ++ behind)) split) in
    let parts = subst (P cx) (flat_map-append entries_in kind behind) rest in
    subst (P cx) (sym (flat_map-append entries_in kind (together kinds)))
    (joins.join cx (entries_of kind) (entries_of (together kinds)) (joins.first cx (entries_of kind) (entries_of behind) parts)
    (without_between P joins customs (suc place) kinds (after_all cx (entries_of kind)) (joins.second cx (entries_of kind) (entries_of behind) parts)))

pub rules_between : (features : Features) (customs : List PlacedCustom) (kinds : List (List Section)) (cx : Context) → KeepRules features cx (entries_of (together kinds))
    → KeepRules features cx (entries_of (between 0 customs kinds))
rules_between features customs kinds cx h =
    with_between (KeepRules features) (rules_join features) customs (λ place cx. customs_rule features (filter (λ (custom : PlacedCustom). nat_eq custom.place place) customs) cx) 0 kinds cx h

pub limits_between : (customs : List PlacedCustom) (kinds : List (List Section)) (cx : Context) → AllByRecursion HasLegalName customs → KeepLimits cx (entries_of (together kinds))
    → KeepLimits cx (entries_of (between 0 customs kinds))
limits_between customs kinds cx short h =
    with_between KeepLimits limits_join customs
    (λ place cx. customs_limit (filter (λ (custom : PlacedCustom). nat_eq custom.place place) customs) cx (of_filtered HasLegalName (λ (custom : PlacedCustom). nat_eq custom.place place) customs short)) 0 kinds cx h

pub limits_without : (customs : List PlacedCustom) (kinds : List (List Section)) (cx : Context) → KeepLimits cx (entries_of (between 0 customs kinds)) → KeepLimits cx (entries_of (together kinds))
limits_without customs kinds cx h = without_between KeepLimits limits_join customs 0 kinds cx h

-- ---- a limit that is passed

passed_first : (limit : Limit) (cx : Context) (xs ys : List Entry) → PassLimit limit cx xs → PassLimit limit cx (xs ++ ys)
passed_first limit cx [] ys h = absurd h
passed_first limit cx (x ∷ xs) ys (inl h) = inl h
passed_first limit cx (x ∷ xs) ys (inr (inl h)) = inr (inl h)
passed_first limit cx (x ∷ xs) ys (inr (inr h)) = inr (inr (passed_first limit (after cx x) xs ys h))

passed_second : (limit : Limit) (cx : Context) (xs ys : List Entry) → PassLimit limit (after_all cx xs) ys → PassLimit limit cx (xs ++ ys)
passed_second limit cx [] ys h = h
passed_second limit cx (x ∷ xs) ys h = inr (inr (passed_second limit (after cx x) xs ys h))

data PassesPart (limit : Limit) (cx : Context) (xs ys : List Entry) : Type 0 where
  InFirst : PassLimit limit cx xs → PassesPart limit cx xs ys
  InSecond : PassLimit limit (after_all cx xs) ys → PassesPart limit cx xs ys

passed_part : (limit : Limit) (cx : Context) (xs ys : List Entry) → PassLimit limit cx (xs ++ ys) → PassesPart limit cx xs ys
passed_part limit cx [] ys h = InSecond h
passed_part limit cx (x ∷ xs) ys (inl h) = InFirst (inl h)
passed_part limit cx (x ∷ xs) ys (inr (inl h)) = InFirst (inr (inl h))
passed_part limit cx (x ∷ xs) ys (inr (inr h)) = go (passed_part limit (after cx x) xs ys h)
  where
    go : PassesPart limit (after cx x) xs ys → PassesPart limit cx (x ∷ xs) ys
    go (InFirst h) = InFirst (inr (inr h))
    go (InSecond h) = InSecond h

pub passed_between : (limit : Limit) (place : ℕ) (customs : List PlacedCustom) (kinds : List (List Section)) (cx : Context) → PassLimit limit cx (entries_of (together kinds))
    → PassLimit limit cx (entries_of (between place customs kinds))
passed_between limit place customs [] cx h = absurd h
passed_between limit place customs (kind ∷ kinds) cx h =
    let behind = between (suc place) customs kinds in
    let with_kind = subst (PassLimit limit cx) (sym (flat_map-append entries_in kind behind))
    (go (passed_part limit cx (entries_of kind) (entries_of (together kinds)) (subst (PassLimit limit cx) (flat_map-append entries_in kind (together kinds)) h))
    (passed_between limit (suc place) customs kinds (after_all cx (entries_of kind)))) in
    subst (PassLimit limit cx) (sym (flat_map-append entries_in (customs_before place customs) (kind ++ behind)))
    (passed_second limit cx (entries_of (customs_before place customs)) (entries_of (kind ++ behind)) (subst (λ c. PassLimit limit c (entries_of (kind ++ behind))) (sym (after_customs place customs cx)) with_kind))
  where
    go : PassesPart limit cx (entries_of kind) (entries_of (together kinds))
        → (PassLimit limit (after_all cx (entries_of kind)) (entries_of (together kinds)) → PassLimit limit (after_all cx (entries_of kind)) (entries_of (between (suc place) customs kinds)))
        → PassLimit limit cx (entries_of kind ++ entries_of (between (suc place) customs kinds))
    go (InFirst h) later = passed_first limit cx (entries_of kind) _ h
    go (InSecond h) later = passed_second limit cx (entries_of kind) _ (later h)
