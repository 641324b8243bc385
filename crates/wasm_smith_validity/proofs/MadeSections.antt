-- The entries of a made module's sections, which keep the rules.
use Rattle.std.proofs.Common.{◌≡◌, ℕ, ◌≤◌, Bool, true, false, List, [], ◌∷◌, ◌++◌, length, map, refl, ap, sym, ◌∙◌, subst, append_assoc, if◌then◌else◌, Option, Some, None}
use Rattle.std.specs.List.{AllByRecursion, flat_map}
use Rattle.std.specs.Option.{option_to_list}
use Rattle.std.proofs.lemmas.List.{append-nil}
use Rattle.wasm_spec.specs.Features.{Features, has, BulkMemory}
use Rattle.wasm_spec.specs.Limits.{Types, most}
use Rattle.wasm_spec.specs.Syntax.{Section, TypeSection, ImportSection, FunctionSection, TableSection, MemorySection, TagSection, GlobalSection, ExportSection, StartSection, ElementSection, DataCountSection, CodeSection, DataSection, DataSegment}
use Rattle.wasm_validity.specs.Context.{Context, after, after_all, at_first}
use Rattle.wasm_validity.specs.Entries.{Entry, entries_in, entries_of, OfType, OfImport, OfFunction, OfTable, OfMemory, OfTags, OfTag, OfGlobal, OfExport, OfStart, OfElement, OfDataCount, OfBody, OfData}
use Rattle.wasm_validity.specs.Rules.{KeepRules}
use Rattle.wasm_smith_validity.specs.ValidGroups.{types_of}
use Rattle.wasm_smith_validity.specs.Made.{Made}
use Rattle.wasm_smith_validity.specs.Rules.{KeepAll}
use Rattle.wasm_smith_validity.specs.Sections.{unless_empty, ordered_sections, sections_with, kinds_with}
use Rattle.wasm_smith_validity.specs.Spaces.{Spaces, spaces_of_types, spaces_after, spaces_after_all}
use Rattle.wasm_smith_validity.specs.Validity.{IsValidByIndex, made_entries}
use Rattle.wasm_smith_validity.proofs.MadeGroups.{KeepRulesBehind, of_groups, typed, groups_keep, groups_stand, rules_behind, rules_together, spaces_known, spaces_together}
use Rattle.wasm_smith_validity.proofs.IndexedContext.{IsBehind}
use Rattle.wasm_smith_validity.proofs.CustomSections.{rules_between}
use Rattle.wasm_smith_validity.proofs.MeantEntries.{rules_as}

pub all_append : {A : Type 0} (P : A → Type 0) (xs ys : List A) → AllByRecursion P xs → AllByRecursion P ys → AllByRecursion P (xs ++ ys)
all_append P [] ys p q = q
all_append P (x ∷ xs) ys p q = (p.0, all_append P xs ys p.1 q)

-- ---- one after the other

keep_append : (features : Features) (k : Spaces) (xs ys : List Entry) → KeepAll features k xs → KeepAll features (spaces_after_all k xs) ys → KeepAll features k (xs ++ ys)
keep_append features k [] ys h g = g
keep_append features k (x ∷ xs) ys h g = (h.0, keep_append features (spaces_after k x) xs ys h.1 g)

rules_append : (features : Features) (cx : Context) (xs ys : List Entry) → KeepRules features cx xs → KeepRules features (after_all cx xs) ys → KeepRules features cx (xs ++ ys)
rules_append features cx [] ys h g = g
rules_append features cx (x ∷ xs) ys h g = (h.0, rules_append features (after cx x) xs ys h.1 g)

-- entries that keep their rules anywhere, and after which all is as it was
abbrev IsSilent : Features → List Entry → Type 0
IsSilent features silent = (before : Spaces) → KeepAll features before silent × (spaces_after_all before silent ≡ before)

-- they may stand anywhere
insert : (features : Features) (k : Spaces) (xs silent ys : List Entry) → IsSilent features silent → KeepAll features k (xs ++ ys) → KeepAll features k (xs ++ (silent ++ ys))
insert features k [] silent ys h g = keep_append features k silent ys (h k).0 (subst (λ after. KeepAll features after ys) (sym (h k).1) g)
insert features k (x ∷ xs) silent ys h g = (g.0, insert features (spaces_after k x) xs silent ys h g.1)

-- ---- what sections say

entries_append : (xs ys : List Section) → entries_of (xs ++ ys) ≡ entries_of xs ++ entries_of ys
entries_append [] ys = refl
entries_append (x ∷ xs) ys = ap (λ l. entries_in x ++ l) (entries_append xs ys) ∙ sym (append_assoc (entries_in x) (entries_of xs) (entries_of ys))

-- what sections have that are a section of some items, and others after it
pub said : {A B : Type 0} (f : Section → List B) (section : List A → Section) (say : List A → List B) → ((items : List A) → f (section items) ≡ say items) → say [] ≡ []
    → (items : List A) (others : List Section) (rest : List B) → flat_map f others ≡ rest → flat_map f (unless_empty section items ++ others) ≡ say items ++ rest
said f section say says none [] others rest e = rw none e
said f section say says none (item ∷ items) others rest e = rw (says (item ∷ items), e) refl

starts_said : (start : Option ℕ) (others : List Section) (rest : List Entry) → entries_of others ≡ rest
    → entries_of (map (λ f. StartSection f) (option_to_list start) ++ others) ≡ map (λ x. OfStart x) (option_to_list start) ++ rest
starts_said None others rest e = e
starts_said (Some f) others rest e = rw e refl

abbrev pub of_tags : List ℕ → List Entry
of_tags [] = []
of_tags (index ∷ indexes) = OfTags ∷ map (λ x. OfTag x) (index ∷ indexes)

tags_said : (indexes : List ℕ) (others : List Section) (rest : List Entry) → entries_of others ≡ rest
    → entries_of (unless_empty (λ xs. TagSection xs) indexes ++ others) ≡ of_tags indexes ++ rest
tags_said [] others rest e = e
tags_said (index ∷ indexes) others rest e = rw e refl

abbrev pub of_count : List DataSegment → List Entry
of_count [] = []
of_count (segment ∷ segments) = OfDataCount (length (segment ∷ segments)) ∷ []

counts_said : (segments : List DataSegment) (others : List Section) (rest : List Entry) → entries_of others ≡ rest
    → entries_of (unless_empty (λ segments. DataCountSection (length segments)) segments ++ others) ≡ of_count segments ++ rest
counts_said [] others rest e = e
counts_said (segment ∷ segments) others rest e = rw e refl

data_said : (segments : List DataSegment) → entries_of (unless_empty (λ xs. DataSection xs) segments ++ []) ≡ map (λ x. OfData x) segments
data_said [] = refl
data_said (segment ∷ segments) = append-nil (map (λ x. OfData x) (segment ∷ segments))

abbrev pub of_bodies : List (List ℕ) → List Entry
of_bodies bodies = map (λ x. OfBody x) bodies

-- what all sections say behind the types
abbrev pub behind_types_said : Bool → List (List ℕ) → Made → List Entry
behind_types_said counted bodies m =
    map (λ x. OfImport x) m.imports
    ++ (map (λ x. OfFunction x) m.funcs
    ++ (map (λ x. OfTable x) m.tables
    ++ (map (λ x. OfMemory x) m.memories
    ++ (of_tags m.tags
    ++ (map (λ x. OfGlobal x) m.globals
    ++ (map (λ x. OfExport x) m.exports
    ++ (map (λ x. OfStart x) (option_to_list m.start)
    ++ (map (λ x. OfElement x) m.elems
    ++ (of_count (if counted then m.data_segments else [])
    ++ (of_bodies bodies
    ++ map (λ x. OfData x) m.data_segments))))))))))

pub sections_say : (counted : Bool) (bodies : List (List ℕ)) (m : Made) → entries_of (ordered_sections counted bodies m) ≡ of_groups m.groups ++ behind_types_said counted bodies m
sections_say counted bodies m =
    said entries_in (λ xs. TypeSection xs) (λ xs. map (λ x. OfType x) xs) (λ xs. refl) refl m.groups _ _
    (said entries_in (λ xs. ImportSection xs) (λ xs. map (λ x. OfImport x) xs) (λ xs. refl) refl m.imports _ _
    (said entries_in (λ xs. FunctionSection xs) (λ xs. map (λ x. OfFunction x) xs) (λ xs. refl) refl m.funcs _ _
    (said entries_in (λ xs. TableSection xs) (λ xs. map (λ x. OfTable x) xs) (λ xs. refl) refl m.tables _ _
    (said entries_in (λ xs. MemorySection xs) (λ xs. map (λ x. OfMemory x) xs) (λ xs. refl) refl m.memories _ _
    (tags_said m.tags _ _
    (said entries_in (λ xs. GlobalSection xs) (λ xs. map (λ x. OfGlobal x) xs) (λ xs. refl) refl m.globals _ _
    (said entries_in (λ xs. ExportSection xs) (λ xs. map (λ x. OfExport x) xs) (λ xs. refl) refl m.exports _ _
    (starts_said m.start _ _
    (said entries_in (λ xs. ElementSection xs) (λ xs. map (λ x. OfElement x) xs) (λ xs. refl) refl m.elems _ _
    (counts_said (if counted then m.data_segments else []) _ _
    (said entries_in (λ xs. CodeSection xs) (λ xs. map (λ x. OfBody x) xs) (λ xs. refl) refl bodies _ _ (data_said m.data_segments))))))))))))

-- what they say without a count of data segments and without bodies
abbrev pub entries_behind_types : Made → List Entry
entries_behind_types m = behind_types_said false [] m

-- ---- all entries of a module are behind its types

each_behind : {A : Type 0} (entry : A → Entry) → ((x : A) → IsBehind (entry x)) → (xs : List A) → AllByRecursion IsBehind (map entry xs)
each_behind entry one [] = tt
each_behind entry one (x ∷ xs) = (one x, each_behind entry one xs)

tags_behind : (tags : List ℕ) → AllByRecursion IsBehind (of_tags tags)
tags_behind [] = tt
tags_behind (index ∷ tags) = (tt, each_behind (λ x. OfTag x) (λ x. tt) (index ∷ tags))

count_behind : (segments : List DataSegment) → AllByRecursion IsBehind (of_count segments)
count_behind [] = tt
count_behind (segment ∷ segments) = (tt, tt)

pub said_behind : (counted : Bool) (bodies : List (List ℕ)) (m : Made) → AllByRecursion IsBehind (behind_types_said counted bodies m)
said_behind counted bodies m =
    all_append IsBehind (map (λ x. OfImport x) m.imports) _ (each_behind (λ x. OfImport x) (λ x. tt) m.imports)
    (all_append IsBehind (map (λ x. OfFunction x) m.funcs) _ (each_behind (λ x. OfFunction x) (λ x. tt) m.funcs)
    (all_append IsBehind (map (λ x. OfTable x) m.tables) _ (each_behind (λ x. OfTable x) (λ x. tt) m.tables)
    (all_append IsBehind (map (λ x. OfMemory x) m.memories) _ (each_behind (λ x. OfMemory x) (λ x. tt) m.memories)
    (all_append IsBehind (of_tags m.tags) _ (tags_behind m.tags)
    (all_append IsBehind (map (λ x. OfGlobal x) m.globals) _ (each_behind (λ x. OfGlobal x) (λ x. tt) m.globals)
    (all_append IsBehind (map (λ x. OfExport x) m.exports) _ (each_behind (λ x. OfExport x) (λ x. tt) m.exports)
    (all_append IsBehind (map (λ x. OfStart x) (option_to_list m.start)) _ (each_behind (λ x. OfStart x) (λ x. tt) (option_to_list m.start))
    (all_append IsBehind (map (λ x. OfElement x) m.elems) _ (each_behind (λ x. OfElement x) (λ x. tt) m.elems)
    (all_append IsBehind (of_count (if counted then m.data_segments else [])) _ (count_behind (if counted then m.data_segments else []))
    (all_append IsBehind (of_bodies bodies) _ (each_behind (λ x. OfBody x) (λ x. tt) bodies)
    (each_behind (λ x. OfData x) (λ x. tt) m.data_segments)))))))))))

-- ---- rules

pub rules_of : (features : Features) (m : Made) → IsValidByIndex features m → KeepRulesBehind features m.groups (entries_behind_types m)
rules_of features m valid = rules_behind features m.groups (entries_behind_types m) (subst (KeepAll features (spaces_of_types [])) (sections_say false [] m) valid.rules)

pub made_rules : (features : Features) (m : Made) → KeepRulesBehind features m.groups (entries_behind_types m) → KeepAll features (spaces_of_types []) (made_entries m)
made_rules features m h = subst (KeepAll features (spaces_of_types [])) (sym (sections_say false [] m)) (rules_together features m.groups (entries_behind_types m) h)

pub made_spaces : (m : Made) → spaces_after_all (spaces_of_types []) (made_entries m) ≡ spaces_after_all (spaces_of_types (types_of m.groups)) (entries_behind_types m)
made_spaces m = ap (spaces_after_all (spaces_of_types [])) (sections_say false [] m) ∙ spaces_together m.groups (entries_behind_types m)

bodies_are_silent : (features : Features) (bodies : List (List ℕ)) → IsSilent features (of_bodies bodies)
bodies_are_silent features [] k = (tt, refl)
bodies_are_silent features (body ∷ bodies) k = let later = bodies_are_silent features bodies k in ((tt, later.0), later.1)

count_is_silent : (features : Features) (segments : List DataSegment) → has features BulkMemory ≡ true → IsSilent features (of_count segments)
count_is_silent features [] on k = (tt, refl)
count_is_silent features (segment ∷ segments) on k = ((on, tt), refl)

counted_is_silent : (features : Features) (counted : Bool) (segments : List DataSegment) → (counted ≡ true → has features BulkMemory ≡ true)
    → IsSilent features (of_count (if counted then segments else []))
counted_is_silent features true segments on = count_is_silent features segments (on refl)
counted_is_silent features false segments on = λ k. (tt, refl)

regroup : (a b c d e f g h i j : List Entry) → a ++ (b ++ (c ++ (d ++ (e ++ (f ++ (g ++ (h ++ (i ++ j)))))))) ≡ (a ++ (b ++ (c ++ (d ++ (e ++ (f ++ (g ++ (h ++ i)))))))) ++ j
regroup a b c d e f g h i j = simp append_assoc

behind_types_kept : (features : Features) (k : Spaces) (a b c d e f g h i counts bodies segments : List Entry) → IsSilent features counts → IsSilent features bodies
    → KeepAll features k (a ++ (b ++ (c ++ (d ++ (e ++ (f ++ (g ++ (h ++ (i ++ segments)))))))))
    → KeepAll features k (a ++ (b ++ (c ++ (d ++ (e ++ (f ++ (g ++ (h ++ (i ++ (counts ++ (bodies ++ segments)))))))))))
behind_types_kept features k a b c d e f g h i counts bodies segments silent_counts silent_bodies keep =
    let front = a ++ (b ++ (c ++ (d ++ (e ++ (f ++ (g ++ (h ++ i))))))) in
    let together = subst (KeepAll features k) (regroup a b c d e f g h i segments) keep in
    let with_bodies = insert features k front bodies segments silent_bodies together in
    subst (KeepAll features k) (sym (regroup a b c d e f g h i (counts ++ (bodies ++ segments)))) (insert features k front counts (bodies ++ segments) silent_counts with_bodies)

ordered_rules : (features : Features) (m : Made) (counted : Bool) (bodies : List (List ℕ)) → IsValidByIndex features m → length (types_of m.groups) ≤ most Types
    → (counted ≡ true → has features BulkMemory ≡ true) → KeepRules features at_first (entries_of (ordered_sections counted bodies m))
ordered_rules features m counted bodies valid few on =
    let types = types_of m.groups in
    let rules = rules_of features m valid in
    let kept = behind_types_kept features (spaces_of_types types)
    (map (λ x. OfImport x) m.imports) (map (λ x. OfFunction x) m.funcs) (map (λ x. OfTable x) m.tables) (map (λ x. OfMemory x) m.memories) (of_tags m.tags)
    (map (λ x. OfGlobal x) m.globals) (map (λ x. OfExport x) m.exports) (map (λ x. OfStart x) (option_to_list m.start)) (map (λ x. OfElement x) m.elems)
    (of_count (if counted then m.data_segments else [])) (of_bodies bodies) (map (λ x. OfData x) m.data_segments)
    (counted_is_silent features counted m.data_segments on) (bodies_are_silent features bodies) rules.behind_types in
    let known = subst (λ k. KeepAll features k (behind_types_said counted bodies m)) (sym (spaces_known m.groups)) kept in
    subst (KeepRules features at_first) (sym (sections_say counted bodies m))
    (rules_append features at_first (of_groups m.groups) (behind_types_said counted bodies m) (groups_keep features m.groups rules.valid few)
    (rules_as features types (typed m.groups) (groups_stand features m.groups rules.valid) few (behind_types_said counted bodies m) (said_behind counted bodies m) known))

pub rules_kept : (features : Features) (m : Made) (counted : Bool) (bodies : List (List ℕ)) → IsValidByIndex features m → length (types_of m.groups) ≤ most Types
    → (counted ≡ true → has features BulkMemory ≡ true) → KeepRules features at_first (entries_of (sections_with counted bodies m))
rules_kept features m counted bodies valid few on =
    rules_between features m.customs (kinds_with counted bodies m) at_first (ordered_rules features m counted bodies valid few on)
