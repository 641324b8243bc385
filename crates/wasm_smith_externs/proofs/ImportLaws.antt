-- The imports of the whole step.
use Rattle.std.proofs.Common.{◌≡◌, ℕ, ◌<◌, ◌≤◌, true, false, List, [], ◌∷◌, ◌++◌, map, refl, ap, sym, ◌∙◌, inl, inr, ◌⊎◌, subst, arith}
use Rattle.std.specs.List.{AllByRecursion}
use Rattle.std.proofs.lemmas.Bool.{and_from, and_parts}
use Rattle.std.proofs.lemmas.List.{map-append}
use Rattle.std.proofs.lemmas.List.Concat.{flat_map-append}
use Rattle.wasm_spec.specs.Features.{Features}
use Rattle.wasm_spec.specs.Syntax.{ImportEntry, imported_by}
use Rattle.wasm_spec.specs.Types.{ExternalType}
use Rattle.wasm_smith_config.specs.declared.config.Config.{Config}
use Rattle.wasm_smith_definitions.specs.Steps.{IsStep}
use Rattle.wasm_smith_types.proofs.ListLaws.{all_append}
use Rattle.wasm_smith_validity.specs.Rules.{KeepAll, keep_items, keeps_item}
use Rattle.wasm_smith_validity.specs.Spaces.{Spaces, spaces_after_all, with_item, with_items}
use Rattle.wasm_smith_externs.specs.Added.{AreAdded, AreMadeSoFar}
use Rattle.wasm_smith_externs.specs.Candidates.{can_import_some}
use Rattle.wasm_smith_externs.specs.Imports.{AreGrownImports, IsMadeEntry, LackImports, asked_imports, import_count, of_import}
use Rattle.wasm_smith_externs.specs.Named.{Named, all_named, named_by, types_of}
use Rattle.wasm_smith_externs.specs.declared.bounds.ImportBounds.{ImportBounds}
use Rattle.wasm_smith_externs.specs.declared.names.DuplicateImportsBehavior.{DuplicateImportsBehavior}
use Rattle.wasm_smith_externs.specs.declared.progress.Progress.{Progress}
use Rattle.wasm_smith_externs.proofs.AddedLaws.{more_added, none_added, with_more}
use Rattle.wasm_smith_externs.proofs.NamedLaws.{types_named}

-- ---- spaces

types_more : (entry : ImportEntry) (entries : List ImportEntry) → types_of (all_named (entry ∷ entries)) ≡ imported_by entry ++ types_of (all_named entries)
types_more entry entries = map-append (λ (x : Named). x.type) (named_by entry) (all_named entries) ∙ ap (λ types. types ++ types_of (all_named entries)) (types_named entry)

pub spaces_by_entries : (k : Spaces) (entries : List ImportEntry) → with_items k (types_of (all_named entries)) ≡ spaces_after_all k (map of_import entries)
spaces_by_entries k [] = refl
spaces_by_entries k (entry ∷ entries) =
    ap (with_items k) (types_more entry entries) ∙ with_more k (imported_by entry) (types_of (all_named entries)) ∙ spaces_by_entries (with_items k (imported_by entry)) entries

-- ---- rules

keep_front : (features : Features) (k : Spaces) (xs ys : List (ExternalType ℕ)) → keep_items features k (xs ++ ys) ≡ true → (keep_items features k xs ≡ true) × (keep_items features (with_items k xs) ys ≡ true)
keep_front features k [] ys h = (refl, h)
keep_front features k (x ∷ xs) ys h =
    let parts = and_parts (keeps_item features k x) (keep_items features (with_item k x) (xs ++ ys)) h in
    let others = keep_front features (with_item k x) xs ys parts.1 in
    (and_from (keeps_item features k x) (keep_items features (with_item k x) xs) parts.0 others.0, others.1)

pub keep_entries : (c : Config) (features : Features) (k : Spaces) (entries : List ImportEntry) → AllByRecursion (IsMadeEntry c) entries
    → keep_items features k (types_of (all_named entries)) ≡ true → KeepAll features k (map of_import entries)
keep_entries c features k [] made keep = tt
keep_entries c features k (entry ∷ entries) made keep =
    let kept = keep_front features k (imported_by entry) (types_of (all_named entries)) (subst (λ items. keep_items features k items ≡ true) (types_more entry entries) keep) in
    ((made.0.some, kept.0), keep_entries c features (with_items k (imported_by entry)) entries made.1 kept.1)

-- ---- the step

true_is_not_false : true ≡ false → ⊥
true_is_not_false e = cc

made_step : (c : Config) (b : ImportBounds) (duplicates : DuplicateImportsBehavior) (start now : Spaces) (progress : Progress) (entries : List ImportEntry)
    → AreMadeSoFar c b duplicates start now progress entries → IsStep c of_import start now entries
made_step c b duplicates start now progress entries h = record {
  keep = λ features f. keep_entries c features start entries h.made (h.added.keep features f);
  known = h.added.spaces ∙ spaces_by_entries start entries;
}

pub imports_grown : (c : Config) (b : ImportBounds) (duplicates : DuplicateImportsBehavior) (start now : Spaces) (s left : List ℕ) (progress : Progress) (entries : List ImportEntry)
    → AreMadeSoFar c b duplicates start now progress entries → c.min_imports ≤ progress.count
    → ((asked_imports c b start s).0 ≡ false → (entries ≡ []) × (left ≡ (asked_imports c b start s).1)) → AreGrownImports c b duplicates start s now left entries
imports_grown c b duplicates start now s left progress entries h enough nothing =
    let count : import_count entries ≡ progress.count = omega (arith, h.count, h.added.count) in
    record {
      step = made_step c b duplicates start now progress entries h;
      bounded = record {
        enough = omega (arith, count, enough);
        few = omega (arith, h.left, h.added.left);
        room = h.added.room;
        size = omega (arith, h.size, h.added.size);
        offered = h.added.offered;
        short = h.added.short;
        made = h.made;
      };
      distinct = λ e. h.added.names.distinct (h.names ∙ e);
      plain = λ e. h.added.plain (h.names ∙ e);
      nothing = nothing;
    }

-- the step ended before as many imports as are owed
pub lacking : (c : Config) (b : ImportBounds) (duplicates : DuplicateImportsBehavior) (start now : Spaces) (progress : Progress) (entries : List ImportEntry) → c.min_imports ≤ c.max_imports
    → AreMadeSoFar c b duplicates start now progress entries → progress.count < c.min_imports → (progress.left ≡ 0) ⊎ (can_import_some c b now ≡ false) → LackImports c b start now
lacking c b duplicates start now progress entries ordered h owed end =
    let count : import_count entries ≡ progress.count = omega (arith, h.count, h.added.count) in
    record {
      entries = entries;
      step = made_step c b duplicates start now progress entries h;
      few = omega (arith, count, owed);
      end = elim end [
        | inl none_left ↦ elim h.added.stopped [
          | inl all ↦ absurd (omega (arith, all, none_left, h.count, h.left, owed, ordered))
          | inr larger ↦ inr (record { item = larger.item; offered = larger.offered; larger = let l = larger.larger in omega (arith, l, h.size, h.added.size) })
        ]
        | inr none_can ↦ inl none_can
      ];
    }

-- either nothing was asked yet, or the first answer was yes
abbrev pub HasBegun : Config → ImportBounds → Spaces → List ℕ → Progress → Spaces → List ℕ → List ImportEntry → Type 0
HasBegun c b start s progress now left entries =
    ((entries ≡ []) × (now ≡ start) × (left ≡ s) × (progress.count ≡ 0) × (progress.left ≡ c.max_imports)) ⊎ ((asked_imports c b start s).0 ≡ true)

pub begins : (c : Config) (b : ImportBounds) (start now : Spaces) (s left t : List ℕ) (progress : Progress) (entries : List ImportEntry) → HasBegun c b start s progress now left entries
    → (progress.count ≡ 0 → progress.left ≡ c.max_imports → asked_imports c b now left ≡ (true, t)) → (asked_imports c b start s).0 ≡ true
begins c b start now s left t progress entries begun first = elim begun [
  | inl none ↦ let same : asked_imports c b start s ≡ (true, t) = rw (sym none.1, sym none.2) (first none.3 none.4) in ap (λ p. p.0) same
  | inr yes_first ↦ yes_first
]

pub ends : (c : Config) (b : ImportBounds) (start now : Spaces) (s left t : List ℕ) (progress : Progress) (entries : List ImportEntry) → HasBegun c b start s progress now left entries
    → (progress.count ≡ 0 → progress.left ≡ c.max_imports → asked_imports c b now left ≡ (false, t)) → (asked_imports c b start s).0 ≡ false → (entries ≡ []) × (t ≡ (asked_imports c b start s).1)
ends c b start now s left t progress entries begun first none_asked = elim begun [
  | inl none ↦ let same : asked_imports c b start s ≡ (false, t) = rw (sym none.1, sym none.2) (first none.3 none.4) in (none.0, sym (ap (λ p. p.1) same))
  | inr yes_first ↦ absurd (true_is_not_false (sym yes_first ∙ none_asked))
]

-- ---- entries that are drawn

pub none_made : (c : Config) (b : ImportBounds) (duplicates : DuplicateImportsBehavior) (k : Spaces) (p : Progress) → p.count ≡ 0 → p.left ≡ c.max_imports → p.size_left ≡ b.type_size → p.names.duplicates ≡ duplicates
    → AreMadeSoFar c b duplicates k k p []
none_made c b duplicates k p count left size names = record { before = p; count = count; left = left; size = size; names = names; added = none_added c b k p; made = tt }

pub more_made : {A : Type 0} (view : A → ImportEntry) (c : Config) (b : ImportBounds) (duplicates : DuplicateImportsBehavior) (k m n : Spaces) (q r : Progress) (xs ys zs : List A) → zs ≡ xs ++ ys
    → AreMadeSoFar c b duplicates k m q (map view xs) → AreAdded c b m n q r (all_named (map view ys)) → AllByRecursion (IsMadeEntry c) (map view ys) → AreMadeSoFar c b duplicates k n r (map view zs)
more_made view c b duplicates k m n q r xs ys zs e h next made =
    let lists : map view zs ≡ map view xs ++ map view ys = ap (map view) e ∙ map-append view xs ys in
    subst (AreMadeSoFar c b duplicates k n r) (sym lists) (record {
      before = h.before;
      count = h.count;
      left = h.left;
      size = h.size;
      names = h.names;
      added =
          subst (AreAdded c b k n h.before r) (sym (flat_map-append named_by (map view xs) (map view ys))) (more_added c b k m n h.before q r (all_named (map view xs)) (all_named (map view ys)) h.added next);
      made = all_append (IsMadeEntry c) (map view xs) (map view ys) h.made made;
    })
