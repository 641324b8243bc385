-- Items that are asked for, and then items that are drawn: both are one step, and there are so many of them.
use Rattle.std.proofs.Common.{◌≡◌, ℕ, ◌+◌, ◌≤◌, List, [], ◌∷◌, ◌++◌, map, length, length-append, refl, ap, sym, ◌∙◌, subst, arith, max}
use Rattle.std.proofs.lemmas.List.{length-map, map-append}
use Rattle.wasm_spec.specs.Syntax.{Global, Table}
use Rattle.wasm_spec.specs.Types.{MemoryType}
use Rattle.wasm_validity.specs.Entries.{Entry, OfFunction, OfTag}
use Rattle.wasm_smith_config.specs.declared.config.Config.{Config}
use Rattle.wasm_smith_validity.specs.Rules.{KeepAll}
use Rattle.wasm_smith_validity.specs.Spaces.{Spaces, functions_of, globals_of, spaces_after, spaces_after_all}
use Rattle.wasm_smith_definitions.specs.Kinds.{of_global, of_memory, of_table}
use Rattle.wasm_smith_definitions.specs.Steps.{IsStep, Wanted, IsGrown, IsFilled}
use Rattle.wasm_smith_definitions.proofs.SpaceLaws.{one_more_global}
use Rattle.wasm_smith_definitions.proofs.StepLaws.{keep_append, known_append}

pub both_steps : {A : Type 0} (c : Config) (entry : A → Entry) (old between new : Spaces) (own drawn : List A) → IsStep c entry old between own → IsStep c entry between new drawn → IsStep c entry old new (own ++ drawn)
both_steps c entry old between new own drawn first second = record {
  keep = λ features f. subst (KeepAll features old) (sym (map-append entry own drawn))
      (keep_append features old (map entry own) (map entry drawn) (first.keep features f) (subst (λ k. KeepAll features k (map entry drawn)) first.known (second.keep features f)));
  known = second.known ∙ ap (λ k. spaces_after_all k (map entry drawn)) first.known ∙ sym (ap (spaces_after_all old) (map-append entry own drawn) ∙ known_append old (map entry own) (map entry drawn));
}

-- ---- how many there are

count_all : {A : Type 0} (entry : A → Entry) (count : Spaces → ℕ) → ((k : Spaces) (x : A) → count (spaces_after k (entry x)) ≡ count k + 1) → (k : Spaces) (xs : List A) → count (spaces_after_all k (map entry xs)) ≡ count k + length xs
count_all entry count one k [] = omega arith
count_all entry count one k (x ∷ xs) = let others = count_all entry count one (spaces_after k (entry x)) xs in omega (arith, others, one k x)

-- where each item counts one
pub step_counts : {A : Type 0} (c : Config) (entry : A → Entry) (count : Spaces → ℕ) (old new : Spaces) (xs : List A) → ((k : Spaces) (x : A) → count (spaces_after k (entry x)) ≡ count k + 1) → IsStep c entry old new xs
    → count new ≡ count old + length xs
step_counts c entry count old new xs one h = ap count h.known ∙ count_all entry count one old xs

pub one_table : (k : Spaces) (table : Table) → length (spaces_after k (of_table table)).tables ≡ length k.tables + 1
one_table k table = length-append k.tables (table.type ∷ [])

pub one_memory : (k : Spaces) (type : MemoryType) → length (spaces_after k (of_memory type)).memories ≡ length k.memories + 1
one_memory k type = length-append k.memories (type ∷ [])

pub one_global : (k : Spaces) (global : Global) → length (globals_of (spaces_after k (of_global global))) ≡ length (globals_of k) + 1
one_global k global = one_more_global k global.type

pub one_function : (k : Spaces) (function : ℕ) → length (functions_of (spaces_after k (OfFunction function))) ≡ length (functions_of k) + 1
one_function k function = simp length-append (omega arith)

pub one_tag : (k : Spaces) (function : ℕ) → length (spaces_after k (OfTag function)).tags ≡ length k.tags + 1
one_tag k function = length-append k.tags (function ∷ [])

pub tables_count : (c : Config) (old new : Spaces) (xs : List Table) → IsStep c of_table old new xs → length new.tables ≡ length old.tables + length xs
tables_count c old new xs h = step_counts c of_table (λ k. length k.tables) old new xs one_table h

pub memories_count : (c : Config) (old new : Spaces) (xs : List MemoryType) → IsStep c of_memory old new xs → length new.memories ≡ length old.memories + length xs
memories_count c old new xs h = step_counts c of_memory (λ k. length k.memories) old new xs one_memory h

pub globals_count : (c : Config) (old new : Spaces) (xs : List Global) → IsStep c of_global old new xs → length (globals_of new) ≡ length (globals_of old) + length xs
globals_count c old new xs h = step_counts c of_global (λ k. length (globals_of k)) old new xs one_global h

pub functions_count : (c : Config) (old new : Spaces) (xs : List ℕ) → IsStep c (λ function. OfFunction function) old new xs → length (functions_of new) ≡ length (functions_of old) + length xs
functions_count c old new xs h = step_counts c (λ function. OfFunction function) (λ k. length (functions_of k)) old new xs one_function h

pub tags_count : (c : Config) (old new : Spaces) (xs : List ℕ) → IsStep c (λ function. OfTag function) old new xs → length new.tags ≡ length old.tags + length xs
tags_count c old new xs h = step_counts c (λ function. OfTag function) (λ k. length k.tags) old new xs one_tag h

-- ---- items that are asked for, and then items that are drawn

none_made : {A B : Type 0} (type : A → B) (xs : List A) → map type xs ≡ [] → xs ≡ []
none_made type [] e = refl
none_made type (x ∷ xs) e = absurd cc

module _ {A B : Type 0} (c : Config) (wanted : Wanted) (entry : A → Entry) (Bound : A → Type 0) (type : A → B) (types : List B) (old : Spaces) (s : List ℕ) (new : Spaces) (left : List ℕ) (items : List A) where
  pub filled_step : IsFilled c wanted entry Bound type types old s new left items → IsStep c entry old new items
  filled_step h = subst (IsStep c entry old new) (sym h.parts) (both_steps c entry old h.between new h.own h.drawn h.first h.grown.step)

  -- where nothing is asked for
  pub filled_alone : IsFilled c wanted entry Bound type types old s new left items → types ≡ [] → IsGrown c wanted entry Bound old s new left items
  filled_alone h none =
      let no_own : h.own ≡ [] = none_made type h.own (h.are ∙ none) in
      let start : h.between ≡ old = h.first.known ∙ ap (λ xs. spaces_after_all old (map entry xs)) no_own in
      let all : items ≡ h.drawn = h.parts ∙ ap (λ xs. xs ++ h.drawn) no_own in
      subst (λ k. IsGrown c wanted entry Bound k s new left items) start
      (subst (λ t. IsGrown c wanted entry Bound h.between t new left items) (h.alone none) (subst (IsGrown c wanted entry Bound h.between h.after new left) (sym all) h.grown))

  -- there are at most as many as the maximum, or as those before and those that are asked for
  pub filled_few : IsFilled c wanted entry Bound type types old s new left items → ((k : Spaces) (x : A) → wanted.count (spaces_after k (entry x)) ≡ wanted.count k + 1) → wanted.count new ≤ max wanted.most (wanted.count old + length types)
  filled_few h one =
      let own = step_counts c entry wanted.count old h.between h.own one h.first in
      let as_many : length h.own ≡ length types = sym (length-map h.own type) ∙ ap length h.are in
      let few = h.grown.few in
      omega (arith, own, as_many, few)

-- where nothing is asked for, what grows is filled
pub grown_filled : {A B : Type 0} (c : Config) (wanted : Wanted) (entry : A → Entry) (Bound : A → Type 0) (type : A → B) (old : Spaces) (s : List ℕ) (new : Spaces) (left : List ℕ) (items : List A)
    → IsGrown c wanted entry Bound old s new left items → IsFilled c wanted entry Bound type [] old s new left items
grown_filled c wanted entry Bound type old s new left items h = record {
  own = [];
  drawn = items;
  parts = refl;
  between = old;
  after = s;
  are = refl;
  first = record { keep = λ features f. tt; known = refl };
  grown = h;
  alone = λ none. refl;
}
