-- Items of a list that are judged one by one, and whose functions are declared.
use Rattle.std.proofs.Common.{◌≡◌, ℕ, Bool, true, false, List, [], ◌∷◌, Some, refl, sym, ap, subst, ◌∙◌}
use Rattle.std.specs.Prelude.{◌||◌, nat_eq}
use Rattle.std.specs.List.{AllByRecursion, flat_map, list_any}
use Rattle.wasm_core_read.specs.Reading.{ReadingOf}
use Rattle.wasm_core_read.proofs.Forms.{some_is}
use Rattle.wasmparser_readers.specs.Sections.{Left, left_items, IsEmpty, IsNext}
use Rattle.wasmparser_readers.proofs.SectionLaws.{none_left}
use Rattle.wasm_validity.specs.Context.{with_functions}
use Rattle.wasmparser_module_state.proofs.DeclaredLaws.{in_turn}
use Rattle.wasmparser_module_state.proofs.ReadItems.{AreJudged, split}
use Rattle.wasmparser_module_state.specs.Judging.{MayDeclare}

-- Some items were read and judged, and their functions declared: with those of the items that are left as many are declared as with all.
pub record AreDeclared {A : Type 0} (item_at : ReadingOf A) (Holds : A → Type 0) (named : A → List ℕ) (all : List A) (first now : ℕ → Bool) (left : Left) : Type 0 where
  pub judged : AreJudged item_at Holds all left
  pub sets : with_functions now (flat_map named judged.rest) ≡ with_functions first (flat_map named all)
  pub kept : (function : ℕ) → first function ≡ true → now function ≡ true

-- what is declared stays so
pub still : (any was : Bool) → was ≡ true → (any || was) ≡ true
still true was is = refl
still false was is = is

module _ {A : Type 0} (item_at : ReadingOf A) (Holds : A → Type 0) (named : A → List ℕ) (all : List A) (first : ℕ → Bool) where
  pub none_declared : (left : Left) → left_items (λ _. item_at) left ≡ Some all → AreDeclared item_at Holds named all first first left
  none_declared left reads = record { judged = record { rest = all; reads = reads; to = λ h. h; back = λ h. h }; sets = refl; kept = λ _ is. is }

  pub one_declared : (now new : ℕ → Bool) (left next : Left) (offset : ℕ) (item : A) → AreDeclared item_at Holds named all first now left → IsNext (λ _. item_at) left next offset item → Holds item
      → new ≡ with_functions now (named item) → AreDeclared item_at Holds named all first new next
  one_declared now new left next offset item so is holds added =
      let p = split item_at left next offset item so.judged.rest so.judged.reads is in
      record {
        judged = record {
          rest = p.others;
          reads = p.reads;
          to = λ h. (subst (AllByRecursion Holds) p.is (so.judged.to h)).1;
          back = λ h. so.judged.back (subst (AllByRecursion Holds) (sym p.is) (holds, h));
        };
        sets = ap (λ set. with_functions set (flat_map named p.others)) added ∙ in_turn now (named item) (flat_map named p.others)
            ∙ ap (λ items. with_functions now (flat_map named items)) (sym p.is) ∙ so.sets;
        kept = λ function is. ap (λ (set : ℕ → Bool). set function) added ∙ still (list_any (nat_eq function) (named item)) (now function) (so.kept function is);
      }

  pub all_declared : (now : ℕ → Bool) (left : Left) → AreDeclared item_at Holds named all first now left → IsEmpty left → now ≡ with_functions first (flat_map named all)
  all_declared now left so empty =
      let none : [] ≡ so.judged.rest = some_is [] so.judged.rest (sym (none_left (λ _. item_at) left empty) ∙ so.judged.reads) in
      subst (λ rest. with_functions now (flat_map named rest) ≡ with_functions first (flat_map named all)) (sym none) so.sets

  pub may_declare : (now : ℕ → Bool) (left : Left) → AreDeclared item_at Holds named all first now left → MayDeclare (flat_map named all) first now
  may_declare now left so = record {
    kept = so.kept;
    named = λ function is. ap (λ (set : ℕ → Bool). set function) (sym so.sets) ∙ still (list_any (nat_eq function) (flat_map named so.judged.rest)) (now function) is;
  }

-- functions that are items themselves
pub each_alone : (functions : List ℕ) → flat_map (λ function. function ∷ []) functions ≡ functions
each_alone [] = refl
each_alone (function ∷ functions) = ap (λ others. function ∷ others) (each_alone functions)
