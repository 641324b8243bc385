-- Tests that tell which types are below which are one.
use Rattle.std.proofs.Common.{◌≡◌, Bool, true, false, List, refl, sym, subst}
use Rattle.std.proofs.Math.Path.{fun_ext}
use Rattle.std.specs.Prelude.{ℕ, IsTrue, ◌↔◌}
use Rattle.wasm_bodies.specs.BodyContext.{ModuleItems}
use Rattle.wasm_spec.specs.Syntax.{Section, types_of}
use Rattle.wasm_spec.specs.Types.{SubType}
use Rattle.wasm_validity.specs.ModuleBodies.{Below, OfItems, TellsBelow, items_in}
use Rattle.wasm_validity.specs.Context.{Context}
use Rattle.wasm_validity.specs.Validity.{context_of}

same_truth : (A : Type 0) (p q : Bool) → IsTrue p ↔ A → IsTrue q ↔ A → p ≡ q
same_truth A true q first second = sym (second.1 (first.0 refl))
same_truth A false true first second = first.1 (second.0 refl)
same_truth A false false first second = refl

pub tests_are_one : (cx : Context) (a b : Below) → TellsBelow cx a → TellsBelow cx b → a ≡ b
tests_are_one cx a b first second = fun_ext (λ type. fun_ext (λ other. same_truth _ (a type other) (b type other) (first type other) (second type other)))

-- what holds of the items by one test holds of them by another
pub by_either : (Holds : ModuleItems ℕ → Type 0) (types : List (SubType ℕ)) (cx : Context) (a b : Below) → TellsBelow cx a → TellsBelow cx b → Holds (items_in types cx a) ↔ Holds (items_in types cx b)
by_either Holds types cx a b first second =
    let same = tests_are_one cx a b first second in (
      (λ holds. subst (λ (test : Below). Holds (items_in types cx test)) same holds),
      (λ holds. subst (λ (test : Below). Holds (items_in types cx test)) (sym same) holds),
    )

-- and by all
pub by_all : (Holds : ModuleItems ℕ → Type 0) (sections : List Section) (is_below : Below) → TellsBelow (context_of sections) is_below
    → OfItems sections Holds ↔ Holds (items_in (types_of sections) (context_of sections) is_below)
by_all Holds sections is_below tells =
    (λ all. all is_below tells, λ holds other also. (by_either Holds (types_of sections) (context_of sections) is_below other tells also).0 holds)
