use Rattle.std.proofs.Common.{ℕ, List, [], ◌∷◌, refl, arith}
use Rattle.wasm_bodies.specs.Bodies.{done, simple}
use Rattle.wasm_bodies.specs.OperatorGrammar.{IsOperators}
use Rattle.wasm_bodies.specs.Operators.{End, GlobalGet}
use Rattle.wasm_spec.proofs.Encodings.{small}
use Rattle.wasm_spec.specs.Features.{Features}
use Rattle.wasm_spec.specs.Syntax.{CodeSection, FunctionSection, Import, ImportSection, Section, TypeSection}
use Rattle.wasm_spec.specs.Types.{GlobalExternal, I32}
use Rattle.wasm_spec_examples.proofs.SmallOperators.{of_byte}
use Rattle.wasm_spec_examples.specs.TypeExamples.{gives}
use Rattle.wasm_validity.specs.ModuleBodies.{BodyAt}
use Rattle.wasm_validity.specs.Modules.{IsTypedBody}
use Rattle.wasm_validity_examples.proofs.ReadBodies.{global_get_first}
use Rattle.wasm_validity_examples.proofs.SmallBodies.{body_of, just_end}
use Rattle.wasm_validity_examples.proofs.SmallModules.{a_number_kept, a_number_passes_none, at_one, begins, first_read, number_told}
use Rattle.wasm_validity_examples.specs.ModuleExamples.{a_number}
use Rattle.wasm_validity_examples.specs.Examples.{constant}
use Rattle.wasm_validity_examples.proofs.module_examples.globals.Goals as goal

abbrev importing : List ℕ → List Section
importing body = TypeSection (a_number ∷ []) ∷ ImportSection (Import [] [] (GlobalExternal (constant I32)) ∷ []) ∷ FunctionSection (0 ∷ []) ∷ CodeSection (body ∷ []) ∷ []

abbrev imported : List Section
imported = importing (0x00 ∷ 0x23 ∷ 0x00 ∷ 0x0b ∷ [])

global_is : (features : Features) → IsOperators features (0x23 ∷ 0x00 ∷ 0x0b ∷ []) (GlobalGet 0 ∷ End ∷ [])
global_is features = (0x23 ∷ 0x00 ∷ [], 0x0b ∷ [], refl, of_byte features 0x23 (0x00 ∷ []) (GlobalGet 0) refl (omega arith) refl (small 0 (omega arith)), just_end features)

pub returns : goal.returns
returns c = record {
  imported = λ features. record {
    fine = record { rules = (a_number_kept features _, (refl, (refl, (tt, tt)))); limits = (record { numbers = refl; types = a_number_passes_none [] }, (record { numbers = refl; types = λ limit p. p }, (record { numbers = refl; types = λ limit p. p }, (record { numbers = refl; types = λ limit p. p }, tt)))) };
    bodies = at_one (BodyAt (IsTypedBody features imported) imported)
        (record {
          index = 0;
          type = gives (I32 ∷ []);
          body = 0x00 ∷ 0x23 ∷ 0x00 ∷ 0x0b ∷ [];
          indexed = refl;
          named = refl;
          has = refl;
          holds = λ is_below tells. body_of features _ (gives (I32 ∷ [])) (simple (GlobalGet 0) done) (0x23 ∷ 0x00 ∷ 0x0b ∷ []) (omega arith) (global_is features) (rw ((tells I32 I32).1 tt) refl);
        });
  };
  missing = λ features v.
      let r = first_read features (importing (0x00 ∷ 0x23 ∷ 0x01 ∷ 0x0b ∷ [])) 0 (gives (I32 ∷ [])) (0x23 ∷ 0x01 ∷ 0x0b ∷ []) number_told v (omega arith) refl refl refl in
      let f = global_get_first features 1 (0x0b ∷ []) r.read.operators (omega arith) r.read.spelled in
      let s = begins features _ (gives (I32 ∷ [])) (0x23 ∷ 0x01 ∷ 0x0b ∷ []) r.read (GlobalGet 1) f.0 f.1 refl in
      let e = s.1 in
      absurd cc;
}
