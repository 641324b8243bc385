use Rattle.std.proofs.Common.{ℕ, List, [], ◌∷◌, refl, arith, subst}
use Rattle.wasm_bodies.specs.Bodies.{in_function}
use Rattle.wasm_bodies.specs.Operands.{fresh}
use Rattle.wasm_spec.specs.Syntax.{CodeSection, FunctionSection, Section, TypeSection, types_of}
use Rattle.wasm_spec.specs.Types.{I32}
use Rattle.wasm_spec_examples.specs.TypeExamples.{gives, takes}
use Rattle.wasm_validity.specs.ModuleBodies.{BodyAt, items_in}
use Rattle.wasm_validity.specs.Modules.{IsTypedBody}
use Rattle.wasm_validity.specs.Validity.{context_of}
use Rattle.wasm_validity_examples.proofs.ReadBodies.{only_end}
use Rattle.wasm_validity_examples.proofs.SmallBodies.{IsRest, empty_body, ended, unreachable_body}
use Rattle.wasm_validity_examples.proofs.SmallModules.{a_number_kept, a_number_passes_none, at_two, both_told, first_read, first_type, no_result_kept, no_result_passes_none}
use Rattle.wasm_validity_examples.specs.ModuleExamples.{a_number, no_result}
use Rattle.wasm_validity_examples.proofs.module_examples.types_by_index.Goals as goal

abbrev with_bodies : List ℕ → List ℕ → List Section
with_bodies first second = TypeSection (no_result ∷ a_number ∷ []) ∷ FunctionSection (1 ∷ 0 ∷ []) ∷ CodeSection (first ∷ second ∷ []) ∷ []

abbrev named : List Section
named = with_bodies (0x00 ∷ 0x00 ∷ 0x0b ∷ []) (0x00 ∷ 0x0b ∷ [])

abbrev swapped : List Section
swapped = with_bodies (0x00 ∷ 0x0b ∷ []) (0x00 ∷ 0x00 ∷ 0x0b ∷ [])

pub returns : goal.returns
returns c = record {
  named = λ features. record {
    fine = record { rules = (no_result_kept features _, (a_number_kept features _, (refl, (refl, (tt, (tt, tt)))))); limits = (record { numbers = refl; types = no_result_passes_none [] }, (record { numbers = refl; types = a_number_passes_none (first_type ∷ []) }, (record { numbers = refl; types = λ limit p. p }, (record { numbers = refl; types = λ limit p. p }, (record { numbers = refl; types = λ limit p. p }, (record { numbers = refl; types = λ limit p. p }, tt)))))) };
    bodies = at_two (BodyAt (IsTypedBody features named) named)
        (record {
          index = 1;
          type = gives (I32 ∷ []);
          body = 0x00 ∷ 0x00 ∷ 0x0b ∷ [];
          indexed = refl;
          named = refl;
          has = refl;
          holds = λ is_below tells. unreachable_body features _ (gives (I32 ∷ [])) (omega arith);
        })
        (record {
          index = 0;
          type = takes [];
          body = 0x00 ∷ 0x0b ∷ [];
          indexed = refl;
          named = refl;
          has = refl;
          holds = λ is_below tells. empty_body features _;
        });
  };
  swapped = λ features v.
      let r = first_read features swapped 1 (gives (I32 ∷ [])) (0x0b ∷ []) both_told v (omega arith) refl refl refl in
      let cx = in_function features (items_in (types_of swapped) (context_of swapped) r.is_below) (gives (I32 ∷ [])) r.read.runs in
      let e = ended cx (fresh [] []) (subst (λ l. IsRest cx (fresh [] []) l) (only_end features r.read.operators r.read.spelled) r.read.rest) in
      absurd cc;
}
