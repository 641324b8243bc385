use Rattle.std.proofs.Common.{◌≡◌, ℕ, List, [], ◌∷◌, refl, ap, arith, subst, sym, unwrap_or}
use Rattle.wasm_bodies.specs.Bodies.{IsFunctionBody, in_function}
use Rattle.wasm_bodies.specs.Operands.{fresh}
use Rattle.wasm_spec.specs.Syntax.{Section, types_of}
use Rattle.wasm_spec.specs.Types.{I32}
use Rattle.wasm_spec_examples.specs.TypeExamples.{gives, takes}
use Rattle.wasm_validity.specs.ModuleBodies.{BodyAt, items_in}
use Rattle.wasm_validity.specs.Modules.{IsTypedBody}
use Rattle.wasm_validity.specs.Validity.{context_of}
use Rattle.wasm_validity_examples.proofs.ReadBodies.{no_operators, only_end}
use Rattle.wasm_validity_examples.proofs.SmallBodies.{IsRest, empty_body, ended, some_operator, unreachable_body}
use Rattle.wasm_validity_examples.proofs.SmallModules.{at_one, first_read, first_told, no_body, no_result_kept, no_result_passes_none, number_told}
use Rattle.wasm_validity_examples.proofs.Telling.{telling}
use Rattle.wasm_validity_examples.specs.ModuleExamples.{a_number, no_result, one_function}
use Rattle.wasm_validity_examples.proofs.module_examples.one_function.Goals as goal

abbrev with_body : List ℕ → List Section
with_body body = one_function (no_result ∷ []) 0 body

pub returns : goal.returns
returns c = record {
  valid = λ features. record {
    fine = record {
      rules = (no_result_kept features _, (refl, (tt, tt)));
      limits = (record { numbers = refl; types = no_result_passes_none [] }, (record { numbers = refl; types = λ limit p. p }, (record { numbers = refl; types = λ limit p. p }, tt)));
    };
    bodies = at_one (BodyAt (IsTypedBody features (with_body (0x00 ∷ 0x00 ∷ 0x0b ∷ []))) (with_body (0x00 ∷ 0x00 ∷ 0x0b ∷ []))) (record {
      index = 0;
      type = takes [];
      body = 0x00 ∷ 0x00 ∷ 0x0b ∷ [];
      indexed = refl;
      named = refl;
      has = refl;
      holds = λ is_below tells. unreachable_body features _ (takes []) (omega arith);
    });
  };
  empty = λ features. record {
    fine = record {
      rules = (no_result_kept features _, (refl, (tt, tt)));
      limits = (record { numbers = refl; types = no_result_passes_none [] }, (record { numbers = refl; types = λ limit p. p }, (record { numbers = refl; types = λ limit p. p }, tt)));
    };
    bodies = at_one (BodyAt (IsTypedBody features (with_body (0x00 ∷ 0x0b ∷ []))) (with_body (0x00 ∷ 0x0b ∷ []))) (record {
      index = 0;
      type = takes [];
      body = 0x00 ∷ 0x0b ∷ [];
      indexed = refl;
      named = refl;
      has = refl;
      holds = λ is_below tells. empty_body features _;
    });
  };
  no_type = λ features index body v. let f = v.fine.rules.0 in absurd cc;
  other_type = λ features body v. let f = v.fine.rules.1.0 in absurd cc;
  no_body = λ features v.
      let b = v.bodies 0 (omega arith) in
      let empty : b.body ≡ [] = sym (ap (λ o. unwrap_or o []) b.has) in
      let t = telling (context_of (with_body [])) first_told in
      let items = items_in (types_of (with_body [])) (context_of (with_body [])) t.0 in
      no_body features items b.type (subst (λ bytes. IsFunctionBody features items b.type bytes) empty (b.holds t.0 t.1));
  no_end = λ features v.
      let sections = with_body (0x00 ∷ []) in
      let r = first_read features sections 0 (takes []) [] first_told v (omega arith) refl refl refl in
      let cx = in_function features (items_in (types_of sections) (context_of sections) r.is_below) (takes []) r.read.runs in
      some_operator cx (fresh [] []) (subst (λ l. IsRest cx (fresh [] []) l) (no_operators features r.read.operators r.read.spelled) r.read.rest);
  without_result = λ features v.
      let sections = one_function (a_number ∷ []) 0 (0x00 ∷ 0x0b ∷ []) in
      let r = first_read features sections 0 (gives (I32 ∷ [])) (0x0b ∷ []) number_told v (omega arith) refl refl refl in
      let cx = in_function features (items_in (types_of sections) (context_of sections) r.is_below) (gives (I32 ∷ [])) r.read.runs in
      let e = ended cx (fresh [] []) (subst (λ l. IsRest cx (fresh [] []) l) (only_end features r.read.operators r.read.spelled) r.read.rest) in
      absurd cc;
}
