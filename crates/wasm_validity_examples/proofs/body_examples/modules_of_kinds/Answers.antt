use Rattle.std.proofs.Common.{◌≡◌, ◌<◌, ℕ, suc, Bool, true, List, [], ◌∷◌, ◌++◌, length, refl, inr, sym, arith, append-nil}
use Rattle.wasm_spec.specs.Bytes.{AreBytes}
use Rattle.wasm_spec.specs.Features.{Features, CompactImports, has}
use Rattle.wasm_spec.specs.Grammar.{IsModule, IsSection, header}
use Rattle.wasm_spec.specs.ModuleParts.{IsBody}
use Rattle.wasm_spec.specs.Syntax.{Section, TypeSection, FunctionSection, CodeSection}
use Rattle.wasm_spec.specs.TypeGrammar.{IsRecGroup, IsValType}
use Rattle.wasm_spec.specs.Types.{FuncType, RecGroup, Single}
use Rattle.wasm_spec.proofs.Encodings.{small, section, none, one, function_section}
use Rattle.wasm_spec_examples.specs.TypeExamples.{empty_function, final_type, takes}
use Rattle.wasm_validity.specs.Modules.{HasBody, IsBodyPast, IsBrokenBody, IsOtherBody}
use Rattle.wasm_validity.specs.Context.{at_first}
use Rattle.wasm_validity.specs.Entries.{OfBody}
use Rattle.wasm_validity.specs.Rules.{are_within, measures}
use Rattle.wasm_validity_examples.proofs.BodyKinds.{few_locals, many_locals, many_locals_body, no_end, no_other_code, other_code}
use Rattle.wasm_validity_examples.proofs.SmallModules.{no_result_kept, no_result_passes_none}
use Rattle.wasm_validity_examples.proofs.body_examples.modules_of_kinds.Goals as goal

abbrev one_type : RecGroup ℕ
one_type = Single (final_type empty_function)

types : (compact : Bool) → IsSection compact (0x01 ∷ 0x04 ∷ 0x01 ∷ 0x60 ∷ 0x00 ∷ 0x00 ∷ []) (TypeSection (one_type ∷ []))
types compact =
    section compact (0x04 ∷ []) (0x01 ∷ 0x60 ∷ 0x00 ∷ 0x00 ∷ []) (TypeSection (one_type ∷ [])) (small 4 (omega arith))
    (one IsRecGroup (0x60 ∷ 0x00 ∷ 0x00 ∷ []) one_type refl (inr (refl, refl, (0x00 ∷ 0x00 ∷ [], refl, (0x00 ∷ [], 0x00 ∷ [], refl, none IsValType, none IsValType)))))

-- the encoding of a section of one short body
abbrev code_encoding : List ℕ → List ℕ
code_encoding body = 0x0a ∷ suc (suc (length body)) ∷ 0x01 ∷ length body ∷ body

code : (compact : Bool) (body : List ℕ) → length body < 100 → AreBytes body → IsSection compact (code_encoding body) (CodeSection (body ∷ []))
code compact body short bytes =
    section compact (suc (suc (length body)) ∷ []) (0x01 ∷ length body ∷ body) (CodeSection (body ∷ [])) (small (suc (suc (length body))) (omega (arith, short)))
    (one IsBody (length body ∷ body) body (sym (append-nil (length body ∷ body))) (length body ∷ [], body, refl, small (length body) (omega (arith, short)), (bytes, refl)))

abbrev sections_of : List ℕ → List Section
sections_of body = TypeSection (one_type ∷ []) ∷ FunctionSection (0 ∷ []) ∷ CodeSection (body ∷ []) ∷ []

reads : (compact : Bool) (body : List ℕ) → length body < 100 → AreBytes body
    → IsModule compact (header ++ (0x01 ∷ 0x04 ∷ 0x01 ∷ 0x60 ∷ 0x00 ∷ 0x00 ∷ 0x03 ∷ 0x02 ∷ 0x01 ∷ 0x00 ∷ code_encoding body)) (sections_of body)
reads compact body short bytes = record {
  body = 0x01 ∷ 0x04 ∷ 0x01 ∷ 0x60 ∷ 0x00 ∷ 0x00 ∷ 0x03 ∷ 0x02 ∷ 0x01 ∷ 0x00 ∷ code_encoding body;
  begins = refl;
  holds = (
    0x01 ∷ 0x04 ∷ 0x01 ∷ 0x60 ∷ 0x00 ∷ 0x00 ∷ [],
    0x03 ∷ 0x02 ∷ 0x01 ∷ 0x00 ∷ code_encoding body,
    refl,
    types compact,
    (0x03 ∷ 0x02 ∷ 0x01 ∷ 0x00 ∷ [], code_encoding body, refl, function_section compact, (code_encoding body, [], sym (append-nil (code_encoding body)), code compact body short bytes, refl)),
  );
  ordered = (omega arith, (omega arith, (omega arith, tt)));
  agreeing = refl;
  counted = tt;
}

-- a module of one function whose body is short
has_body : (features : Features) (Holds : List Section → FuncType ℕ → List ℕ → Type 0) (body : List ℕ) → length body < 100 → AreBytes body → are_within (measures at_first (OfBody body)) ≡ true
    → Holds (sections_of body) (takes []) body
    → HasBody features Holds (header ++ (0x01 ∷ 0x04 ∷ 0x01 ∷ 0x60 ∷ 0x00 ∷ 0x00 ∷ 0x03 ∷ 0x02 ∷ 0x01 ∷ 0x00 ∷ code_encoding body))
has_body features Holds body short bytes within holds = record {
  sections = sections_of body;
  reads = reads (has features CompactImports) body short bytes;
  fine = record {
    rules = (no_result_kept features _, (refl, (tt, tt)));
    limits = (record { numbers = refl; types = no_result_passes_none [] }, (record { numbers = refl; types = λ limit p. p }, (record { numbers = within; types = λ limit p. p }, tt)));
  };
  some = (0, omega arith, record { index = 0; type = takes []; body = body; indexed = refl; named = refl; has = refl; holds = holds });
}

pub returns : goal.returns
returns c = record {
  broken = λ features. has_body features (IsBrokenBody features) (0x00 ∷ []) (omega arith) (omega arith, tt) refl
      (λ is_below tells. (λ b. no_end features _ (takes []) b, λ m. few_locals features _ (takes []) [] (omega arith) m, λ h. no_other_code features _ (takes []) h));
  past = λ features. has_body features (IsBodyPast features) many_locals_body (omega arith) (omega arith, (omega arith, (omega arith, (omega arith, (omega arith, (omega arith, (omega arith, tt))))))) refl
      (λ is_below tells. many_locals features _ (takes []));
  other = λ features. has_body features (IsOtherBody features) (0x00 ∷ 0xfe ∷ 0x03 ∷ 0x00 ∷ 0x0b ∷ []) (omega arith) (omega arith, (omega arith, (omega arith, (omega arith, (omega arith, tt))))) refl
      (λ is_below tells. other_code features _);
}
