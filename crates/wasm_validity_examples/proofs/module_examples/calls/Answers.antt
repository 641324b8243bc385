use Rattle.std.proofs.Common.{◌≡◌, ℕ, List, [], ◌∷◌, pos, refl, arith, subst, sym}
use Rattle.wasm_bodies.specs.Bodies.{block, done, in_function, simple}
use Rattle.wasm_bodies.specs.Operands.{fresh}
use Rattle.wasm_bodies.specs.OperatorGrammar.{IsOperators}
use Rattle.wasm_bodies.specs.Operators.{Block, Call, Drop, End, I32Const, Value}
use Rattle.wasm_spec.proofs.Encodings.{small}
use Rattle.wasm_spec.specs.Features.{Features}
use Rattle.wasm_spec.specs.Syntax.{CodeSection, FunctionSection, Import, ImportSection, Section, TypeSection, types_of}
use Rattle.wasm_spec.specs.Types.{FuncExternal, I32}
use Rattle.wasm_spec_examples.proofs.SmallOperators.{of_byte, small_s32}
use Rattle.wasm_spec_examples.specs.TypeExamples.{gives, takes}
use Rattle.wasm_validity.specs.ModuleBodies.{BodyAt, items_in}
use Rattle.wasm_validity.specs.Modules.{IsTypedBody}
use Rattle.wasm_validity.specs.Validity.{context_of}
use Rattle.wasm_validity_examples.proofs.ReadBodies.{call_first, only_end}
use Rattle.wasm_validity_examples.proofs.SmallBodies.{IsRest, body_of, end_is, ended, just_end}
use Rattle.wasm_validity_examples.proofs.SmallModules.{a_number_kept, a_number_passes_none, at_one, at_two, begins, both_told, first_read, first_type, no_result_kept, no_result_passes_none}
use Rattle.wasm_validity_examples.specs.ModuleExamples.{a_number, no_result}
use Rattle.wasm_validity_examples.proofs.module_examples.calls.Goals as goal

abbrev two : List ℕ → List Section
two body = TypeSection (no_result ∷ a_number ∷ []) ∷ FunctionSection (0 ∷ 1 ∷ []) ∷ CodeSection (body ∷ (0x00 ∷ 0x41 ∷ 0x07 ∷ 0x0b ∷ []) ∷ []) ∷ []

abbrev importing : ℕ → ℕ → List ℕ → List Section
importing imported own body =
    TypeSection (no_result ∷ a_number ∷ []) ∷ ImportSection (Import [] [] (FuncExternal imported) ∷ []) ∷ FunctionSection (own ∷ []) ∷ CodeSection (body ∷ []) ∷ []

abbrev in_a_block : List Section
in_a_block = two (0x00 ∷ 0x02 ∷ 0x7f ∷ 0x10 ∷ 0x01 ∷ 0x0b ∷ 0x1a ∷ 0x0b ∷ [])

abbrev imported_first : List Section
imported_first = importing 1 0 (0x00 ∷ 0x10 ∷ 0x00 ∷ 0x1a ∷ 0x0b ∷ [])

abbrev imported_without_result : List Section
imported_without_result = importing 0 1 (0x00 ∷ 0x10 ∷ 0x00 ∷ 0x0b ∷ [])

block_is : (features : Features) → IsOperators features (0x02 ∷ 0x7f ∷ 0x10 ∷ 0x01 ∷ 0x0b ∷ 0x1a ∷ 0x0b ∷ []) (Block (Value I32) ∷ Call 1 ∷ End ∷ Drop ∷ End ∷ [])
block_is features = (
  0x02 ∷ 0x7f ∷ [],
  0x10 ∷ 0x01 ∷ 0x0b ∷ 0x1a ∷ 0x0b ∷ [],
  refl,
  of_byte features 0x02 (0x7f ∷ []) (Block (Value I32)) refl (omega arith) refl refl,
  (
    0x10 ∷ 0x01 ∷ [],
    0x0b ∷ 0x1a ∷ 0x0b ∷ [],
    refl,
    of_byte features 0x10 (0x01 ∷ []) (Call 1) refl (omega arith) refl (small 1 (omega arith)),
    (0x0b ∷ [], 0x1a ∷ 0x0b ∷ [], refl, end_is features, (0x1a ∷ [], 0x0b ∷ [], refl, of_byte features 0x1a [] Drop refl (omega arith) refl refl, just_end features)),
  ),
)

number_is : (features : Features) → IsOperators features (0x41 ∷ 0x07 ∷ 0x0b ∷ []) (I32Const (pos 7) ∷ End ∷ [])
number_is features = (0x41 ∷ 0x07 ∷ [], 0x0b ∷ [], refl, of_byte features 0x41 (0x07 ∷ []) (I32Const (pos 7)) refl (omega arith) refl (small_s32 7 (omega arith)), just_end features)

call_is : (features : Features) → IsOperators features (0x10 ∷ 0x00 ∷ 0x1a ∷ 0x0b ∷ []) (Call 0 ∷ Drop ∷ End ∷ [])
call_is features = (
  0x10 ∷ 0x00 ∷ [],
  0x1a ∷ 0x0b ∷ [],
  refl,
  of_byte features 0x10 (0x00 ∷ []) (Call 0) refl (omega arith) refl (small 0 (omega arith)),
  (0x1a ∷ [], 0x0b ∷ [], refl, of_byte features 0x1a [] Drop refl (omega arith) refl refl, just_end features),
)

pub returns : goal.returns
returns c = record {
  in_a_block = λ features. record {
    fine = record { rules = (no_result_kept features _, (a_number_kept features _, (refl, (refl, (tt, (tt, tt)))))); limits = (record { numbers = refl; types = no_result_passes_none [] }, (record { numbers = refl; types = a_number_passes_none (first_type ∷ []) }, (record { numbers = refl; types = λ limit p. p }, (record { numbers = refl; types = λ limit p. p }, (record { numbers = refl; types = λ limit p. p }, (record { numbers = refl; types = λ limit p. p }, tt)))))) };
    bodies = at_two (BodyAt (IsTypedBody features in_a_block) in_a_block)
        (record {
          index = 0;
          type = takes [];
          body = 0x00 ∷ 0x02 ∷ 0x7f ∷ 0x10 ∷ 0x01 ∷ 0x0b ∷ 0x1a ∷ 0x0b ∷ [];
          indexed = refl;
          named = refl;
          has = refl;
          holds = λ is_below tells. body_of features _ (takes []) (block (Value I32) (simple (Call 1) done) (simple Drop done)) (0x02 ∷ 0x7f ∷ 0x10 ∷ 0x01 ∷ 0x0b ∷ 0x1a ∷ 0x0b ∷ []) (omega arith) (block_is features) (rw ((tells I32 I32).1 tt) refl);
        })
        (record {
          index = 1;
          type = gives (I32 ∷ []);
          body = 0x00 ∷ 0x41 ∷ 0x07 ∷ 0x0b ∷ [];
          indexed = refl;
          named = refl;
          has = refl;
          holds = λ is_below tells. body_of features _ (gives (I32 ∷ [])) (simple (I32Const (pos 7)) done) (0x41 ∷ 0x07 ∷ 0x0b ∷ []) (omega arith) (number_is features) (rw ((tells I32 I32).1 tt) refl);
        });
  };
  no_function = λ features v.
      let r = first_read features (two (0x00 ∷ 0x10 ∷ 0x02 ∷ 0x0b ∷ [])) 0 (takes []) (0x10 ∷ 0x02 ∷ 0x0b ∷ []) both_told v (omega arith) refl refl refl in
      let f = call_first features 2 (0x0b ∷ []) r.read.operators (omega arith) r.read.spelled in
      let s = begins features _ (takes []) (0x10 ∷ 0x02 ∷ 0x0b ∷ []) r.read (Call 2) f.0 f.1 refl in
      let e = s.1 in
      absurd cc;
  imported_first = λ features. record {
    fine = record { rules = (no_result_kept features _, (a_number_kept features _, (refl, (refl, (tt, tt))))); limits = (record { numbers = refl; types = no_result_passes_none [] }, (record { numbers = refl; types = a_number_passes_none (first_type ∷ []) }, (record { numbers = refl; types = λ limit p. p }, (record { numbers = refl; types = λ limit p. p }, (record { numbers = refl; types = λ limit p. p }, tt))))) };
    bodies = at_one (BodyAt (IsTypedBody features imported_first) imported_first)
        (record {
          index = 0;
          type = takes [];
          body = 0x00 ∷ 0x10 ∷ 0x00 ∷ 0x1a ∷ 0x0b ∷ [];
          indexed = refl;
          named = refl;
          has = refl;
          holds = λ is_below tells. body_of features _ (takes []) (simple (Call 0) (simple Drop done)) (0x10 ∷ 0x00 ∷ 0x1a ∷ 0x0b ∷ []) (omega arith) (call_is features) refl;
        });
  };
  imported_without_result = λ features v.
      let r = first_read features imported_without_result 1 (gives (I32 ∷ [])) (0x10 ∷ 0x00 ∷ 0x0b ∷ []) both_told v (omega arith) refl refl refl in
      let cx = in_function features (items_in (types_of imported_without_result) (context_of imported_without_result) r.is_below) (gives (I32 ∷ [])) r.read.runs in
      let f = call_first features 0 (0x0b ∷ []) r.read.operators (omega arith) r.read.spelled in
      let s = begins features _ (gives (I32 ∷ [])) (0x10 ∷ 0x00 ∷ 0x0b ∷ []) r.read (Call 0) f.0 f.1 refl in
      let m : fresh [] [] ≡ s.0 = cc s.1 in
      let e = ended cx (fresh [] []) (subst (λ l. IsRest cx l (End ∷ [])) (sym m) (subst (λ l. IsRest cx s.0 l) (only_end features f.0 f.2) s.2)) in
      absurd cc;
}
