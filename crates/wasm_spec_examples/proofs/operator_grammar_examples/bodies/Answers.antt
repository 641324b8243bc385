use Rattle.std.proofs.Common.{◌≡◌, ◌<◌, ℕ, true, false, is_some, List, [], ◌∷◌, ◌++◌, length, refl, arith, ap, sym, ◌∙◌, inl, inr}
use Rattle.std.specs.List.{AllByRecursion}
use Rattle.wasm_bodies.specs.Bodies.{Code, IsRun, IsWritten, Run, block, done, flat, if_else, if_then, in_function, loop, simple}
use Rattle.wasm_bodies.specs.BodyContext.{written}
use Rattle.wasm_bodies.specs.Operands.{fresh, nothing_known}
use Rattle.wasm_bodies.specs.OperatorRows.{Byte}
use Rattle.wasm_bodies.specs.Operators.{Drop, End, LocalGet, Unreachable}
use Rattle.wasm_bodies.proofs.Judging.{is_kept}
use Rattle.wasm_spec.proofs.Encodings.{small}
use Rattle.wasm_spec.proofs.WrongEncodings.{heads, joined, number_is}
use Rattle.wasm_spec.specs.Bytes.{IsItems}
use Rattle.wasm_spec.specs.Features.{Features, Floats, default_features, has}
use Rattle.wasm_spec.specs.TypeGrammar.{IsValType, heap_code}
use Rattle.wasm_spec.specs.Types.{AbstractHeapType, Func, Extern, Any, None, NoExtern, NoFunc, Eq, Struct, Array, I31, Exn, NoExn, Cont, NoCont, Abstract, Concrete, ValType, I32, I64, F32, F64, V128, Ref}
use Rattle.wasm_spec_examples.specs.BodyExamples.{module_items, run_of, straight}
use Rattle.wasm_spec_examples.specs.TypeExamples.{takes}
use Rattle.wasm_spec_examples.proofs.SmallBodies.{end, no_locals, unreachable, unreachable_body}
use Rattle.wasm_spec_examples.proofs.SmallOperators.{of_byte}
use Rattle.wasm_spec_examples.proofs.operator_grammar_examples.bodies.Goals as goal

pub returns-clause-unreachable : goal.returns-clause-unreachable
returns-clause-unreachable c = record {
  runs = [];
  operators = Unreachable ∷ End ∷ [];
  locals_encoding = 0x00 ∷ [];
  code_encoding = 0x00 ∷ 0x0b ∷ [];
  begins = refl;
  locals = no_locals;
  spelled = (0x00 ∷ [], 0x0b ∷ [], refl, unreachable, (0x0b ∷ [], [], refl, end, refl));
  typed = unreachable_body;
}

pub returns-clause-with_locals : goal.returns-clause-with_locals
returns-clause-with_locals c = record {
  runs = run_of 2 I32 ∷ [];
  operators = LocalGet 1 ∷ Drop ∷ End ∷ [];
  locals_encoding = 0x01 ∷ 0x02 ∷ 0x7f ∷ [];
  code_encoding = 0x20 ∷ 0x01 ∷ 0x1a ∷ 0x0b ∷ [];
  begins = refl;
  locals = record {
    declared = (0x01 ∷ [], 0x02 ∷ 0x7f ∷ [], refl, small 1 (omega arith), (0x02 ∷ 0x7f ∷ [], [], refl, (0x02 ∷ [], 0x7f ∷ [], refl, small 2 (omega arith), refl), refl));
    written = (refl, tt);
    within = λ h. omega (arith, h);
  };
  spelled = (
    0x20 ∷ 0x01 ∷ [],
    0x1a ∷ 0x0b ∷ [],
    refl,
    of_byte default_features 0x20 (0x01 ∷ []) (LocalGet 1) refl (omega arith) refl (small 1 (omega arith)),
    (0x1a ∷ [], 0x0b ∷ [], refl, of_byte default_features 0x1a [] Drop refl (omega arith) refl refl, (0x0b ∷ [], [], refl, end, refl)),
  );
  typed = record {
    code = straight (LocalGet 1 ∷ Drop ∷ []);
    is_flat = refl;
    typed = is_kept (in_function default_features module_items (takes []) (run_of 2 I32 ∷ [])) (straight (LocalGet 1 ∷ Drop ∷ [])) refl;
  };
}

pub returns-clause-many_locals : goal.returns-clause-many_locals
returns-clause-many_locals c = λ features type. record {
  stated = 1;
  runs = run_of 50001 I32 ∷ [];
  count_encoding = 0x01 ∷ [];
  runs_encoding = 0xd1 ∷ 0x86 ∷ 0x03 ∷ 0x7f ∷ [];
  rest = 0x00 ∷ 0x0b ∷ [];
  begins = refl;
  counted = small 1 (omega arith);
  among = omega arith;
  declared = (
    0xd1 ∷ 0x86 ∷ 0x03 ∷ 0x7f ∷ [],
    [],
    refl,
    (0xd1 ∷ 0x86 ∷ 0x03 ∷ [], 0x7f ∷ [], refl, (omega arith, omega arith, omega arith, 390, refl, (omega arith, omega arith, omega arith, 3, refl, (omega arith, omega arith, refl))), refl),
    refl,
  );
  written = (refl, tt);
  passes = omega arith;
}

pub returns-clause-other_operator : goal.returns-clause-other_operator
returns-clause-other_operator c = record {
  runs = [];
  operators = Unreachable ∷ [];
  labels = [] ∷ [];
  reached = nothing_known (fresh [] []);
  other = 0xfe ∷ [];
  locals_encoding = 0x00 ∷ [];
  code_encoding = 0x00 ∷ [];
  rest = 0x03 ∷ 0x00 ∷ 0x0b ∷ [];
  begins = refl;
  locals = no_locals;
  spelled = (0x00 ∷ [], [], refl, unreachable, refl);
  begun = record {
    ending = End ∷ [];
    whole = unreachable_body;
    leads = (refl, (nothing_known (fresh [] []), refl, (refl, refl)));
  };
  is_other = (Byte 0xfe, (refl, omega arith, refl), refl);
}

-- no body is `unreachable` alone
ends : (code : Code) → Unreachable ∷ [] ≡ flat code (End ∷ []) → ⊥
ends done e = absurd cc
ends (simple operator done) e = absurd (omega (arith, ap length e))
ends (simple operator (simple other rest)) e = absurd cc
ends (simple operator (block type inner rest)) e = absurd cc
ends (simple operator (loop type inner rest)) e = absurd cc
ends (simple operator (if_then type inner rest)) e = absurd cc
ends (simple operator (if_else type inner other rest)) e = absurd cc
ends (block type inner rest) e = absurd cc
ends (loop type inner rest) e = absurd cc
ends (if_then type inner rest) e = absurd cc
ends (if_else type inner other rest) e = absurd cc

pub returns-clause-no_body_without_end : goal.returns-clause-no_body_without_end
returns-clause-no_body_without_end c = λ b. ends b.code b.is_flat

pub returns-clause-last_local : goal.returns-clause-last_local
returns-clause-last_local c = λ features type few. record {
  declared = (0x01 ∷ [], 0x01 ∷ 0x7f ∷ [], refl, small 1 (omega arith), (0x01 ∷ 0x7f ∷ [], [], refl, (0x01 ∷ [], 0x7f ∷ [], refl, small 1 (omega arith), refl), refl));
  written = (refl, tt);
  within = λ h. omega (arith, few, h);
}

pub returns-clause-local_past : goal.returns-clause-local_past
returns-clause-local_past c = λ features type many l. l.within (omega (arith, many))

-- ---- a run of no locals

-- what a run of floats is written as
no_floats : IsRun (0x00 ∷ 0x7d ∷ []) (run_of 0 F32)
no_floats = (0x00 ∷ [], 0x7d ∷ [], refl, small 0 (omega arith), refl)

pub returns-clause-no_locals_of_a_float : goal.returns-clause-no_locals_of_a_float
returns-clause-no_locals_of_a_float c = λ features type on few. record {
  declared = (0x01 ∷ [], 0x00 ∷ 0x7d ∷ [], refl, small 1 (omega arith), (0x00 ∷ 0x7d ∷ [], [], refl, no_floats, refl));
  written = (rw on refl, tt);
  within = λ h. omega (arith, few, h);
}

-- the types of heaps have other bytes
low_code : (heap : AbstractHeapType) → heap_code heap < 0x7d
low_code NoCont = omega arith
low_code NoExn = omega arith
low_code NoFunc = omega arith
low_code NoExtern = omega arith
low_code None = omega arith
low_code Func = omega arith
low_code Extern = omega arith
low_code Any = omega arith
low_code Eq = omega arith
low_code I31 = omega arith
low_code Struct = omega arith
low_code Array = omega arith
low_code Exn = omega arith
low_code Cont = omega arith

module _ (features : Features) (off : has features Floats ≡ false) where
  -- what begins as a float's type isn't written without floats
  no_float : (bytes rest others : List ℕ) (type : ValType ℕ) → IsValType bytes type → 0x7d ∷ others ≡ bytes ++ rest → is_some (written features module_items type) ≡ true → ⊥
  no_float bytes rest others I32 h e w = omega (arith, heads 0x7d 0x7f others rest (e ∙ ap (λ (l : List ℕ). l ++ rest) h))
  no_float bytes rest others I64 h e w = omega (arith, heads 0x7d 0x7e others rest (e ∙ ap (λ (l : List ℕ). l ++ rest) h))
  no_float bytes rest others F32 h e w = let n : is_some (written features module_items F32) ≡ false = rw off refl in absurd cc
  no_float bytes rest others F64 h e w = omega (arith, heads 0x7d 0x7c others rest (e ∙ ap (λ (l : List ℕ). l ++ rest) h))
  no_float bytes rest others V128 h e w = omega (arith, heads 0x7d 0x7b others rest (e ∙ ap (λ (l : List ℕ). l ++ rest) h))
  no_float bytes rest others (Ref false heap) h e w = omega (arith, heads 0x7d 0x64 others (h.0 ++ rest) (e ∙ ap (λ (l : List ℕ). l ++ rest) h.1))
  no_float bytes rest others (Ref true heap) (inl h) e w = omega (arith, heads 0x7d 0x63 others (h.0 ++ rest) (e ∙ ap (λ (l : List ℕ). l ++ rest) h.1))
  no_float bytes rest others (Ref true (Abstract heap)) (inr h) e w = omega (arith, low_code heap, heads 0x7d (heap_code heap) others rest (e ∙ ap (λ (l : List ℕ). l ++ rest) h))
  no_float bytes rest others (Ref true (Concrete index)) (inr h) e w = h

  -- nor a first run of them
  no_first : (entries after others : List ℕ) (runs : List Run) → IsItems IsRun entries runs → length runs ≡ 1 → 0x00 ∷ 0x7d ∷ others ≡ entries ++ after → AllByRecursion (IsWritten features module_items) runs → ⊥
  no_first entries after others [] i one e w = omega (arith, one)
  no_first entries after others (run ∷ runs) i one e w =
      let r = i.3 in
      let f = joined entries after i.0 i.1 _ e i.2 in
      let g = joined i.0 (i.1 ++ after) r.0 r.1 _ f r.2 in
      let n = number_is r.0 (r.1 ++ (i.1 ++ after)) (0x7d ∷ others) 0x00 run.count r.3 (omega arith) g in
      no_float r.1 (i.1 ++ after) others run.type r.4 (sym n.1) w.0

pub returns-clause-no_body_with_a_float : goal.returns-clause-no_body_with_a_float
returns-clause-no_body_with_a_float c = λ features type rest off b.
    let l = b.locals.declared in
    let e = joined b.locals_encoding b.code_encoding l.0 l.1 _ b.begins l.2 in
    let n = number_is l.0 (l.1 ++ b.code_encoding) (0x00 ∷ 0x7d ∷ rest) 0x01 _ l.3 (omega arith) e in
    no_first features off l.1 b.code_encoding rest b.runs l.4 n.0 (sym n.1) b.locals.written
