use Rattle.std.proofs.Common.{◌≡◌, ◌<◌, ℕ, List, [], ◌∷◌, ◌++◌, Some, None, arith, ap, ◌∙◌, append_assoc}
use Rattle.wasm_spec.specs.ConstantGrammar.{end_code, IsConstantOperator, IsConstantExpression}
use Rattle.wasm_spec.specs.Constants.{ConstantOperator, I32Const, I64Const, F32Const, F64Const, V128Const, RefNull, RefFunc, GlobalGet, I32Add, I32Sub, I32Mul, I64Add, I64Sub, I64Mul, StructNew, StructNewDefault, ArrayNew, ArrayNewDefault, ArrayNewFixed, AnyConvertExtern, ExternConvertAny, RefI31, ConstantExpression}
use Rattle.wasm_spec.specs.ModuleParts.{IsElementOf, IsDataOf}
use Rattle.wasm_spec.specs.Syntax.{ElementMode, ActiveElement, PassiveElement, DeclaredElement, ElementItems, FunctionItems, ExpressionItems, DataMode, ActiveData, PassiveData}
use Rattle.wasm_spec.specs.Types.{RefType}
use Rattle.wasm_spec.proofs.WrongEncodings.{heads, number_is}
use Rattle.wasm_spec_examples.proofs.grammar_examples.wrong_entries.Goals as goal

begins : (code : ℕ) (bytes after rest others : List ℕ) → bytes ≡ code ∷ after → 0x01 ∷ rest ≡ bytes ++ others → 1 < code → ⊥
begins code bytes after rest others e f large = omega (arith, large, heads 0x01 code rest (after ++ others) (f ∙ ap (λ (l : List ℕ). l ++ others) e))

-- no operator begins with this byte
no_operator : (encoding rest : List ℕ) (operator : ConstantOperator) → IsConstantOperator encoding operator → (others : List ℕ) → 0x01 ∷ rest ≡ encoding ++ others → ⊥
no_operator encoding rest (I32Const n) h others e = begins 0x41 encoding h.0 rest others h.1 e (omega arith)
no_operator encoding rest (I64Const n) h others e = begins 0x42 encoding h.0 rest others h.1 e (omega arith)
no_operator encoding rest (F32Const bits) h others e = begins 0x43 encoding h.0 rest others h.1 e (omega arith)
no_operator encoding rest (F64Const bits) h others e = begins 0x44 encoding h.0 rest others h.1 e (omega arith)
no_operator encoding rest (V128Const bytes) h others e = begins 0xfd encoding h.0 rest others h.1 e (omega arith)
no_operator encoding rest (RefNull heap) h others e = begins 0xd0 encoding h.0 rest others h.1 e (omega arith)
no_operator encoding rest (RefFunc function) h others e = begins 0xd2 encoding h.0 rest others h.1 e (omega arith)
no_operator encoding rest (GlobalGet global) h others e = begins 0x23 encoding h.0 rest others h.1 e (omega arith)
no_operator encoding rest I32Add h others e = begins 0x6a encoding [] rest others h e (omega arith)
no_operator encoding rest I32Sub h others e = begins 0x6b encoding [] rest others h e (omega arith)
no_operator encoding rest I32Mul h others e = begins 0x6c encoding [] rest others h e (omega arith)
no_operator encoding rest I64Add h others e = begins 0x7c encoding [] rest others h e (omega arith)
no_operator encoding rest I64Sub h others e = begins 0x7d encoding [] rest others h e (omega arith)
no_operator encoding rest I64Mul h others e = begins 0x7e encoding [] rest others h e (omega arith)
no_operator encoding rest (StructNew type) h others e = begins 0xfb encoding h.0 rest others h.1 e (omega arith)
no_operator encoding rest (StructNewDefault type) h others e = begins 0xfb encoding h.0 rest others h.1 e (omega arith)
no_operator encoding rest (ArrayNew type) h others e = begins 0xfb encoding h.0 rest others h.1 e (omega arith)
no_operator encoding rest (ArrayNewDefault type) h others e = begins 0xfb encoding h.0 rest others h.1 e (omega arith)
no_operator encoding rest (ArrayNewFixed type count) h others e = begins 0xfb encoding h.0 rest others h.1 e (omega arith)
no_operator encoding rest AnyConvertExtern h others e = begins 0xfb encoding h.0 rest others h.1 e (omega arith)
no_operator encoding rest ExternConvertAny h others e = begins 0xfb encoding h.0 rest others h.1 e (omega arith)
no_operator encoding rest RefI31 h others e = begins 0xfb encoding h.0 rest others h.1 e (omega arith)

no_expression : (rest : List ℕ) (operators : ConstantExpression) → ¬ (IsConstantExpression (0x01 ∷ rest) operators)
no_expression rest [] h = omega (arith, heads 0x01 end_code rest [] (h.1 ∙ ap (λ (l : List ℕ). l ++ (end_code ∷ [])) h.2))
no_expression rest (operator ∷ operators) h =
    let k = h.2 in
    no_operator k.0 rest operator k.3 (k.1 ++ (end_code ∷ [])) (h.1 ∙ ap (λ (l : List ℕ). l ++ (end_code ∷ [])) k.2 ∙ append_assoc k.0 k.1 (end_code ∷ []))

no_end : (body : List ℕ) → [] ≡ body ++ (end_code ∷ []) → ⊥
no_end [] e = absurd cc
no_end (b ∷ bs) e = absurd cc

no_element : (rest : List ℕ) (mode : ElementMode) (items : ElementItems) → ¬ (IsElementOf mode (0x08 ∷ rest) items)
no_element rest (ActiveElement None offset) (FunctionItems functions) h = omega (arith, (number_is h.0 h.1 rest 0x08 _ h.3 (omega arith) h.2).0)
no_element rest PassiveElement (FunctionItems functions) h = omega (arith, (number_is h.0 h.1 rest 0x08 _ h.3 (omega arith) h.2).0)
no_element rest (ActiveElement (Some table) offset) (FunctionItems functions) h = omega (arith, (number_is h.0 h.1 rest 0x08 _ h.3 (omega arith) h.2).0)
no_element rest DeclaredElement (FunctionItems functions) h = omega (arith, (number_is h.0 h.1 rest 0x08 _ h.3 (omega arith) h.2).0)
no_element rest (ActiveElement None offset) (ExpressionItems type expressions) h = omega (arith, (number_is h.1.0 h.1.1 rest 0x08 _ h.1.3 (omega arith) h.1.2).0)
no_element rest PassiveElement (ExpressionItems type expressions) h = omega (arith, (number_is h.0 h.1 rest 0x08 _ h.3 (omega arith) h.2).0)
no_element rest (ActiveElement (Some table) offset) (ExpressionItems type expressions) h = omega (arith, (number_is h.0 h.1 rest 0x08 _ h.3 (omega arith) h.2).0)
no_element rest DeclaredElement (ExpressionItems type expressions) h = omega (arith, (number_is h.0 h.1 rest 0x08 _ h.3 (omega arith) h.2).0)

no_data : (rest : List ℕ) (mode : DataMode) (contents : List ℕ) → ¬ (IsDataOf mode (0x03 ∷ rest) contents)
no_data rest (ActiveData None offset) contents h = omega (arith, (number_is h.0 h.1 rest 0x03 _ h.3 (omega arith) h.2).0)
no_data rest PassiveData contents h = omega (arith, (number_is h.0 h.1 rest 0x03 _ h.3 (omega arith) h.2).0)
no_data rest (ActiveData (Some memory) offset) contents h = omega (arith, (number_is h.0 h.1 rest 0x03 _ h.3 (omega arith) h.2).0)

pub returns : goal.returns
returns c = record {
  not_constant = no_expression;
  no_end = λ operators h. no_end h.0 h.1;
  element_form_8 = λ rest segment h. no_element rest segment.mode segment.items h;
  data_form_3 = λ rest segment h. no_data rest segment.mode segment.contents h;
  other_type = λ bytes offset expressions h. let f = ap (λ (t : RefType ℕ). t.heap_type) h.0 in absurd cc;
}
