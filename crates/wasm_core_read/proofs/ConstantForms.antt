-- Constant expressions are read as their forms say.
use Rattle.std.proofs.Common.{◌≡◌, ℕ, zero, suc, ◌≤◌, false, eqb, List, [], ◌∷◌, ◌++◌, length, Some, refl, sym, ap, subst, ◌∙◌, append_assoc, arith, inl, inr, length-append}
use Rattle.std.proofs.lemmas.Bool.Decides.{eqb_tells}
use Rattle.std.proofs.lemmas.List.{append-nil}
use Rattle.wasm_spec.specs.Bytes.{AreBytes, IsBytesOf, IsU32, IsS32, IsS64, IsF32, IsF64, IsPair, IsNumbered, IsItems}
use Rattle.wasm_spec.specs.ConstantGrammar.{IsConstantOperator, end_code, IsConstantExpression}
use Rattle.wasm_spec.specs.Constants.{ConstantOperator, I32Const, I64Const, F32Const, F64Const, V128Const, RefNull, RefFunc, GlobalGet, I32Add, I32Sub, I32Mul, I64Add, I64Sub, I64Mul, StructNew, StructNewDefault, ArrayNew, ArrayNewDefault, ArrayNewFixed, AnyConvertExtern, ExternConvertAny, RefI31, ConstantExpression}
use Rattle.wasm_spec.specs.TypeGrammar.{IsHeapType}
use Rattle.wasm_core_read.specs.ConstantReading.{aggregate_from, vector_from, operator_from, operator_at, operators_at, expression_at}
use Rattle.wasm_core_read.specs.Laws.{ReadsExactly}
use Rattle.wasm_core_read.specs.Reading.{◌>>=◌, unsigned_at, signed_at, bytes_at, float_at, seen_at, pair_at, numbered_at, no_code}
use Rattle.wasm_core_read.specs.TypeReading.{heap_type_at}
use Rattle.wasm_core_read.proofs.Forms.{bind_some, some_is, joined, rest_bytes, Found, reads_unsigned, reads_bytes, unsigned_again}
use Rattle.wasm_core_read.proofs.NumberForms.{reads_signed, reads_float}
use Rattle.wasm_core_read.proofs.TypeForms.{reads_heap_type}
use Rattle.wasm_core_read.proofs.WayForms.{FindsAfter, Announced, Numbered, seen, reads_pair, none, bare, coded, announced, numbered}

-- ---- operators

abbrev IsAggregate : ℕ → List ℕ → ConstantOperator → Type 0
IsAggregate code bytes v = Numbered (Announced IsConstantOperator 0xfb) code bytes v

reads_two : ReadsExactly (IsPair IsU32 IsU32) (pair_at (unsigned_at 32) (unsigned_at 32))
reads_two = reads_pair IsU32 (unsigned_at 32) IsU32 (unsigned_at 32) (reads_unsigned 32) (reads_unsigned 32)

-- a second code alone
alone : (number : List ℕ) (code : ℕ) → IsU32 number code → IsU32 (number ++ []) code
alone number code h = subst (λ (l : List ℕ). IsU32 l code) (sym (append-nil number)) h

aggregate_found : FindsAfter IsAggregate aggregate_from
aggregate_found =
    coded IsAggregate 0 (seen_at (λ type. StructNew type) (unsigned_at 32)) _
    (seen (IsAggregate 0) IsU32 (unsigned_at 32) (λ type. StructNew type) (reads_unsigned 32).found (λ bytes type h number n. (number ++ bytes, refl, (number, bytes, refl, n, h))))
    (coded IsAggregate 1 (seen_at (λ type. StructNewDefault type) (unsigned_at 32)) _
    (seen (IsAggregate 1) IsU32 (unsigned_at 32) (λ type. StructNewDefault type) (reads_unsigned 32).found (λ bytes type h number n. (number ++ bytes, refl, (number, bytes, refl, n, h))))
    (coded IsAggregate 6 (seen_at (λ type. ArrayNew type) (unsigned_at 32)) _
    (seen (IsAggregate 6) IsU32 (unsigned_at 32) (λ type. ArrayNew type) (reads_unsigned 32).found (λ bytes type h number n. (number ++ bytes, refl, (number, bytes, refl, n, h))))
    (coded IsAggregate 7 (seen_at (λ type. ArrayNewDefault type) (unsigned_at 32)) _
    (seen (IsAggregate 7) IsU32 (unsigned_at 32) (λ type. ArrayNewDefault type) (reads_unsigned 32).found (λ bytes type h number n. (number ++ bytes, refl, (number, bytes, refl, n, h))))
    (coded IsAggregate 8 (seen_at (λ x. ArrayNewFixed x.0 x.1) (pair_at (unsigned_at 32) (unsigned_at 32))) _
    (seen (IsAggregate 8) (IsPair IsU32 IsU32) (pair_at (unsigned_at 32) (unsigned_at 32)) (λ x. ArrayNewFixed x.0 x.1) reads_two.found (λ bytes x h number n. (number ++ bytes, refl, (number, bytes, refl, n, h))))
    (bare IsAggregate 26 AnyConvertExtern _ (λ number n. (number ++ [], refl, alone number 26 n))
    (bare IsAggregate 27 ExternConvertAny _ (λ number n. (number ++ [], refl, alone number 27 n))
    (bare IsAggregate 28 RefI31 no_code (λ number n. (number ++ [], refl, alone number 28 n))
    (none IsAggregate))))))))

abbrev IsVector : ℕ → List ℕ → ConstantOperator → Type 0
IsVector code bytes v = Numbered (Announced IsConstantOperator 0xfd) code bytes v

vector_found : FindsAfter IsVector vector_from
vector_found =
    coded IsVector 12 (seen_at (λ bytes. V128Const bytes) (bytes_at 16)) no_code
    (seen (IsVector 12) (IsBytesOf 16) (bytes_at 16) (λ bytes. V128Const bytes) (reads_bytes 16).found (λ encoding bytes h number n. (number ++ encoding, refl, (number, encoding, refl, n, h))))
    (none IsVector)

abbrev ComesAfter : ℕ → List ℕ → ConstantOperator → Type 0
ComesAfter code bytes v = Announced IsConstantOperator code bytes v

operator_found : FindsAfter ComesAfter operator_from
operator_found =
    coded ComesAfter 0x23 (seen_at (λ global. GlobalGet global) (unsigned_at 32)) _ (seen (ComesAfter 0x23) IsU32 (unsigned_at 32) (λ global. GlobalGet global) (reads_unsigned 32).found (λ bytes x h. (bytes, refl, h)))
    (coded ComesAfter 0x41 (seen_at (λ n. I32Const n) (signed_at 32)) _ (seen (ComesAfter 0x41) IsS32 (signed_at 32) (λ n. I32Const n) (reads_signed 32).found (λ bytes x h. (bytes, refl, h)))
    (coded ComesAfter 0x42 (seen_at (λ n. I64Const n) (signed_at 64)) _ (seen (ComesAfter 0x42) IsS64 (signed_at 64) (λ n. I64Const n) (reads_signed 64).found (λ bytes x h. (bytes, refl, h)))
    (coded ComesAfter 0x43 (seen_at (λ bits. F32Const bits) (float_at 4)) _ (seen (ComesAfter 0x43) IsF32 (float_at 4) (λ bits. F32Const bits) (reads_float 4).found (λ bytes x h. (bytes, refl, h)))
    (coded ComesAfter 0x44 (seen_at (λ bits. F64Const bits) (float_at 8)) _ (seen (ComesAfter 0x44) IsF64 (float_at 8) (λ bits. F64Const bits) (reads_float 8).found (λ bytes x h. (bytes, refl, h)))
    (bare ComesAfter 0x6a I32Add _ refl (bare ComesAfter 0x6b I32Sub _ refl (bare ComesAfter 0x6c I32Mul _ refl
    (bare ComesAfter 0x7c I64Add _ refl (bare ComesAfter 0x7d I64Sub _ refl (bare ComesAfter 0x7e I64Mul _ refl
    (coded ComesAfter 0xd0 (seen_at (λ heap. RefNull heap) heap_type_at) _ (seen (ComesAfter 0xd0) IsHeapType heap_type_at (λ heap. RefNull heap) reads_heap_type.found (λ bytes x h. (bytes, refl, h)))
    (coded ComesAfter 0xd2 (seen_at (λ function. RefFunc function) (unsigned_at 32)) _ (seen (ComesAfter 0xd2) IsU32 (unsigned_at 32) (λ function. RefFunc function) (reads_unsigned 32).found (λ bytes x h. (bytes, refl, h)))
    (coded ComesAfter 0xfb (numbered_at aggregate_from) _ (numbered (ComesAfter 0xfb) aggregate_from aggregate_found)
    (coded ComesAfter 0xfd (numbered_at vector_from) no_code (numbered (ComesAfter 0xfd) vector_from vector_found)
    (none ComesAfter)))))))))))))))

-- the first and the second code, and what stands after them
split : (bytes others rest : List ℕ) (first second : ℕ) {A : Type 0} (IsA : List ℕ → A → Type 0) (v : A) → bytes ≡ first ∷ others → (h : IsNumbered second IsA others v) → bytes ++ rest ≡ first ∷ (h.0 ++ (h.1 ++ rest))
split bytes others rest first second IsA v e h = rw (e, h.2) (ap (λ (l : List ℕ). first ∷ l) (append_assoc h.0 h.1 rest))

aggregate_again : (bytes number others : List ℕ) (code : ℕ) (v : ConstantOperator) (rest : List ℕ) → bytes ≡ 0xfb ∷ (number ++ others) → IsU32 number code → aggregate_from code (others ++ rest) ≡ Some (v, rest) → operator_at (bytes ++ rest) ≡ Some (v, rest)
unfolding operator_at
aggregate_again bytes number others code v rest e n read =
    let parts : bytes ++ rest ≡ 0xfb ∷ (number ++ (others ++ rest)) = rw e (ap (λ (l : List ℕ). 0xfb ∷ l) (append_assoc number others rest)) in
    ap operator_at parts ∙ rw (unsigned_again 32 number code (others ++ rest) n) read

bare_again : (bytes number : List ℕ) (code : ℕ) (v : ConstantOperator) (rest : List ℕ) → bytes ≡ 0xfb ∷ number → IsU32 number code → aggregate_from code rest ≡ Some (v, rest) → operator_at (bytes ++ rest) ≡ Some (v, rest)
bare_again bytes number code v rest e n read = aggregate_again bytes number [] code v rest (e ∙ ap (λ (l : List ℕ). 0xfb ∷ l) (sym (append-nil number))) n read

index_again : (encoding others : List ℕ) (code index : ℕ) (view : ℕ → ConstantOperator) (rest : List ℕ) → encoding ≡ 0xfb ∷ others → IsNumbered code IsU32 others index
    → ((bytes : List ℕ) → aggregate_from code bytes ≡ seen_at view (unsigned_at 32) bytes) → operator_at (encoding ++ rest) ≡ Some (view index, rest)
index_again encoding others code index view rest e h is =
    aggregate_again encoding h.0 h.1 code (view index) rest (e ∙ ap (λ (l : List ℕ). 0xfb ∷ l) h.2) h.3 (is (h.1 ++ rest) ∙ rw (unsigned_again 32 h.1 index rest h.4) refl)

vector_again : (encoding others bytes rest : List ℕ) → encoding ≡ 0xfd ∷ others → IsNumbered 12 (IsBytesOf 16) others bytes → operator_at (encoding ++ rest) ≡ Some (V128Const bytes, rest)
unfolding operator_at
vector_again encoding others bytes rest e h =
    ap operator_at (split encoding others rest 0xfd 12 (IsBytesOf 16) bytes e h) ∙ rw (unsigned_again 32 h.0 12 (h.1 ++ rest) h.3, (reads_bytes 16).again h.1 bytes rest h.4) refl

operator_again : (encoding : List ℕ) (v : ConstantOperator) (rest : List ℕ) → IsConstantOperator encoding v → operator_at (encoding ++ rest) ≡ Some (v, rest)
unfolding operator_at
operator_again encoding (I32Const n) rest h = rw (h.1, (reads_signed 32).again h.0 n rest h.2) refl
operator_again encoding (I64Const n) rest h = rw (h.1, (reads_signed 64).again h.0 n rest h.2) refl
operator_again encoding (F32Const bits) rest h = rw (h.1, (reads_float 4).again h.0 bits rest h.2) refl
operator_again encoding (F64Const bits) rest h = rw (h.1, (reads_float 8).again h.0 bits rest h.2) refl
operator_again encoding (V128Const bytes) rest h = vector_again encoding h.0 bytes rest h.1 h.2
operator_again encoding (RefNull heap) rest h = rw (h.1, reads_heap_type.again h.0 heap rest h.2) refl
operator_again encoding (RefFunc function) rest h = rw (h.1, (reads_unsigned 32).again h.0 function rest h.2) refl
operator_again encoding (GlobalGet global) rest h = rw (h.1, (reads_unsigned 32).again h.0 global rest h.2) refl
operator_again encoding I32Add rest h = rw h refl
operator_again encoding I32Sub rest h = rw h refl
operator_again encoding I32Mul rest h = rw h refl
operator_again encoding I64Add rest h = rw h refl
operator_again encoding I64Sub rest h = rw h refl
operator_again encoding I64Mul rest h = rw h refl
operator_again encoding (StructNew type) rest h = index_again encoding h.0 0 type (λ x. StructNew x) rest h.1 h.2 (λ bytes. refl)
operator_again encoding (StructNewDefault type) rest h = index_again encoding h.0 1 type (λ x. StructNewDefault x) rest h.1 h.2 (λ bytes. refl)
operator_again encoding (ArrayNew type) rest h = index_again encoding h.0 6 type (λ x. ArrayNew x) rest h.1 h.2 (λ bytes. refl)
operator_again encoding (ArrayNewDefault type) rest h = index_again encoding h.0 7 type (λ x. ArrayNewDefault x) rest h.1 h.2 (λ bytes. refl)
operator_again encoding (ArrayNewFixed type count) rest h =
    let n = h.2 in
    aggregate_again encoding n.0 n.1 8 (ArrayNewFixed type count) rest (h.1 ∙ ap (λ (l : List ℕ). 0xfb ∷ l) n.2) n.3 (rw (reads_two.again n.1 (type, count) rest n.4) refl)
operator_again encoding AnyConvertExtern rest h = bare_again encoding h.0 26 AnyConvertExtern rest h.1 h.2 refl
operator_again encoding ExternConvertAny rest h = bare_again encoding h.0 27 ExternConvertAny rest h.1 h.2 refl
operator_again encoding RefI31 rest h = bare_again encoding h.0 28 RefI31 rest h.1 h.2 refl

pub reads_operator : ReadsExactly IsConstantOperator operator_at
unfolding operator_at
reads_operator = record { found = announced IsConstantOperator operator_from operator_found; again = operator_again }

-- ---- expressions

-- the end alone
end_found : (bs : List ℕ) → Found IsConstantExpression (end_code ∷ bs) [] bs
end_found bs = (end_code ∷ [], refl, ([], refl, refl))

operators_found : (fuel : ℕ) (bytes : List ℕ) (v : ConstantExpression) (rest : List ℕ) → AreBytes bytes → operators_at fuel bytes ≡ Some (v, rest) → Found IsConstantExpression bytes v rest
unfolding operators_at
operators_found zero [] v rest are e = absurd cc
operators_found (suc fuel) [] v rest are e = absurd cc
operators_found zero (b ∷ bs) v rest are e = elim (eqb_tells b end_code) [
  | inl (t, same) ↦ subst (λ (c : ℕ). Found IsConstantExpression (c ∷ bs) v rest) (sym same) (subst (λ x. Found IsConstantExpression (end_code ∷ bs) x.0 x.1) (some_is ([], bs) (v, rest) (rw t at e)) (end_found bs))
  | inr (t, other) ↦ let f = rw t at e in absurd cc
]
operators_found (suc fuel) (b ∷ bs) v rest are e = elim (eqb_tells b end_code) [
  | inl (t, same) ↦ subst (λ (c : ℕ). Found IsConstantExpression (c ∷ bs) v rest) (sym same) (subst (λ x. Found IsConstantExpression (end_code ∷ bs) x.0 x.1) (some_is ([], bs) (v, rest) (rw t at e)) (end_found bs))
  | inr (t, other) ↦
      let a = bind_some (operator_at (b ∷ bs)) (λ first. operators_at fuel first.1 >>= λ others. Some (first.0 ∷ others.0, others.1)) (v, rest) (rw t at e) in
      let o = bind_some (operators_at fuel a.0.1) (λ others. Some (a.0.0 ∷ others.0, others.1)) (v, rest) a.2 in
      let first = reads_operator.found (b ∷ bs) a.0.0 a.0.1 are a.1 in
      let others = operators_found fuel a.0.1 o.0.0 o.0.1 (rest_bytes (b ∷ bs) first.0 a.0.1 are first.1) o.1 in
      let body = others.2 in
      subst (λ x. Found IsConstantExpression (b ∷ bs) x.0 x.1) (some_is (a.0.0 ∷ o.0.0, o.0.1) (v, rest) o.2) (
        first.0 ++ others.0,
        joined (b ∷ bs) first.0 a.0.1 others.0 o.0.1 first.1 others.1,
        (first.0 ++ body.0, rw body.1 (sym (append_assoc first.0 body.0 (end_code ∷ []))), (first.0, body.0, refl, first.2, body.2)),
      )
]

ended : (fuel : ℕ) (rest : List ℕ) → operators_at fuel (end_code ∷ rest) ≡ Some ([], rest)
unfolding operators_at
ended zero rest = refl
ended (suc fuel) rest = refl

-- an operator has a byte, which is not the end
no_end : (first rest : List ℕ) (v : ConstantOperator) → IsConstantOperator first v → (b : ℕ) × (bs : List ℕ) × (first ≡ b ∷ bs) × (eqb b end_code ≡ false)
unfolding operator_at
no_end [] rest v h = let e = operator_again [] v [] h in absurd cc
no_end (b ∷ bs) rest v h = elim (eqb_tells b end_code) [
  | inl (t, same) ↦ let e = sym (ap (λ (c : ℕ). operator_at (c ∷ bs)) same) ∙ ap operator_at (sym (append-nil (b ∷ bs))) ∙ operator_again (b ∷ bs) v [] h in absurd cc
  | inr (t, other) ↦ (b, bs, refl, t)
]

operators_again : (fuel : ℕ) (body : List ℕ) (v : ConstantExpression) (rest : List ℕ) → length body ≤ fuel → IsItems IsConstantOperator body v → operators_at fuel (body ++ (end_code ∷ rest)) ≡ Some (v, rest)
unfolding operators_at
operators_again fuel body [] rest few h = rw h (ended fuel rest)
operators_again zero body (v ∷ vs) rest few h =
    let f = no_end h.0 [] v h.3 in
    absurd (omega (arith, few, ap length h.2, length-append h.0 h.1, ap length f.2))
operators_again (suc fuel) body (v ∷ vs) rest few h =
    let f = no_end h.0 [] v h.3 in
    let shorter : length h.1 ≤ fuel = omega (arith, few, ap length h.2, length-append h.0 h.1, ap length f.2) in
    let first : operator_at (f.0 ∷ (f.1 ++ (h.1 ++ (end_code ∷ rest)))) ≡ Some (v, h.1 ++ (end_code ∷ rest)) = ap (λ (l : List ℕ). operator_at (l ++ (h.1 ++ (end_code ∷ rest)))) (sym f.2) ∙ operator_again h.0 v (h.1 ++ (end_code ∷ rest)) h.3 in
    let parts : body ++ (end_code ∷ rest) ≡ f.0 ∷ (f.1 ++ (h.1 ++ (end_code ∷ rest))) = ap (λ (l : List ℕ). l ++ (end_code ∷ rest)) (h.2 ∙ ap (λ (l : List ℕ). l ++ h.1) f.2) ∙ ap (λ (l : List ℕ). f.0 ∷ l) (append_assoc f.1 h.1 (end_code ∷ rest)) in
    ap (operators_at (suc fuel)) parts ∙ rw (f.3, first, operators_again fuel h.1 vs rest shorter h.4) refl

pub reads_expression : ReadsExactly IsConstantExpression expression_at
unfolding expression_at
reads_expression = record {
  found = λ bytes v rest are e. operators_found (length bytes) bytes v rest are e;
  again = λ encoding v rest h.
      let parts : encoding ++ rest ≡ h.0 ++ (end_code ∷ rest) = rw h.1 (append_assoc h.0 (end_code ∷ []) rest) in
      ap expression_at parts ∙ operators_again (length (h.0 ++ (end_code ∷ rest))) h.0 v rest (omega (arith, length-append h.0 (end_code ∷ rest))) h.2;
}
