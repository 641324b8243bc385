-- Small bodies of each kind.
use Rattle.std.proofs.Common.{◌≡◌, ◌≤◌, ◌<◌, ℕ, List, [], ◌∷◌, ◌++◌, length, refl, sym, subst, ap, arith, length-append}
use Rattle.std.proofs.lemmas.List.Sums.{sum_by-cons}
use Rattle.wasm_bodies.proofs.OtherCodes.{no_other, some_code}
use Rattle.wasm_bodies.specs.Bodies.{AreLocals, HasManyLocals, HasOtherOperator, IsExactly, IsFunctionBody, IsRun, Run, done, in_function, local_count}
use Rattle.wasm_bodies.specs.BodyContext.{ModuleItems}
use Rattle.wasm_bodies.specs.Operands.{fresh}
use Rattle.wasm_bodies.specs.OperatorGrammar.{IsCode}
use Rattle.wasm_bodies.specs.OperatorRows.{Byte}
use Rattle.wasm_bodies.specs.Operators.{End}
use Rattle.wasm_spec.proofs.Encodings.{small}
use Rattle.wasm_spec.proofs.WrongEncodings.{heads, joined, number_is, tails}
use Rattle.wasm_spec.specs.Bytes.{IsItems, IsU32}
use Rattle.wasm_spec.specs.Features.{Features}
use Rattle.wasm_spec.specs.Types.{FuncType, I32}
use Rattle.wasm_spec_examples.proofs.SmallBodies.{after_none}
use Rattle.wasm_validity_examples.proofs.ReadBodies.{first_byte, no_operators, only_end}
use Rattle.wasm_validity_examples.proofs.SmallBodies.{IsRest, ended, no_locals, read, some_operator}

module _ {R : Type 0} (features : Features) (items : ModuleItems R) where
  -- ---- bodies without an end, and without results

  pub no_end : (type : FuncType R) → IsFunctionBody features items type (0x00 ∷ []) → ⊥
  no_end type b =
      let r = read features items type [] b in
      let cx = in_function features items type r.runs in
      some_operator cx (fresh [] []) (subst (λ l. IsRest cx (fresh [] []) l) (no_operators features r.operators r.spelled) r.rest)

  pub ends_at_once : (type : FuncType R) → IsFunctionBody features items type (0x00 ∷ 0x0b ∷ []) → IsExactly items type.results (fresh [] [])
  ends_at_once type b =
      let r = read features items type (0x0b ∷ []) b in
      let cx = in_function features items type r.runs in
      ended cx (fresh [] []) (subst (λ l. IsRest cx (fresh [] []) l) (only_end features r.operators r.spelled) r.rest)

  no_more_locals : (type : FuncType R) (runs : List Run) → length runs ≤ 0 → local_count type runs ≡ length type.params
  no_more_locals type [] h = omega arith
  no_more_locals type (run ∷ runs) h = absurd (omega (arith, h))

  -- where no locals are stated, they aren't too many
  pub few_locals : (type : FuncType R) (bytes : List ℕ) → length type.params ≤ 50000 → HasManyLocals features items type (0x00 ∷ bytes) → ⊥
  few_locals type bytes few m =
      let n = number_is m.count_encoding (m.runs_encoding ++ m.rest) bytes 0 m.stated m.counted (omega arith) m.begins in
      let passed : 50000 < local_count type m.runs = m.passes in
      omega (arith, few, passed, no_more_locals type m.runs (omega (arith, m.among, n.0)))

  pub no_other_code : (type : FuncType R) → HasOtherOperator features items type (0x00 ∷ []) → ⊥
  no_other_code type h =
      let e = after_none features items type h.locals_encoding (h.code_encoding ++ (h.other ++ h.rest)) [] h.runs h.locals h.begins in
      omega (arith, ap length e, length-append h.code_encoding (h.other ++ h.rest), length-append h.other h.rest, some_code h.other h.is_other.0 h.is_other.1)

-- ---- a body of 50,001 locals

abbrev pub many_locals_body : List ℕ
many_locals_body = 0x01 ∷ 0xd1 ∷ 0x86 ∷ 0x03 ∷ 0x7f ∷ 0x00 ∷ 0x0b ∷ []

count_encoded : IsU32 (0xd1 ∷ 0x86 ∷ 0x03 ∷ []) 50001
count_encoded = (omega arith, omega arith, omega arith, 390, refl, (omega arith, omega arith, omega arith, 3, refl, (omega arith, omega arith, refl)))

pub many_locals : {R : Type 0} (features : Features) (items : ModuleItems R) (type : FuncType R) → HasManyLocals features items type many_locals_body
many_locals features items type =
    let run : Run = record { count = 50001; type = I32 } in
    record {
      stated = 1;
      runs = run ∷ [];
      count_encoding = 0x01 ∷ [];
      runs_encoding = 0xd1 ∷ 0x86 ∷ 0x03 ∷ 0x7f ∷ [];
      rest = 0x00 ∷ 0x0b ∷ [];
      begins = refl;
      counted = small 1 (omega arith);
      among = omega arith;
      declared = (0xd1 ∷ 0x86 ∷ 0x03 ∷ 0x7f ∷ [], [], refl, (0xd1 ∷ 0x86 ∷ 0x03 ∷ [], 0x7f ∷ [], refl, count_encoded, refl), refl);
      written = (refl, tt);
      passes = omega (arith, sum_by-cons (λ (r : Run). r.count) run []);
    }

-- the number that begins so
count_is : (bytes rest others : List ℕ) (n : ℕ) → IsU32 bytes n → 0xd1 ∷ 0x86 ∷ 0x03 ∷ others ≡ bytes ++ rest → n ≡ 50001
count_is [] rest others n h e = absurd h
count_is (a ∷ []) rest others n h e = absurd (omega (arith, h.0, heads 0xd1 a (0x86 ∷ 0x03 ∷ others) rest e))
count_is (a ∷ b ∷ []) rest others n h e =
    let e' = tails 0xd1 a (0x86 ∷ 0x03 ∷ others) (b ∷ rest) e in
    absurd (omega (arith, h.5.0, heads 0x86 b (0x03 ∷ others) rest e'))
count_is (a ∷ b ∷ c ∷ []) rest others n h e =
    let e' = tails 0xd1 a (0x86 ∷ 0x03 ∷ others) (b ∷ c ∷ rest) e in
    let e'' = tails 0x86 b (0x03 ∷ others) (c ∷ rest) e' in
    omega (arith, heads 0xd1 a (0x86 ∷ 0x03 ∷ others) (b ∷ c ∷ rest) e, heads 0x86 b (0x03 ∷ others) (c ∷ rest) e', heads 0x03 c others rest e'', h.4, h.5.4, h.5.5.2)
count_is (a ∷ b ∷ c ∷ d ∷ ds) rest others n h e =
    let e' = tails 0xd1 a (0x86 ∷ 0x03 ∷ others) (b ∷ c ∷ d ∷ (ds ++ rest)) e in
    let e'' = tails 0x86 b (0x03 ∷ others) (c ∷ d ∷ (ds ++ rest)) e' in
    absurd (omega (arith, h.5.5.0, heads 0x03 c others (d ∷ (ds ++ rest)) e''))

-- runs that begin so are too many locals
first_run : {R : Type 0} (type : FuncType R) (bytes after others : List ℕ) (runs : List Run) → length runs ≡ 1 → IsItems IsRun bytes runs → 0xd1 ∷ 0x86 ∷ 0x03 ∷ others ≡ bytes ++ after
    → 50000 < local_count type runs
first_run type bytes after others [] one h e = absurd (omega (arith, one))
first_run type bytes after others (run ∷ runs) one h e =
    let run_is = h.3 in
    let e' = joined bytes after h.0 h.1 _ e h.2 in
    let n = count_is run_is.0 (run_is.1 ++ (h.1 ++ after)) others run.count run_is.3 (joined h.0 (h.1 ++ after) run_is.0 run_is.1 _ e' run_is.2) in
    omega (arith, n, sum_by-cons (λ (r : Run). r.count) run runs)

pub too_many : {R : Type 0} (features : Features) (items : ModuleItems R) (type : FuncType R) (locals code bytes : List ℕ) (runs : List Run) → AreLocals features items type locals runs
    → 0x01 ∷ 0xd1 ∷ 0x86 ∷ 0x03 ∷ bytes ≡ locals ++ code → ⊥
too_many features items type locals code bytes runs l e =
    let d = l.declared in
    let n = number_is d.0 (d.1 ++ code) (0xd1 ∷ 0x86 ∷ 0x03 ∷ bytes) 1 _ d.3 (omega arith) (joined locals code d.0 d.1 _ e d.2) in
    l.within (first_run type d.1 code bytes runs n.0 d.4 (sym n.1))

-- ---- a body with a code that is no operator's

pub other_code : {R : Type 0} (features : Features) (items : ModuleItems R) → HasOtherOperator features items (record { params = []; results = [] }) (0x00 ∷ 0xfe ∷ 0x03 ∷ 0x00 ∷ 0x0b ∷ [])
other_code features items = record {
  runs = [];
  operators = [];
  labels = [] ∷ [];
  reached = fresh [] [];
  other = 0xfe ∷ [];
  locals_encoding = 0x00 ∷ [];
  code_encoding = [];
  rest = 0x03 ∷ 0x00 ∷ 0x0b ∷ [];
  begins = refl;
  locals = no_locals features items (record { params = []; results = [] }) (omega arith);
  spelled = refl;
  begun = record { ending = End ∷ []; whole = record { code = done; is_flat = refl; typed = (fresh [] [], refl, refl) }; leads = (refl, refl) };
  is_other = (Byte 0xfe, (refl, omega arith, refl), refl);
}

pub untyped_code : {R : Type 0} (features : Features) (items : ModuleItems R) (type : FuncType R) (bytes : List ℕ) → IsFunctionBody features items type (0x00 ∷ 0xfe ∷ bytes) → ⊥
untyped_code features items type bytes b =
    let r = read features items type (0xfe ∷ bytes) b in
    let f = first_byte features 0xfe bytes r.operators (omega arith) refl r.spelled in
    let code = subst (λ c. IsCode (0xfe ∷ []) c) (sym f.has) (refl, omega arith, refl) in
    no_other features (0xfe ∷ []) f.immediates f.operator (Byte 0xfe, (refl, omega arith, refl), refl) (0xfe ∷ [], f.immediates, refl, code, f.holds)
