-- A body that is well typed under features is so under more of them.
use Rattle.std.proofs.Common.{Bool, true, false, ◌&&◌, ◌||◌, ◌≡◌, ◌<◌, ◌≤◌, ◌-◌, ◌⊎◌, ◌^◌, ◌+◌, ℕ, List, [], ◌∷◌, ◌++◌, map, Option, Some, None, is_some, if◌then◌else◌, inl, inr, refl, arith, subst}
use Rattle.std.proofs.Math.Pow.{pow_mono}
use Rattle.std.specs.List.{AllByRecursion, list_all}
use Rattle.std.specs.Option.{option_and_then, option_map}
use Rattle.wasm_bodies.specs.BodyContext.{ModuleItems, BodyContext, provided, written, meant}
use Rattle.wasm_bodies.specs.Bodies.{Code, done, simple, block, loop, if_then, if_else, Entered, entered, entered_with, block_signature, start_of, after_block, Judged, IsTyped, Run, IsWritten, locals_of_runs, parameter, IsFunctionBody}
use Rattle.wasm_bodies.specs.Effects.{Labels, effect_of, effect}
use Rattle.wasm_bodies.specs.Operands.{State, taken, applied, fresh}
use Rattle.wasm_bodies.specs.OperatorGates.{gate_of, is_on}
use Rattle.wasm_bodies.specs.OperatorGrammar.{IsIndexWith, IsAlignment, IsOffset, IsMemoryArgument, IsBlockType, AreImmediates, IsOperators}
use Rattle.wasm_bodies.specs.Operators.{BlockType, Empty, Value, Indexed, MemoryArgument, Operator, Unreachable, Block, Loop, If, Br, BrIf, BrTable, Return, CallIndirect, ReturnCall, ReturnCallIndirect, ReturnCallRef, BrOnNull, BrOnNonNull, Drop, Select, SelectTyped, LocalGet, LocalSet, LocalTee, RefIsNull, RefAsNonNull, RefNull, AnyConvertExtern, ExternConvertAny, Load, Store, MemorySize, MemoryGrow}
use Rattle.wasm_bodies.specs.Signatures.{signature_of}
use Rattle.wasm_bodies.proofs.Judging.{under}
use Rattle.wasm_spec.proofs.Encodings.{small}
use Rattle.wasm_spec.specs.Bytes.{IsUnsigned, IsU32, IsPair}
use Rattle.wasm_spec.specs.Features.{Flag, Features, has, ReferenceTypes, MultiValue, Simd, Floats, MultiMemory, Memory64, Exceptions, FunctionReferences, Gc, GcTypes, StackSwitching}
use Rattle.wasm_spec.specs.Gates.{is_allowed_abstract, is_allowed_heap, is_allowed}
use Rattle.wasm_spec.specs.Types.{AbstractHeapType, Func, Extern, Any, None as NoneType, NoExtern, NoFunc, Eq, Struct, Array, I31, Exn, NoExn, Cont, NoCont, HeapType, Abstract, Concrete, ValType, I32, I64, F32, F64, V128, Ref, FuncType}

-- ---- conditions

both_on : (a b c d : Bool) → (a ≡ true → c ≡ true) → (b ≡ true → d ≡ true) → (a && b) ≡ true → (c && d) ≡ true
both_on true b c d f g e = rw (f refl) (g e)
both_on false b c d f g e = absurd cc

some_on : (a b c d : Bool) → (a ≡ true → c ≡ true) → (b ≡ true → d ≡ true) → (a || b) ≡ true → (c || d) ≡ true
some_on true b c d f g e = rw (f refl) refl
some_on false b true d f g e = refl
some_on false b false d f g e = g e

-- what there is stays
map_up : {A B : Type 0} (f : A → B) (o p : Option A) → ((a : A) → o ≡ Some a → p ≡ Some a) → (b : B) → option_map f o ≡ Some b → option_map f p ≡ Some b
map_up f None p up b e = absurd cc
map_up f (Some a) p up b e = rw (up a refl) e

then_up : {A B : Type 0} (f g : A → Option B) (o p : Option A) → ((a : A) → o ≡ Some a → p ≡ Some a) → ((a : A) (b : B) → f a ≡ Some b → g a ≡ Some b) → (b : B)
    → option_and_then f o ≡ Some b → option_and_then g p ≡ Some b
then_up f g None p up more b e = absurd cc
then_up f g (Some a) p up more b e = rw (up a refl) (more a b e)

module _ (fewer more : Features) (up : (flag : Flag) → has fewer flag ≡ true → has more flag ≡ true) where
  -- ---- gates

  abstract_up : (nullable : Bool) (heap : AbstractHeapType) → is_allowed_abstract fewer nullable heap ≡ true → is_allowed_abstract more nullable heap ≡ true
  abstract_up nullable Func = some_on nullable _ nullable _ (λ e. e) (up FunctionReferences)
  abstract_up nullable Extern = both_on _ _ _ _ (up GcTypes) (some_on nullable _ nullable _ (λ e. e) (up FunctionReferences))
  abstract_up nullable Any = both_on _ _ _ _ (up GcTypes) (up Gc)
  abstract_up nullable NoneType = both_on _ _ _ _ (up GcTypes) (up Gc)
  abstract_up nullable NoExtern = both_on _ _ _ _ (up GcTypes) (up Gc)
  abstract_up nullable NoFunc = both_on _ _ _ _ (up GcTypes) (up Gc)
  abstract_up nullable Eq = both_on _ _ _ _ (up GcTypes) (up Gc)
  abstract_up nullable Struct = both_on _ _ _ _ (up GcTypes) (up Gc)
  abstract_up nullable Array = both_on _ _ _ _ (up GcTypes) (up Gc)
  abstract_up nullable I31 = both_on _ _ _ _ (up GcTypes) (up Gc)
  abstract_up nullable Exn = up Exceptions
  abstract_up nullable NoExn = both_on _ _ _ _ (up GcTypes) (up Exceptions)
  abstract_up nullable Cont = both_on _ _ _ _ (up GcTypes) (up StackSwitching)
  abstract_up nullable NoCont = both_on _ _ _ _ (up GcTypes) (up StackSwitching)

  heap_up : {R : Type 0} (nullable : Bool) (heap : HeapType R) → is_allowed_heap fewer nullable heap ≡ true → is_allowed_heap more nullable heap ≡ true
  heap_up nullable (Abstract heap) = abstract_up nullable heap
  heap_up nullable (Concrete index) = some_on _ _ _ _ (up Gc) (up FunctionReferences)

  allowed_up : {R : Type 0} (type : ValType R) → is_allowed fewer type ≡ true → is_allowed more type ≡ true
  allowed_up I32 e = refl
  allowed_up I64 e = refl
  allowed_up F32 e = up Floats e
  allowed_up F64 e = up Floats e
  allowed_up V128 e = up Simd e
  allowed_up (Ref nullable heap) e = both_on _ _ _ _ (up ReferenceTypes) (heap_up nullable heap) e

  gates_up : (flags : List Flag) → list_all (has fewer) flags ≡ true → list_all (has more) flags ≡ true
  gates_up [] e = refl
  gates_up (flag ∷ flags) e = both_on _ _ _ _ (up flag) (gates_up flags) e

  on_up : (operator : Operator ℕ) → is_on fewer operator ≡ true → is_on more operator ≡ true
  on_up operator = gates_up (gate_of operator)

  provided_up : {A : Type 0} (o p : Option A) (a b : Bool) → (a ≡ true → b ≡ true) → ((x : A) → o ≡ Some x → p ≡ Some x) → (x : A) → provided a o ≡ Some x → provided b p ≡ Some x
  provided_up o p a b f g x e = let u = under a o x e in rw (f u.0) (g x u.1)

  written_up : {R : Type 0} (items : ModuleItems R) (type : ValType ℕ) (x : ValType R) → written fewer items type ≡ Some x → written more items type ≡ Some x
  written_up items type = provided_up (meant items type) (meant items type) (is_allowed fewer type) (is_allowed more type) (allowed_up type) (λ x e. e)

  -- ---- operators

  module _ {R : Type 0} (cx : BodyContext R) where
    abbrev old : BodyContext R
    old = record cx { features = fewer }

    abbrev new : BodyContext R
    new = record cx { features = more }

    signature_up : (operator : Operator ℕ) (type : FuncType R) → signature_of old operator ≡ Some type → signature_of new operator ≡ Some type
    signature_up (SelectTyped (t ∷ [])) type e = map_up _ (written fewer cx.items t) (written more cx.items t) (written_up cx.items t) type e
    signature_up (RefNull heap) type e = map_up _ (written fewer cx.items (Ref true heap)) (written more cx.items (Ref true heap)) (written_up cx.items (Ref true heap)) type e
    signature_up _ type e = e

    effect_of_up : (labels : Labels R) (s : State R) (operator : Operator ℕ) (m : State R) → effect_of old labels s operator ≡ Some m → effect_of new labels s operator ≡ Some m
    effect_of_up labels s Unreachable m e = e
    effect_of_up labels s (Br label) m e = e
    effect_of_up labels s (BrIf label) m e = e
    effect_of_up labels s (BrTable others default) m e = e
    effect_of_up labels s Return m e = e
    effect_of_up labels s (ReturnCall function) m e = e
    effect_of_up labels s (ReturnCallIndirect type table) m e = e
    effect_of_up labels s (ReturnCallRef type) m e = e
    effect_of_up labels s (BrOnNull label) m e = e
    effect_of_up labels s (BrOnNonNull label) m e = e
    effect_of_up labels s Drop m e = e
    effect_of_up labels s Select m e = e
    effect_of_up labels s (LocalGet local) m e = e
    effect_of_up labels s (LocalSet local) m e = e
    effect_of_up labels s (LocalTee local) m e = e
    effect_of_up labels s RefIsNull m e = e
    effect_of_up labels s RefAsNonNull m e = e
    effect_of_up labels s AnyConvertExtern m e = e
    effect_of_up labels s ExternConvertAny m e = e
    effect_of_up labels s operator m e =
        then_up (λ type. applied cx.items type s) (λ type. applied cx.items type s) (signature_of old operator) (signature_of new operator) (signature_up operator) (λ type b h. h) m e

    effect_up : (labels : Labels R) (s : State R) (operator : Operator ℕ) (m : State R) → effect old labels s operator ≡ Some m → effect new labels s operator ≡ Some m
    effect_up labels s operator = provided_up (effect_of old labels s operator) (effect_of new labels s operator) (is_on fewer operator) (is_on more operator) (on_up operator) (effect_of_up labels s operator)

    block_up : (type : BlockType ℕ) (signature : FuncType R) → block_signature old type ≡ Some signature → block_signature new type ≡ Some signature
    block_up Empty signature e = e
    block_up (Value type) signature e = map_up _ (written fewer cx.items type) (written more cx.items type) (written_up cx.items type) signature e
    block_up (Indexed index) signature e = e

    entered_up : (operator : Operator ℕ) (type : BlockType ℕ) (s : State R) (b : Entered R) → entered old operator type s ≡ Some b → entered new operator type s ≡ Some b
    entered_up operator type s =
        provided_up
        (option_and_then (λ signature. entered_with cx.items signature s) (block_signature old type))
        (option_and_then (λ signature. entered_with cx.items signature s) (block_signature new type))
        (is_on fewer operator) (is_on more operator) (on_up operator)
        (then_up (λ signature. entered_with cx.items signature s) (λ signature. entered_with cx.items signature s) (block_signature old type) (block_signature new type) (block_up type) (λ signature b h. h))

    chosen_up : (type : BlockType ℕ) (s : State R) (b : Entered R) → option_and_then (entered old (If type) type) (taken cx.items I32 s) ≡ Some b
        → option_and_then (entered new (If type) type) (taken cx.items I32 s) ≡ Some b
    chosen_up type s = then_up (entered old (If type) type) (entered new (If type) type) (taken cx.items I32 s) (taken cx.items I32 s) (λ m e. e) (entered_up (If type) type)

    -- ---- bodies

    judged_up : (labels : Labels R) (s : State R) (code : Code) (last : State R) → Judged old labels s code last → Judged new labels s code last
    judged_up labels s done last j = j
    judged_up labels s (simple operator rest) last j = (j.0, effect_up labels s operator j.0 j.1, judged_up labels j.0 rest last j.2)
    judged_up labels s (block type inner rest) last j =
        let b = j.0 in
        let i = j.2 in
        (b, entered_up (Block type) type s b j.1, (i.0, judged_up (b.signature.results ∷ labels) (start_of b) inner i.0 i.1, i.2), judged_up labels (after_block b) rest last j.3)
    judged_up labels s (loop type inner rest) last j =
        let b = j.0 in
        let i = j.2 in
        (b, entered_up (Loop type) type s b j.1, (i.0, judged_up (b.signature.params ∷ labels) (start_of b) inner i.0 i.1, i.2), judged_up labels (after_block b) rest last j.3)
    judged_up labels s (if_then type inner rest) last j =
        let b = j.0 in
        let i = j.2 in
        (b, chosen_up type s b j.1, (i.0, judged_up (b.signature.results ∷ labels) (start_of b) inner i.0 i.1, i.2), j.3, judged_up labels (after_block b) rest last j.4)
    judged_up labels s (if_else type inner other rest) last j =
        let b = j.0 in
        let i = j.2 in
        let o = j.3 in (
          b,
          chosen_up type s b j.1,
          (i.0, judged_up (b.signature.results ∷ labels) (start_of b) inner i.0 i.1, i.2),
          (o.0, judged_up (b.signature.results ∷ labels) (start_of b) other o.0 o.1, o.2),
          judged_up labels (after_block b) rest last j.4,
        )

    pub typed_up : (code : Code) → IsTyped old code → IsTyped new code
    typed_up code t = (t.0, judged_up (cx.results ∷ []) (fresh [] []) code t.0 t.1, t.2)

  -- ---- encodings

  index_up : (flag : Flag) (encoding : List ℕ) (index : ℕ) → IsIndexWith (has fewer flag) encoding index → IsIndexWith (has more flag) encoding index
  index_up flag encoding index = from (has fewer flag) (has more flag) (up flag)
    where
      from : (a b : Bool) → (a ≡ true → b ≡ true) → IsIndexWith a encoding index → IsIndexWith b encoding index
      from true b f h = rw (f refl) h
      from false true f h = rw h.0 rw h.1 (small 0 (omega arith))
      from false false f h = h

  below : (bits wide n : ℕ) → bits ≤ wide → n < 2 ^ bits → n < 2 ^ wide
  below bits wide n le h = let p : 2 ^ bits ≤ 2 ^ wide = pow_mono le in omega (arith, h, p)

  -- a number of so many bits is one of more
  wider : (bits wide : ℕ) (encoding : List ℕ) (n : ℕ) → bits ≤ wide → IsUnsigned bits encoding n → IsUnsigned wide encoding n
  wider bits wide [] n le h = h
  wider bits wide (b ∷ []) n le h = (h.0, below bits wide b le h.1, h.2)
  wider bits wide (b ∷ c ∷ bs) n le h = (h.0, h.1, omega (arith, le, h.2), h.3, h.4, wider (bits - 7) (wide - 7) (c ∷ bs) h.3 (omega (arith, le)) h.5)

  offset_up : (encoding : List ℕ) (n : ℕ) → IsOffset fewer encoding n → IsOffset more encoding n
  offset_up encoding n = from (has fewer Memory64) (has more Memory64) (up Memory64)
    where
      from : (a b : Bool) → (a ≡ true → b ≡ true) → IsUnsigned (if a then 64 else 32) encoding n → IsUnsigned (if b then 64 else 32) encoding n
      from true b f h = rw (f refl) h
      from false true f h = wider 32 64 encoding n (omega arith) h
      from false false f h = h

  alignment_up : (encoding : List ℕ) (place : ℕ × ℕ) → IsAlignment fewer encoding place → IsAlignment more encoding place
  alignment_up encoding place h = (h.0, from h.1)
    where
      from : (IsU32 encoding place.0 × (place.1 ≡ 0)) ⊎ ((has fewer MultiMemory ≡ true) × IsPair IsU32 IsU32 encoding (place.0 + 2 ^ 6, place.1))
          → (IsU32 encoding place.0 × (place.1 ≡ 0)) ⊎ ((has more MultiMemory ≡ true) × IsPair IsU32 IsU32 encoding (place.0 + 2 ^ 6, place.1))
      from (inl i) = inl i
      from (inr i) = inr (up MultiMemory i.0, i.1)

  argument_up : (encoding : List ℕ) (argument : MemoryArgument) → IsMemoryArgument fewer encoding argument → IsMemoryArgument more encoding argument
  argument_up encoding argument h = (h.0, h.1, h.2, alignment_up h.0 (argument.exponent, argument.memory) h.3, offset_up h.1 argument.offset h.4)

  block_type_up : (encoding : List ℕ) (type : BlockType ℕ) → IsBlockType fewer encoding type → IsBlockType more encoding type
  block_type_up encoding Empty h = h
  block_type_up encoding (Value type) h = h
  block_type_up encoding (Indexed index) h = (up MultiValue h.0, h.1)

  immediates_up : (encoding : List ℕ) (operator : Operator ℕ) → AreImmediates fewer encoding operator → AreImmediates more encoding operator
  immediates_up encoding (Block type) h = block_type_up encoding type h
  immediates_up encoding (Loop type) h = block_type_up encoding type h
  immediates_up encoding (If type) h = block_type_up encoding type h
  immediates_up encoding (CallIndirect type table) h = (h.0, h.1, h.2, h.3, index_up ReferenceTypes h.1 table h.4)
  immediates_up encoding (Load row argument) h = (argument_up encoding argument h.0, h.1)
  immediates_up encoding (Store row argument) h = (argument_up encoding argument h.0, h.1)
  immediates_up encoding (MemorySize memory) h = index_up MultiMemory encoding memory h
  immediates_up encoding (MemoryGrow memory) h = index_up MultiMemory encoding memory h
  immediates_up encoding _ h = h

  operators_up : (encoding : List ℕ) (operators : List (Operator ℕ)) → IsOperators fewer encoding operators → IsOperators more encoding operators
  operators_up encoding [] h = h
  operators_up encoding (operator ∷ operators) h =
      let o = h.3 in
      (h.0, h.1, h.2, (o.0, o.1, o.2, o.3, immediates_up o.1 operator o.4), operators_up h.1 operators h.4)

  -- ---- bytes of bodies

  module _ {R : Type 0} (items : ModuleItems R) where
    run_up : (run : Run) → IsWritten fewer items run → (x : ValType R) × (written fewer items run.type ≡ Some x) × (written more items run.type ≡ Some x)
    run_up run = from (written fewer items run.type) (written_up items run.type)
      where
        from : (o : Option (ValType R)) → ((x : ValType R) → o ≡ Some x → written more items run.type ≡ Some x) → is_some o ≡ true → (x : ValType R) × (o ≡ Some x) × (written more items run.type ≡ Some x)
        from None f e = absurd cc
        from (Some x) f e = (x, refl, f x refl)

    runs_up : (runs : List Run) → AllByRecursion (IsWritten fewer items) runs → AllByRecursion (IsWritten more items) runs × (locals_of_runs fewer items runs ≡ locals_of_runs more items runs)
    runs_up [] h = (tt, refl)
    runs_up (run ∷ runs) h =
        let r = run_up run h.0 in
        let rest = runs_up runs h.1 in
        ((rw r.2 refl, rest.0), rw (r.1, r.2, rest.1) refl)

    pub body_up : (type : FuncType R) (bytes : List ℕ) → IsFunctionBody fewer items type bytes → IsFunctionBody more items type bytes
    body_up type bytes b =
        let r = runs_up b.runs b.locals.written in
        let cx : BodyContext R = record { features = fewer; items = items; locals = map parameter type.params ++ locals_of_runs fewer items b.runs; results = type.results } in
        record {
          runs = b.runs;
          operators = b.operators;
          locals_encoding = b.locals_encoding;
          code_encoding = b.code_encoding;
          begins = b.begins;
          locals = record { declared = b.locals.declared; written = r.0; within = b.locals.within };
          spelled = operators_up b.code_encoding b.operators b.spelled;
          typed = record {
            code = b.typed.code;
            is_flat = b.typed.is_flat;
            typed =
                subst (λ locals. IsTyped (record { features = more; items = items; locals = map parameter type.params ++ locals; results = type.results }) b.typed.code) r.1
                (typed_up cx b.typed.code b.typed.typed);
          };
        }
