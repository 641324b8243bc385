-- Plain operators: what is read of them, and where they lead.
use Rattle.std.proofs.Common.{◌≡◌, ◌≢◌, ℕ, ℤ, ◌<◌, ◌≤◌, Bool, true, false, List, [], ◌∷◌, length, map, drop, take, reverse, Option, Some, None, Result, Ok, Err, refl, sym, ap, subst, ◌∙◌, arith, inl, inr}
use Rattle.std.specs.Prelude.{◌==◌, if◌then◌else◌, is_ok, slice_get}
use Rattle.std.specs.Bool.{OnFalse, OnTrue}
use Rattle.std.specs.List.{list_all}
use Rattle.std.specs.Option.{option_and_then, option_map}
use Rattle.std.proofs.lemmas.Bool.Decides.{eqb_tells}
use Rattle.std.proofs.lemmas.List.{length-reverse, length-take, nil_from_length}
use Rattle.wasm_bodies.specs.BodyContext.{BodyContext, ModuleItems, provided}
use Rattle.wasm_bodies.specs.Effects.{effect_of}
use Rattle.wasm_bodies.specs.OperatorGates.{float_gate, is_on}
use Rattle.wasm_bodies.specs.OperatorRows.{AccessRow, Byte, NumberType, Int32, Int64, access, value_type}
use Rattle.wasm_bodies.specs.Operands.{Known, Operand, State, all_taken, applied, each_taken, given, popped, put, taken}
use Rattle.wasm_bodies.specs.Operators.{BlockType, MemoryArgument, Operator, BrIf, Else, End, I32Const, I64Const, Load, Scalar, Store}
use Rattle.wasm_bodies.specs.Signatures.{accessed, from_to, is_in_range, memory_index}
use Rattle.wasm_bodies_laws.specs.Machine.{Frame, Machine, is_structural, labels_of, opened, stepped, stepped_in, structural, with_block}
use Rattle.wasm_bodies_laws.proofs.HeldOptions.{all_reverse}
use Rattle.wasm_bodies_laws.proofs.MappedOptions.{reverse_map}
use Rattle.wasm_core_read.proofs.Forms.{some_is}
use Rattle.wasm_core_read.specs.Reading.{unsigned_at}
use Rattle.wasm_spec.specs.Features.{Features, has}
use Rattle.wasm_spec.specs.Types.{MemoryType, ValType, I32, I64}
use Rattle.wasmparser_bodies.proofs.Runs.{leads_further, leaves_less}
use Rattle.wasmparser_bodies.specs.Runs.{LeadsOn}
use Rattle.wasmparser_operators.specs.CodeTables.{row_of}
use Rattle.wasmparser_operators.specs.ScalarValues.{row_or_none}
use Rattle.wasmparser_func_validator.specs.NumericForms.{form_gives, form_takes}
use Rattle.wasmparser_func_validator.specs.declared.numeric.NumericForm.{NumericForm}
use Rattle.wasmparser_operators.specs.OperatorReading.{Access, All, Bare, Float, Number, OfBlock, Shape, Signed, block_type_at, code_at, kept_operator_at, memory_argument_at, operator_at, shape_at, shape_of}
use Rattle.wasmparser_bodies.specs.StackChanges.{at_list, lowered}
use Rattle.wasmparser_types.specs.Index.{Index}
use Rattle.wasmparser_func_validator.specs.Plain.{AreItself, IsCoded, IsNumber, IsPast, IsPastFloat, IsScalarForm, IsStep, LeadsTo, NumbersFit, TriesBare, TriesBlock, TriesEffect, TriesNumber}
use Rattle.wasmparser_func_validator.specs.Steps.{Steps, Takes}
use Rattle.wasmparser_func_validator.specs.declared.refusal.Refusal.{Refusal}
use Rattle.wasmparser_func_validator.specs.declared.refusal.Refusal.TheVariants.{Invalid, Memory}
use Rattle.wasmparser_func_validator.proofs.Stepping.{in_plain}

-- ---- reading

pub coded_reads : (features : Features) (code : ℕ) (shape : Shape) (rest : List ℕ) → IsCoded code shape → operator_at features (code ∷ rest) ≡ shape_at All features shape rest
unfolding kept_operator_at code_at
coded_reads features code shape rest h = rw (h.0, h.1) refl

pub bare_step : (cx : BodyContext Index) (old new : Machine Index) (code : ℕ) (rest : List ℕ) → TriesBare cx old new code true → IsStep cx old new (code ∷ rest) rest
bare_step cx old new code rest h = (h.0, coded_reads cx.features code (Bare h.0) rest h.1, h.2)

pub number_step : (cx : BodyContext Index) (old new : Machine Index) (code number : ℕ) (bytes rest : List ℕ) → unsigned_at 32 bytes ≡ Some (number, rest) → TriesNumber cx old new code number true → IsStep cx old new (code ∷ bytes) rest
number_step cx old new code number bytes rest e h = (h.0 number, coded_reads cx.features code (Number h.0) bytes h.1 ∙ rw e refl, h.2)

-- ---- what calls tell that may refuse

pub tried : (wanted : Option (State Index)) (old new : Machine Index) (r : Result (Unit {0}) Refusal) (b : Bool) → b ≡ is_ok r → Takes wanted old new r → TriesEffect wanted old new b
tried wanted old new (Ok x) b e h = subst (λ t. TriesEffect wanted old new t) (sym e) h
tried wanted old new (Err Invalid) b e h = subst (λ t. TriesEffect wanted old new t) (sym e) h.1
tried wanted old new (Err Memory) b e h = subst (λ t. TriesEffect wanted old new t) (sym e) h.1

-- ---- where operators without an inner list lead

still_inside : (old new : Machine Index) → old.frames ≢ [] → new.frames ≡ old.frames → new.frames ≢ []
still_inside old new inside same none = inside (sym same ∙ none)

leads : (cx : BodyContext Index) (old new : Machine Index) (operator : Operator ℕ) → old.frames ≢ [] → is_structural operator ≡ false → is_on cx.features operator ≡ true
    → TriesEffect (effect_of cx (labels_of cx.items old.frames) old.now operator) old new true → LeadsTo cx old new operator
leads cx old new operator inside simple on h = (in_plain cx old new operator (Ok tt) inside simple (sym on) h, still_inside old new inside h.1)

pub number_tried : (cx : BodyContext Index) (old new : Machine Index) (code number : ℕ) (make : ℕ → Operator ℕ) (b : Bool) → IsCoded code (Number make) → is_structural (make number) ≡ false → is_on cx.features (make number) ≡ true → old.frames ≢ []
    → TriesEffect (effect_of cx (labels_of cx.items old.frames) old.now (make number)) old new b → TriesNumber cx old new code number b
number_tried cx old new code number make true coded simple on inside h = (make, coded, leads cx old new (make number) inside simple on h)
number_tried cx old new code number make false coded simple on inside h = h

pub bare_tried : (cx : BodyContext Index) (old new : Machine Index) (code : ℕ) (operator : Operator ℕ) (b : Bool) → IsCoded code (Bare operator) → is_structural operator ≡ false → is_on cx.features operator ≡ true → old.frames ≢ []
    → TriesEffect (effect_of cx (labels_of cx.items old.frames) old.now operator) old new b → TriesBare cx old new code b
bare_tried cx old new code operator true coded simple on inside h = (operator, coded, leads cx old new operator inside simple on h)
bare_tried cx old new code operator false coded simple on inside h = h

-- ---- blocks

pub stepped_tried : (cx : BodyContext Index) (old new : Machine Index) (code : ℕ) (operator : Operator ℕ) (r : Result (Unit {0}) Refusal) (b : Bool) → IsCoded code (Bare operator) → (stepped cx old operator ≡ Some new → new.frames ≢ [])
    → b ≡ is_ok r → Steps (stepped cx old operator) old new r → TriesBare cx old new code b
stepped_tried cx old new code operator (Ok x) b coded inside e h = subst (λ t. TriesBare cx old new code t) (sym e) (operator, coded, (h, inside h))
stepped_tried cx old new code operator (Err Invalid) b coded inside e h = subst (λ t. TriesBare cx old new code t) (sym e) h.1
stepped_tried cx old new code operator (Err Memory) b coded inside e h = subst (λ t. TriesBare cx old new code t) (sym e) h.1

some_frames : (m : Machine Index) (f : Frame Index) (fs : List (Frame Index)) → m.frames ≡ f ∷ fs → m.frames ≢ []
some_frames m f fs e none = let g = sym e ∙ none in absurd cc

-- the second list of an `if` is within a block
pub else_inside : (cx : BodyContext Index) (old new : Machine Index) → stepped cx old Else ≡ Some new → new.frames ≢ []
else_inside cx old new e = by_frames old.frames e
  where
    by_flag : (b : Bool) (n : Machine Index) (f : Frame Index) (fs : List (Frame Index)) → n.frames ≡ f ∷ fs → provided b (Some n) ≡ Some new → new.frames ≢ []
    by_flag true n f fs is h = some_frames new f fs (ap (λ (m : Machine Index). m.frames) (sym (some_is n new h)) ∙ is)
    by_flag false n f fs is h = absurd cc

    by_frames : (frames : List (Frame Index)) → stepped_in cx frames old.now Else ≡ Some new → new.frames ≢ []
    by_frames [] h = absurd cc
    by_frames (f ∷ fs) h = by_flag _ _ _ fs refl h

-- a block that ends within another one
pub ended_inside : (cx : BodyContext Index) (old new : Machine Index) → 1 < length old.frames → stepped cx old End ≡ Some new → new.frames ≢ []
ended_inside cx old new more e = by_frames old.frames more e
  where
    by_flag : (b : Bool) (n : Machine Index) (fs : List (Frame Index)) → n.frames ≡ fs → 0 < length fs → provided b (Some n) ≡ Some new → new.frames ≢ []
    by_flag true n fs is lt h none =
        let left : length fs ≡ 0 = ap length (sym is ∙ ap (λ (m : Machine Index). m.frames) (some_is n new h) ∙ none) in
        absurd (omega (arith, lt, left))
    by_flag false n fs is lt h none = absurd cc

    by_frames : (frames : List (Frame Index)) → 1 < length frames → stepped_in cx frames old.now End ≡ Some new → new.frames ≢ []
    by_frames [] lt h = absurd cc
    by_frames (f ∷ fs) lt h = by_flag _ _ fs refl (omega (arith, lt)) h

pub opened_inside : (cx : BodyContext Index) (old new : Machine Index) (operator : Operator ℕ) → is_structural operator ≡ true → operator ≢ End → operator ≢ Else → stepped cx old operator ≡ Some new → new.frames ≢ []
opened_inside cx old new operator is not_end not_else e = by_frames old.frames e
  where
    by_block : (fs : List (Frame Index)) (o : Option (Frame Index)) → option_map (with_block cx.items fs) o ≡ Some new → new.frames ≢ []
    by_block fs None h = absurd cc
    by_block fs (Some f) h = some_frames new f fs (ap (λ (m : Machine Index). m.frames) (sym (some_is (with_block cx.items fs f) new h)))

    by_operator : (o : Operator ℕ) (f : Frame Index) (fs : List (Frame Index)) → o ≢ End → o ≢ Else → structural cx f fs old.now o ≡ Some new → new.frames ≢ []
    by_operator End f fs a b h = absurd (a refl)
    by_operator Else f fs a b h = absurd (b refl)
    by_operator o f fs a b h = by_block (f ∷ fs) (opened cx old.now o) h

    by_frames : (frames : List (Frame Index)) → stepped_in cx frames old.now operator ≡ Some new → new.frames ≢ []
    by_frames [] h = absurd cc
    by_frames (f ∷ fs) h = by_operator operator f fs not_end not_else (rw is at h)

pub block_tried : (cx : BodyContext Index) (old new : Machine Index) (code : ℕ) (type : BlockType ℕ) (make : BlockType ℕ → Operator ℕ) (r : Result (Unit {0}) Refusal) (b : Bool) → IsCoded code (OfBlock make) → is_structural (make type) ≡ true → make type ≢ End → make type ≢ Else
    → b ≡ is_ok r → Steps (stepped cx old (make type)) old new r → TriesBlock cx old new code type b
block_tried cx old new code type make (Ok x) b coded is not_end not_else e h = subst (λ t. TriesBlock cx old new code type t) (sym e) (make, coded, (h, opened_inside cx old new (make type) is not_end not_else h))
block_tried cx old new code type make (Err Invalid) b coded is not_end not_else e h = subst (λ t. TriesBlock cx old new code type t) (sym e) h.1
block_tried cx old new code type make (Err Memory) b coded is not_end not_else e h = subst (λ t. TriesBlock cx old new code type t) (sym e) h.1

pub block_step : (cx : BodyContext Index) (old new : Machine Index) (code : ℕ) (type : BlockType ℕ) (bytes rest : List ℕ) → block_type_at All cx.features bytes ≡ Some (type, rest) → TriesBlock cx old new code type true → IsStep cx old new (code ∷ bytes) rest
block_step cx old new code type bytes rest e h = (h.0 type, coded_reads cx.features code (OfBlock h.0) bytes h.1 ∙ rw e refl, h.2)

-- ---- loads, stores and constants

-- addresses are numbers
pub accessed_number : (items : ModuleItems Index) (row : AccessRow) (argument : MemoryArgument) (type : ValType Index) → Some type ≡ accessed items row argument → IsNumber type
accessed_number items row argument type e = by_memory (slice_get items.memories argument.memory) e
  where
    by_width : (b : Bool) → Some type ≡ Some (if b then I64 else I32) → IsNumber type
    by_width true h = (Int64, some_is type I64 h)
    by_width false h = (Int32, some_is type I32 h)

    by_range : (b : Bool) (m : MemoryType) → Some type ≡ provided b (Some (memory_index m)) → IsNumber type
    by_range true m h = by_width m.is_64 h
    by_range false m h = absurd cc

    by_memory : (m : Option MemoryType) → Some type ≡ option_and_then (λ memory. provided (is_in_range row argument memory) (Some (memory_index memory))) m → IsNumber type
    by_memory None h = absurd cc
    by_memory (Some m) h = by_range (is_in_range row argument m) m h

pub is_itself : (items : ModuleItems Index) (type : ValType Index) → NumbersFit items → IsNumber type → items.is_below type type ≡ true
is_itself items type fit n = subst (λ t. items.is_below t t ≡ true) (sym n.1) (fit n.0)

module _ (cx : BodyContext Index) (old new : Machine Index) (code exponent : ℕ) (type : NumberType) (argument : MemoryArgument) (address : ValType Index) (bytes rest : List ℕ)
    (inside : old.frames ≢ []) (on : list_all (has cx.features) (float_gate (type ∷ [])) ≡ true) (reads : memory_argument_at cx.features bytes ≡ Some (argument, rest))
    (is : Some address ≡ accessed cx.items (access 0 Int32 exponent) argument) where
  pub load_step : IsCoded code (Access (λ a. Load (access code type exponent) a)) → TriesEffect (applied cx.items (from_to (address ∷ []) (value_type type ∷ [])) old.now) old new true → IsStep cx old new (code ∷ bytes) rest
  load_step coded h =
      let row = access code type exponent in
      let effect : effect_of cx (labels_of cx.items old.frames) old.now (Load row argument) ≡ applied cx.items (from_to (address ∷ []) (value_type type ∷ [])) old.now =
      ap (λ o. option_and_then (λ signature. applied cx.items signature old.now) (option_map (λ a. from_to (a ∷ []) (value_type type ∷ [])) o)) (sym is) in
      (Load row argument, coded_reads cx.features code (Access (λ a. Load row a)) bytes coded ∙ rw reads refl, leads cx old new (Load row argument) inside refl on (effect ∙ h.0, h.1))

  pub store_step : IsCoded code (Access (λ a. Store (access code type exponent) a)) → TriesEffect (applied cx.items (from_to (address ∷ value_type type ∷ []) []) old.now) old new true → IsStep cx old new (code ∷ bytes) rest
  store_step coded h =
      let row = access code type exponent in
      let effect : effect_of cx (labels_of cx.items old.frames) old.now (Store row argument) ≡ applied cx.items (from_to (address ∷ value_type type ∷ []) []) old.now =
      ap (λ o. option_and_then (λ signature. applied cx.items signature old.now) (option_map (λ a. from_to (a ∷ value_type type ∷ []) []) o)) (sym is) in
      (Store row argument, coded_reads cx.features code (Access (λ a. Store row a)) bytes coded ∙ rw reads refl, leads cx old new (Store row argument) inside refl on (effect ∙ h.0, h.1))

-- an operator on numbers, of this form
pub scalar_step : (cx : BodyContext Index) (old new : Machine Index) (code : ℕ) (form : NumericForm) (rest : List ℕ) → old.frames ≢ [] → IsScalarForm code form → true ≡ list_all (has cx.features) (float_gate (form_gives form ∷ form_takes form))
    → TriesEffect (applied cx.items (from_to (map value_type (form_takes form)) (value_type (form_gives form) ∷ [])) old.now) old new true → IsStep cx old new (code ∷ rest) rest
scalar_step cx old new code form rest inside is on h =
    let row = row_or_none (row_of (Byte code)) in
    let allowed : is_on {R = ℕ} cx.features (Scalar (row_or_none (row_of (Byte code)))) ≡ true = rw is.3 (rw (is.1, is.2) at (sym on)) in
    let does : TriesEffect (applied cx.items (from_to (map value_type (row_or_none (row_of (Byte code))).takes) (value_type (row_or_none (row_of (Byte code))).gives ∷ [])) old.now) old new true = rw (is.1, is.2) at h in
    bare_step cx old new code rest (Scalar row, is.0, leads cx old new (Scalar row) inside refl allowed does)

-- a jump to a label that takes nothing, if it is made
pub jump_tried : (cx : BodyContext Index) (old new : Machine Index) (label : ℕ) (b : Bool) → cx.items.is_below I32 I32 ≡ true → slice_get (labels_of cx.items old.frames) label ≡ Some [] → OnTrue b (popped old.now ≡ Some (Known I32, new.now)) → new.frames ≡ old.frames
    → OnFalse b (new ≡ old) → TriesEffect (effect_of cx (labels_of cx.items old.frames) old.now (BrIf label)) old new b
jump_tried cx old new label true itself at is frames same =
    let taking : taken cx.items I32 old.now ≡ Some new.now = rw (is, itself) refl in
    (rw (taking, at) refl, frames)
jump_tried cx old new label false itself at is frames same = same

pub int32_coded : IsCoded 0x41 (Signed 32 (λ value. I32Const value))
unfolding shape_of
int32_coded = (refl, refl)

pub int64_coded : IsCoded 0x42 (Signed 64 (λ value. I64Const value))
unfolding shape_of
int64_coded = (refl, refl)

pub constant_step : (cx : BodyContext Index) (old new : Machine Index) (code bits : ℕ) (make : ℤ → Operator ℕ) (type : ValType Index) (bytes rest : List ℕ) → IsCoded code (Signed bits make) → ((v : ℤ) → (is_structural (make v) ≡ false) × (is_on cx.features (make v) ≡ true)
    × (effect_of cx (labels_of cx.items old.frames) old.now (make v) ≡ Some (put (Known type) old.now))) → old.frames ≢ [] → IsPast bits bytes rest → new ≡ at_list (put (Known type) old.now) old → IsStep cx old new (code ∷ bytes) rest
constant_step cx old new code bits make type bytes rest coded plain inside past e =
    let p = plain past.0 in (
      make past.0,
      coded_reads cx.features code (Signed bits make) bytes coded ∙ rw past.1 refl,
      leads cx old new (make past.0) inside p.0 p.1 (p.2 ∙ ap (λ (m : Machine Index). Some m.now) (sym e), ap (λ (m : Machine Index). m.frames) e),
    )

pub float_step : (cx : BodyContext Index) (old new : Machine Index) (code len : ℕ) (make : ℕ → Operator ℕ) (type : ValType Index) (bytes rest : List ℕ) → IsCoded code (Float len make) → ((v : ℕ) → (is_structural (make v) ≡ false) × (is_on cx.features (make v) ≡ true)
    × (effect_of cx (labels_of cx.items old.frames) old.now (make v) ≡ Some (put (Known type) old.now))) → old.frames ≢ [] → IsPastFloat len bytes rest → new ≡ at_list (put (Known type) old.now) old → IsStep cx old new (code ∷ bytes) rest
float_step cx old new code len make type bytes rest coded plain inside past e =
    let p = plain past.0 in (
      make past.0,
      coded_reads cx.features code (Float len make) bytes coded ∙ rw past.1 refl,
      leads cx old new (make past.0) inside p.0 p.1 (p.2 ∙ ap (λ (m : Machine Index). Some m.now) (sym e), ap (λ (m : Machine Index). m.frames) e),
    )

-- ---- operands of exactly the types that are wanted

module _ (items : ModuleItems Index) where
  each_known : (types : List (ValType Index)) (known : List (Operand Index)) (is_open : Bool) (assigned : List ℕ) → AreItself items types → take (length types) known ≡ map (λ type. Known type) types
      → each_taken items types (record { known = known; is_open = is_open; assigned = assigned }) ≡ Some (record { known = drop (length types) known; is_open = is_open; assigned = assigned })
  each_known [] known is_open assigned fit e = refl
  each_known (type ∷ types) [] is_open assigned fit e = absurd (cc e)
  each_known (type ∷ types) (x ∷ known) is_open assigned fit e =
      let head : x ≡ Known type = cc e in
      let tail : take (length types) known ≡ map (λ t. Known t) types = cc e in
      rw (head, fit.0) (each_known types known is_open assigned fit.1 tail)

  pub all_known : (types : List (ValType Index)) (s : State Index) → AreItself items types → take (length types) s.known ≡ reverse (map (λ type. Known type) types) → all_taken items types s ≡ Some (lowered (length types) s)
  all_known types s fit e =
      let len : length (reverse types) ≡ length types = length-reverse types in
      let e' : take (length (reverse types)) s.known ≡ map (λ type. Known type) (reverse types) = rw len (e ∙ reverse_map (λ type. Known type) types) in
      each_known (reverse types) s.known s.is_open s.assigned (all_reverse (λ type. items.is_below type type ≡ true) types fit) e' ∙ ap (λ m. Some (lowered m s)) len

-- a list of length 0
pub none_left : {X : Type 0} (xs : List X) → true ≡ (length xs == 0) → xs ≡ []
none_left xs e = elim (eqb_tells (length xs) 0) [
  | inl (t, none) ↦ nil_from_length xs none
  | inr (t, some) ↦ let f = e ∙ t in absurd cc
]

pub many_known : (types known : List (Operand Index)) → take (length types) known ≡ reverse types → length types ≤ length known
many_known types known e = omega (arith, ap length e, length-take (length types) known, length-reverse types)

-- an address and a number
pub two_taken : (items : ModuleItems Index) (old new : Machine Index) (under top : ValType Index) → items.is_below under under ≡ true → items.is_below top top ≡ true → take 2 old.now.known ≡ Known top ∷ Known under ∷ [] → new ≡ at_list (lowered 2 old.now) old
    → TriesEffect (applied items (from_to (under ∷ top ∷ []) []) old.now) old new true
two_taken items old new under top a b known e = (
  ap (option_map (given [])) (all_known items (under ∷ top ∷ []) old.now (a, (b, tt)) known) ∙ ap (λ (m : Machine Index). Some m.now) (sym e),
  ap (λ (m : Machine Index). m.frames) e,
)

-- ---- the loop

pub steps_further : (cx : BodyContext Index) (old mid new : Machine Index) (bytes rest after : List ℕ) → LeadsOn cx old mid bytes rest → IsStep cx mid new rest after → LeadsOn cx old new bytes after
steps_further cx old mid new bytes rest after l s = leads_further cx old mid new s.0 bytes rest after l s.1 s.2.0 s.2.1

pub gets_shorter : (cx : BodyContext Index) (old new : Machine Index) (bytes rest : List ℕ) → IsStep cx old new bytes rest → length rest < length bytes
gets_shorter cx old new bytes rest s = leaves_less cx s.0 bytes rest s.1
