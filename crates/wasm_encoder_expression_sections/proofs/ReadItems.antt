-- What is written of tables, globals and segments reads as these.
use Rattle.std.proofs.Common.{◌≡◌, ℕ, ◌<◌, ◌^◌, Bool, true, false, nat_eq, List, [], ◌∷◌, ◌++◌, length, Option, Some, None, inl, inr, refl, sym, ap, subst, arith, if◌then◌else◌}
use Rattle.std.specs.Bool.{⊤}
use Rattle.std.specs.List.{AllByRecursion, AllZip}
use Rattle.wasm_encoder_bodies.specs.Expressions.{expression_encoding}
use Rattle.wasm_encoder_expression_sections.specs.ItemEncodings.{table_encoding, global_encoding, ElementMode, Active, Passive, Declared, Elements, Functions, Expressions, is_funcref, written_mode, form_encoding, element_encoding, DataMode, ActiveData, PassiveData, memory_encoding, data_encoding}
use Rattle.wasm_encoder_expression_sections.specs.ReadItems.{ReadsAs, OptionReadsAs, ModeReadsAs, ElementsReadAs, SegmentReadsAs, DataReadsAs}
use Rattle.wasm_encoder_expression_sections.proofs.ReadLists.{list}
use Rattle.wasm_encoder_sections.specs.ItemEncodings.{table_type_encoding, global_type_encoding}
use Rattle.wasm_encoder_sections.specs.SmallItems.{IsSmallTable, IsSmallGlobal}
use Rattle.wasm_encoder_sections.proofs.ShortestEntities as entities
use Rattle.wasm_spec.specs.Bytes.{AreBytes, IsU32}
use Rattle.wasm_spec.specs.Constants.{ConstantExpression}
use Rattle.wasm_spec.specs.ConstantGrammar.{IsConstantExpression}
use Rattle.wasm_spec.specs.ModuleParts.{IsTable, IsGlobal, IsFunctionItems, IsExpressionItems, IsElementOf, IsElementSegment, IsContents, IsDataOf, IsDataSegment}
use Rattle.wasm_spec.specs.Shortest.{unsigned_encoding, list_encoding, framed_encoding}
use Rattle.wasm_spec.specs.SmallIndexes.{IsSmallIndex, IsSmallHeap}
use Rattle.wasm_spec.specs.Syntax as spec
use Rattle.wasm_spec.specs.TypeEncodings.{heap_encoding, ref_encoding}
use Rattle.wasm_spec.specs.TypeGrammar.{heap_code, IsHeapType, IsReference, IsRefType}
use Rattle.wasm_spec.specs.Types as types
use Rattle.wasm_spec.proofs.NumberLaws.{unsigned_spelled, shortest_positive}

-- ---- tables and globals

initialised : (type : types.TableType ℕ) (initialiser : Option (List ℕ)) (read : Option ConstantExpression) → IsSmallTable type → OptionReadsAs initialiser read
    → IsTable (table_encoding type initialiser) (record { type = type; initialiser = read })
unfolding table_encoding
initialised type None None small h = (entities.table type small).encodes
initialised type None (Some expression) small h = absurd h
initialised type (Some operators) None small h = absurd h
initialised type (Some operators) (Some expression) small h = (
  0x00 ∷ (table_type_encoding type ++ expression_encoding operators),
  refl,
  (table_type_encoding type ++ expression_encoding operators, refl, (table_type_encoding type, expression_encoding operators, refl, (entities.table type small).encodes, h)),
)

pub table : (type : types.TableType ℕ) (initialiser : Option (List ℕ)) (read : spec.Table) → IsSmallTable type → read.type ≡ type → OptionReadsAs initialiser read.initialiser
    → IsTable (table_encoding type initialiser) read
table type initialiser read small same h =
    subst (λ (t : types.TableType ℕ). IsTable (table_encoding type initialiser) (record { type = t; initialiser = read.initialiser })) (sym same)
    (initialised type initialiser read.initialiser small h)

pub global : (type : types.GlobalType ℕ) (initialiser : List ℕ) (read : spec.Global) → IsSmallGlobal type → read.type ≡ type → ReadsAs initialiser read.initialiser
    → IsGlobal (global_encoding type initialiser) read
unfolding global_encoding
global type initialiser read small same h =
    subst (λ (t : types.GlobalType ℕ). IsGlobal (global_type_encoding type ++ expression_encoding initialiser) (record { type = t; initialiser = read.initialiser })) (sym same)
    (global_type_encoding type, expression_encoding initialiser, refl, (entities.global type small).encodes, h)

-- ---- the elements of segments

heap : (type : types.HeapType ℕ) → IsSmallHeap type → IsHeapType (heap_encoding type) type
unfolding heap_encoding
heap (types.Abstract h) small = refl
heap (types.Concrete n) small = (shortest_positive 33 n small).encodes

reference : (nullable : Bool) (type : types.HeapType ℕ) → IsSmallHeap type → IsReference nullable (ref_encoding nullable type) type
unfolding ref_encoding heap_encoding
reference true (types.Abstract h) small = inr refl
reference true (types.Concrete n) small = inl (heap_encoding (types.Concrete n), refl, heap (types.Concrete n) small)
reference false type small = (heap_encoding type, refl, heap type small)

indexes : (functions : List ℕ) → AllByRecursion IsSmallIndex functions → AllZip (λ item value. IsU32 (unsigned_encoding item) value) functions functions
indexes [] h = tt
indexes (function ∷ functions) h = (unsigned_spelled 32 function h.0, indexes functions h.1)

function_items : (functions : List ℕ) → length functions < 2 ^ 32 → AllByRecursion IsSmallIndex functions → IsFunctionItems (list_encoding unsigned_encoding functions) functions
function_items functions few small = list IsU32 unsigned_encoding functions functions few (indexes functions small)

expression_items : (operators : List (List ℕ)) (read : List ConstantExpression) → length operators < 2 ^ 32 → AllZip ReadsAs operators read
    → IsExpressionItems (list_encoding expression_encoding operators) read
expression_items operators read few h = list IsConstantExpression expression_encoding operators read few h

-- the byte of the heap type of all functions is that type's alone
only_func : (heap : types.AbstractHeapType) → nat_eq (heap_code heap) 0x70 ≡ true → heap ≡ types.Func
only_func types.Func e = refl
only_func types.Extern e = absurd cc
only_func types.Any e = absurd cc
only_func types.None e = absurd cc
only_func types.NoExtern e = absurd cc
only_func types.NoFunc e = absurd cc
only_func types.Eq e = absurd cc
only_func types.Struct e = absurd cc
only_func types.Array e = absurd cc
only_func types.I31 e = absurd cc
only_func types.Exn e = absurd cc
only_func types.NoExn e = absurd cc
only_func types.Cont e = absurd cc
only_func types.NoCont e = absurd cc

funcref_is : (nullable : Bool) (heap : types.HeapType ℕ) → is_funcref nullable heap ≡ true → record { nullable = nullable; heap_type = heap } ≡ types.funcref
funcref_is true (types.Abstract heap) e = ap (λ h. record { nullable = true; heap_type = types.Abstract h }) (only_func heap e)
funcref_is true (types.Concrete n) e = absurd cc
funcref_is false heap e = absurd cc

-- ---- element segments

one_of : (code : ℕ) → code < 2 ^ 7 → IsU32 (code ∷ []) code
one_of code few = (few, omega (arith, few), refl)

-- where no table is written, expressions are of references to any function, or null
abbrev HasForm : ElementMode → Elements → Type 0
HasForm (Active None offset) (Expressions type expressions) = type ≡ types.funcref
HasForm _ _ = ⊤

chosen : (offset : List ℕ) (type : types.RefType ℕ) (expressions : List (List ℕ)) (is : Bool) → is_funcref type.nullable type.heap_type ≡ is
    → HasForm (Active (if is then None else Some 0) offset) (Expressions type expressions)
chosen offset type expressions true e = funcref_is type.nullable type.heap_type e
chosen offset type expressions false e = tt

has_form : (mode : ElementMode) (elements : Elements) → HasForm (written_mode mode elements) elements
has_form (Active (Some table) offset) (Functions functions) = tt
has_form (Active (Some table) offset) (Expressions type expressions) = tt
has_form (Active None offset) (Functions functions) = tt
has_form (Active None offset) (Expressions type expressions) = chosen offset type expressions (is_funcref type.nullable type.heap_type) refl
has_form Passive (Functions functions) = tt
has_form Passive (Expressions type expressions) = tt
has_form Declared (Functions functions) = tt
has_form Declared (Expressions type expressions) = tt

-- functions as the elements of a mode
of_functions : (mode : ElementMode) (functions : List ℕ) (read : spec.ElementMode) → ModeReadsAs mode read → IsFunctionItems (list_encoding unsigned_encoding functions) functions
    → IsElementOf read (form_encoding mode (Functions functions)) (spec.FunctionItems functions)
unfolding form_encoding
of_functions (Active None offset) functions (spec.ActiveElement table expression) m items =
    subst (λ (t : Option ℕ). IsElementOf (spec.ActiveElement t expression) (0x00 ∷ (expression_encoding offset ++ list_encoding unsigned_encoding functions)) (spec.FunctionItems functions)) (sym m.0)
    (0x00 ∷ [], expression_encoding offset ++ list_encoding unsigned_encoding functions, refl, one_of 0 (omega arith), (expression_encoding offset, list_encoding unsigned_encoding functions, refl, m.2, items))
of_functions (Active (Some table) offset) functions (spec.ActiveElement read expression) m items =
    let kind = 0x00 ∷ list_encoding unsigned_encoding functions in
    subst (λ (t : Option ℕ). IsElementOf (spec.ActiveElement t expression) (0x02 ∷ (unsigned_encoding table ++ (expression_encoding offset ++ kind))) (spec.FunctionItems functions)) (sym m.0) (
      0x02 ∷ [],
      unsigned_encoding table ++ (expression_encoding offset ++ kind),
      refl,
      one_of 2 (omega arith),
      (unsigned_encoding table, expression_encoding offset ++ kind, refl, unsigned_spelled 32 table m.1, (expression_encoding offset, kind, refl, m.2, (list_encoding unsigned_encoding functions, refl, items))),
    )
of_functions Passive functions spec.PassiveElement m items =
    (0x01 ∷ [], 0x00 ∷ list_encoding unsigned_encoding functions, refl, one_of 1 (omega arith), (list_encoding unsigned_encoding functions, refl, items))
of_functions Declared functions spec.DeclaredElement m items =
    (0x03 ∷ [], 0x00 ∷ list_encoding unsigned_encoding functions, refl, one_of 3 (omega arith), (list_encoding unsigned_encoding functions, refl, items))
of_functions (Active table offset) functions spec.PassiveElement m items = absurd m
of_functions (Active table offset) functions spec.DeclaredElement m items = absurd m
of_functions Passive functions (spec.ActiveElement read expression) m items = absurd m
of_functions Passive functions spec.DeclaredElement m items = absurd m
of_functions Declared functions (spec.ActiveElement read expression) m items = absurd m
of_functions Declared functions spec.PassiveElement m items = absurd m

-- expressions as the elements of a mode
of_expressions : (mode : ElementMode) (type : types.RefType ℕ) (operators : List (List ℕ)) (read : spec.ElementMode) (expressions : List ConstantExpression) → HasForm mode (Expressions type operators)
    → ModeReadsAs mode read → IsRefType (ref_encoding type.nullable type.heap_type) type → IsExpressionItems (list_encoding expression_encoding operators) expressions
    → IsElementOf read (form_encoding mode (Expressions type operators)) (spec.ExpressionItems type expressions)
unfolding form_encoding
of_expressions (Active None offset) type operators (spec.ActiveElement table expression) expressions has m typed items =
    subst (λ (t : Option ℕ). IsElementOf (spec.ActiveElement t expression) (0x04 ∷ (expression_encoding offset ++ list_encoding expression_encoding operators)) (spec.ExpressionItems type expressions)) (sym m.0) (
      has,
      (
        0x04 ∷ [],
        expression_encoding offset ++ list_encoding expression_encoding operators,
        refl,
        one_of 4 (omega arith),
        (expression_encoding offset, list_encoding expression_encoding operators, refl, m.2, items),
      ),
    )
of_expressions (Active (Some table) offset) type operators (spec.ActiveElement read expression) expressions has m typed items =
    let own = ref_encoding type.nullable type.heap_type ++ list_encoding expression_encoding operators in
    subst (λ (t : Option ℕ). IsElementOf (spec.ActiveElement t expression) (0x06 ∷ (unsigned_encoding table ++ (expression_encoding offset ++ own))) (spec.ExpressionItems type expressions)) (sym m.0) (
      0x06 ∷ [],
      unsigned_encoding table ++ (expression_encoding offset ++ own),
      refl,
      one_of 6 (omega arith),
      (
        unsigned_encoding table,
        expression_encoding offset ++ own,
        refl,
        unsigned_spelled 32 table m.1,
        (expression_encoding offset, own, refl, m.2, (ref_encoding type.nullable type.heap_type, list_encoding expression_encoding operators, refl, typed, items)),
      ),
    )
of_expressions Passive type operators spec.PassiveElement expressions has m typed items = (
  0x05 ∷ [],
  ref_encoding type.nullable type.heap_type ++ list_encoding expression_encoding operators,
  refl,
  one_of 5 (omega arith),
  (ref_encoding type.nullable type.heap_type, list_encoding expression_encoding operators, refl, typed, items),
)
of_expressions Declared type operators spec.DeclaredElement expressions has m typed items = (
  0x07 ∷ [],
  ref_encoding type.nullable type.heap_type ++ list_encoding expression_encoding operators,
  refl,
  one_of 7 (omega arith),
  (ref_encoding type.nullable type.heap_type, list_encoding expression_encoding operators, refl, typed, items),
)
of_expressions (Active table offset) type operators spec.PassiveElement expressions has m typed items = absurd m
of_expressions (Active table offset) type operators spec.DeclaredElement expressions has m typed items = absurd m
of_expressions Passive type operators (spec.ActiveElement read expression) expressions has m typed items = absurd m
of_expressions Passive type operators spec.DeclaredElement expressions has m typed items = absurd m
of_expressions Declared type operators (spec.ActiveElement read expression) expressions has m typed items = absurd m
of_expressions Declared type operators spec.PassiveElement expressions has m typed items = absurd m

of_elements : (mode : ElementMode) (elements : Elements) (read : spec.ElementMode) (items : spec.ElementItems) → HasForm mode elements → ModeReadsAs mode read → ElementsReadAs elements items
    → IsElementOf read (form_encoding mode elements) items
of_elements mode (Functions functions) read (spec.FunctionItems indexes) has m e =
    subst (λ (l : List ℕ). IsElementOf read (form_encoding mode (Functions functions)) (spec.FunctionItems l)) (sym e.0) (of_functions mode functions read m (function_items functions e.1 e.2))
of_elements mode (Expressions type operators) read (spec.ExpressionItems t expressions) has m e =
    subst (λ (u : types.RefType ℕ). IsElementOf read (form_encoding mode (Expressions type operators)) (spec.ExpressionItems u expressions)) (sym e.0)
    (of_expressions mode type operators read expressions has m (reference type.nullable type.heap_type e.1) (expression_items operators expressions e.2 e.3))
of_elements mode (Functions functions) read (spec.ExpressionItems t expressions) has m e = absurd e
of_elements mode (Expressions type operators) read (spec.FunctionItems indexes) has m e = absurd e

pub element : (mode : ElementMode) (elements : Elements) (segment : spec.ElementSegment) → SegmentReadsAs mode elements segment → IsElementSegment (element_encoding mode elements) segment
element mode elements segment h = of_elements (written_mode mode elements) elements segment.mode segment.items (has_form mode elements) h.0 h.1

-- ---- data segments

contents_of : (contents : List ℕ) → AreBytes contents → length contents < 2 ^ 32 → IsContents (framed_encoding contents) contents
unfolding framed_encoding
contents_of contents are short = (unsigned_encoding (length contents), contents, refl, unsigned_spelled 32 (length contents) short, (are, refl))

active_data : (memory : ℕ) (offset contents : List ℕ) (expression : ConstantExpression) (is : Bool) → IsSmallIndex memory → ReadsAs offset expression → IsContents (framed_encoding contents) contents
    → IsDataOf (spec.ActiveData (if is then None else Some memory) expression) ((if is then 0x00 ∷ [] else (0x02 ∷ unsigned_encoding memory)) ++ (expression_encoding offset ++ framed_encoding contents)) contents
active_data memory offset contents expression true small r c =
    (0x00 ∷ [], expression_encoding offset ++ framed_encoding contents, refl, one_of 0 (omega arith), (expression_encoding offset, framed_encoding contents, refl, r, c))
active_data memory offset contents expression false small r c = (
  0x02 ∷ [],
  unsigned_encoding memory ++ (expression_encoding offset ++ framed_encoding contents),
  refl,
  one_of 2 (omega arith),
  (unsigned_encoding memory, expression_encoding offset ++ framed_encoding contents, refl, unsigned_spelled 32 memory small, (expression_encoding offset, framed_encoding contents, refl, r, c)),
)

of_data : (mode : DataMode) (contents : List ℕ) (read : spec.DataMode) → DataReadsAs mode read → IsContents (framed_encoding contents) contents → IsDataOf read (data_encoding mode contents) contents
unfolding data_encoding memory_encoding
of_data (ActiveData memory offset) contents (spec.ActiveData table expression) h c =
    subst (λ (t : Option ℕ). IsDataOf (spec.ActiveData t expression) (memory_encoding memory ++ (expression_encoding offset ++ framed_encoding contents)) contents) (sym h.0)
    (active_data memory offset contents expression (nat_eq memory 0) h.1 h.2 c)
of_data PassiveData contents spec.PassiveData h c = (0x01 ∷ [], framed_encoding contents, refl, one_of 1 (omega arith), c)
of_data (ActiveData memory offset) contents spec.PassiveData h c = absurd h
of_data PassiveData contents (spec.ActiveData table expression) h c = absurd h

pub segment : (mode : DataMode) (contents : List ℕ) (read : spec.DataSegment) → DataReadsAs mode read.mode → read.contents ≡ contents → AreBytes contents → length contents < 2 ^ 32
    → IsDataSegment (data_encoding mode contents) read
segment mode contents read h same are short =
    subst (λ (l : List ℕ). IsDataOf read.mode (data_encoding mode contents) l) (sym same) (of_data mode contents read.mode h (contents_of contents are short))
