-- The shortest encodings of tables, globals and segments read as these.
use Rattle.std.proofs.Common.{◌≡◌, ℕ, zero, suc, ◌^◌, ◌<◌, ◌≤◌, Bool, true, false, List, [], ◌∷◌, ◌++◌, length, map, Option, Some, None, inl, inr, refl, sym, subst, arith, length-append, option_map, if◌then◌else◌}
use Rattle.std.specs.List.{AllByRecursion, AllZip}
use Rattle.std.proofs.lemmas.Bool.Decides.{eqb_tells}
use Rattle.wasm_encoder_bodies.specs.Expressions.{expression_encoding}
use Rattle.wasm_encoder_expression_sections.specs.ItemEncodings as encoder
use Rattle.wasm_encoder_expression_sections.specs.ReadItems.{ReadsAs, OptionReadsAs, ModeReadsAs, ElementsReadAs, SegmentReadsAs, DataReadsAs, written_memory}
use Rattle.wasm_encoder_sections.specs.ItemEncodings.{limits_encoding, table_type_encoding, global_type_encoding}
use Rattle.wasm_encoder_sections.specs.SmallItems.{IsSmallTable, IsSmallGlobal}
use Rattle.wasm_smith_definitions.specs.Items.{data_mode, element_items, element_mode}
use Rattle.wasm_smith_definitions.specs.declared.segments.DataMode as code_data
use Rattle.wasm_smith_definitions.specs.declared.segments.DataMode.TheVariants as data_cases
use Rattle.wasm_smith_definitions.specs.declared.segments.ElementItems as code_items
use Rattle.wasm_smith_definitions.specs.declared.segments.ElementItems.TheVariants as item_cases
use Rattle.wasm_smith_definitions.specs.declared.segments.ElementMode as code_modes
use Rattle.wasm_smith_definitions.specs.declared.segments.ElementMode.TheVariants as mode_cases
use Rattle.wasm_encoder_sections.specs.CoreItems.{ref_type}
use Rattle.wasm_smith_sections.specs.Contents.{data_bytes, data_mode_bytes, element_bytes, expression_bytes, global_bytes, items_bytes, mode_bytes, table_bytes}
use Rattle.wasm_smith_sections.specs.SmallModules.{AreSmallItems, HasElementForm, HasMemoryForm, IsSmallData, IsSmallDataMode, IsSmallElement, IsSmallElementMode, IsSmallExpression, IsSmallInitialiser, IsSmallOwnGlobal, IsSmallOwnTable}
use Rattle.wasm_smith_sections.proofs.Forms.{few_items}
use Rattle.wasm_smith_sections.proofs.ReadConstants.{expression_is}
use Rattle.wasm_spec.specs.Bytes.{AreBytes, IsShortest}
use Rattle.wasm_spec.specs.Constants.{ConstantExpression}
use Rattle.wasm_spec.specs.Grammar.{IsContent}
use Rattle.wasm_spec.specs.ModuleParts.{IsTable, IsGlobal, IsElementSegment, IsDataSegment}
use Rattle.wasm_spec.specs.Shortest.{unsigned_encoding, list_encoding, framed_encoding}
use Rattle.wasm_spec.specs.Syntax.{Table, Global, ElementMode, ActiveElement, PassiveElement, DeclaredElement, ElementItems, FunctionItems, ExpressionItems, ElementSegment, DataMode, ActiveData, PassiveData, DataSegment, CodeSection}
use Rattle.wasm_spec.specs.TypeEncodings.{ref_encoding}
use Rattle.wasm_spec.specs.Types as types
use Rattle.wasm_spec.proofs.ShortestForms.{HasSome}
use Rattle.wasm_spec.proofs.UnsignedEncodings.{some_bytes}
use Rattle.wasm_validity.specs.TypeRules.{is_funcref}

-- what the encoder's sections promise
pub record Laws : Type 0 where
  pub tables : (type : types.TableType ℕ) (initialiser : Option (List ℕ)) (table : Table) → IsSmallTable type → table.type ≡ type → OptionReadsAs initialiser table.initialiser
      → IsTable (encoder.table_encoding type initialiser) table
  pub globals : (type : types.GlobalType ℕ) (initialiser : List ℕ) (global : Global) → IsSmallGlobal type → global.type ≡ type → ReadsAs initialiser global.initialiser
      → IsGlobal (encoder.global_encoding type initialiser) global
  pub elements : (mode : encoder.ElementMode) (elements : encoder.Elements) (segment : ElementSegment) → SegmentReadsAs mode elements segment
      → IsElementSegment (encoder.element_encoding mode elements) segment
  pub segments : (mode : encoder.DataMode) (contents : List ℕ) (segment : DataSegment) → DataReadsAs mode segment.mode → segment.contents ≡ contents → AreBytes contents
      → length contents < 2 ^ 32 → IsDataSegment (encoder.data_encoding mode contents) segment
  pub bodies : (compact : Bool) (bodies : List (List ℕ)) → AllByRecursion AreBytes bodies → length (list_encoding framed_encoding bodies) < 2 ^ 32
      → IsShortest (IsContent compact) (list_encoding framed_encoding bodies) (CodeSection bodies)

-- ---- constant expressions

some_expression : (operators : List ℕ) → 0 < length (expression_encoding operators)
some_expression operators = omega (arith, length-append operators (0x0b ∷ []))

-- ---- tables and globals

initialiser_is : (initialiser : Option ConstantExpression) → IsSmallInitialiser initialiser → OptionReadsAs (option_map expression_bytes initialiser) initialiser
initialiser_is None small = tt
initialiser_is (Some expression) small = expression_is expression small

pub table_is : Laws → (table : Table) → IsSmallOwnTable table → length (table_bytes table) < 2 ^ 32 → IsTable (table_bytes table) table
table_is laws table small short =
    laws.tables table.type (option_map expression_bytes table.initialiser) table small.0 refl (initialiser_is table.initialiser small.1)

some_limits : (limits : types.Limits) → 0 < length (limits_encoding limits)
unfolding limits_encoding
some_limits limits = omega arith

some_table_type : (type : types.TableType ℕ) → 0 < length (table_type_encoding type)
unfolding table_type_encoding
some_table_type type = omega (arith, some_limits type.limits, length-append (ref_encoding type.element_type.nullable type.element_type.heap_type) (limits_encoding type.limits))

some_table_of : (type : types.TableType ℕ) (initialiser : Option (List ℕ)) → 0 < length (encoder.table_encoding type initialiser)
unfolding encoder.table_encoding
some_table_of type None = some_table_type type
some_table_of type (Some initialiser) = omega arith

pub some_table : HasSome table_bytes
some_table table = some_table_of table.type (option_map expression_bytes table.initialiser)

pub global_is : Laws → (global : Global) → IsSmallOwnGlobal global → length (global_bytes global) < 2 ^ 32 → IsGlobal (global_bytes global) global
global_is laws global small short = laws.globals global.type (expression_bytes global.initialiser) global small.0 refl (expression_is global.initialiser small.1)

some_global_of : (type : types.GlobalType ℕ) (initialiser : List ℕ) → 0 < length (encoder.global_encoding type initialiser)
unfolding encoder.global_encoding
some_global_of type initialiser = omega (arith, some_expression initialiser, length-append (global_type_encoding type) (expression_encoding initialiser))

pub some_global : HasSome global_bytes
some_global global = some_global_of global.type (expression_bytes global.initialiser)

-- ---- element segments

expressions_are : (expressions : List ConstantExpression) → AllByRecursion IsSmallExpression expressions → AllZip ReadsAs (map expression_bytes expressions) expressions
expressions_are [] small = tt
expressions_are (expression ∷ expressions) small = (expression_is expression small.0, expressions_are expressions small.1)

mode_is : (mode : ElementMode) → IsSmallElementMode mode → ModeReadsAs (mode_bytes mode) mode
mode_is (ActiveElement table offset) small = (refl, small.0, expression_is offset small.1)
mode_is PassiveElement small = tt
mode_is DeclaredElement small = tt

items_are : (items : ElementItems) → AreSmallItems items → length (encoder.items_encoding (items_bytes items)) < 2 ^ 32 → ElementsReadAs (items_bytes items) items
items_are (FunctionItems functions) small short = (refl, few_items unsigned_encoding some_bytes functions short, small)
items_are (ExpressionItems type expressions) small short =
    (refl, small.0, few_items expression_encoding some_expression (map expression_bytes expressions) short, expressions_are expressions small.1)

-- the items are not longer than the segment
typed_length : (elements : encoder.Elements) → length (encoder.items_encoding elements) ≤ length (encoder.typed_encoding elements)
typed_length (encoder.Functions functions) = omega arith
typed_length (encoder.Expressions type expressions) =
    omega (arith, length-append (ref_encoding type.nullable type.heap_type) (encoder.items_encoding (encoder.Expressions type expressions)))

items_length : (mode : encoder.ElementMode) (elements : encoder.Elements) → length (encoder.items_encoding elements) ≤ length (encoder.form_encoding mode elements)
unfolding encoder.form_encoding
items_length (encoder.Active None offset) elements = omega (arith, length-append (expression_encoding offset) (encoder.items_encoding elements))
items_length (encoder.Active (Some table) offset) elements =
    omega
    (arith, typed_length elements, length-append (unsigned_encoding table) (expression_encoding offset ++ encoder.typed_encoding elements), length-append (expression_encoding offset) (encoder.typed_encoding elements))
items_length encoder.Passive elements = omega (arith, typed_length elements)
items_length encoder.Declared elements = omega (arith, typed_length elements)

-- the table is written where it is needed
is_written : (mode : ElementMode) (items : ElementItems) → HasElementForm mode items → encoder.written_mode (mode_bytes mode) (items_bytes items) ≡ mode_bytes mode
is_written (ActiveElement (Some table) offset) items form = refl
is_written (ActiveElement None offset) (FunctionItems functions) form = refl
is_written (ActiveElement None offset) (ExpressionItems type expressions) form =
    subst (λ t. encoder.written_mode (encoder.Active None (expression_bytes offset)) (encoder.Expressions t (map expression_bytes expressions)) ≡ encoder.Active None (expression_bytes offset))
    (sym form) refl
is_written PassiveElement items form = refl
is_written DeclaredElement items form = refl

pub element_is : Laws → (segment : ElementSegment) → IsSmallElement segment → length (element_bytes segment) < 2 ^ 32 → IsElementSegment (element_bytes segment) segment
element_is laws segment small short =
    let mode = mode_bytes segment.mode in
    let items = items_bytes segment.items in
    let written = is_written segment.mode segment.items small.0 in
    subst (λ k. IsElementSegment (encoder.form_encoding k items) segment) written
    (laws.elements mode items segment
    (subst (λ k. ModeReadsAs k segment.mode) (sym written) (mode_is segment.mode small.1), items_are segment.items small.2 (omega (arith, short, items_length mode items))))

some_form : (mode : encoder.ElementMode) (elements : encoder.Elements) → 0 < length (encoder.form_encoding mode elements)
unfolding encoder.form_encoding
some_form (encoder.Active None offset) elements = omega arith
some_form (encoder.Active (Some table) offset) elements = omega arith
some_form encoder.Passive elements = omega arith
some_form encoder.Declared elements = omega arith

pub some_element : HasSome element_bytes
some_element segment = some_form (mode_bytes segment.mode) (items_bytes segment.items)

-- ---- data segments

not_written : (memory : ℕ) → Some (suc memory) ≡ written_memory (suc memory)
not_written memory = elim (eqb_tells (suc memory) 0) [
  | inl (test, same) ↦ absurd (omega (arith, same))
  | inr (test, differs) ↦ rw test refl
]

data_mode_is : (mode : DataMode) → HasMemoryForm mode → IsSmallDataMode mode → DataReadsAs (data_mode_bytes mode) mode
data_mode_is (ActiveData None offset) form small = (refl, omega arith, expression_is offset small.1)
data_mode_is (ActiveData (Some zero) offset) form small = absurd form
data_mode_is (ActiveData (Some (suc memory)) offset) form small = (not_written memory, small.0, expression_is offset small.1)
data_mode_is PassiveData form small = tt

contents_length : (mode : encoder.DataMode) (contents : List ℕ) → length contents ≤ length (encoder.data_encoding mode contents)
unfolding encoder.data_encoding framed_encoding
contents_length (encoder.ActiveData memory offset) contents =
    omega (
      arith,
      length-append (encoder.memory_encoding memory) (expression_encoding offset ++ framed_encoding contents),
      length-append (expression_encoding offset) (framed_encoding contents),
      length-append (unsigned_encoding (length contents)) contents,
    )
contents_length encoder.PassiveData contents = omega (arith, length-append (unsigned_encoding (length contents)) contents)

pub data_is : Laws → (segment : DataSegment) → IsSmallData segment → length (data_bytes segment) < 2 ^ 32 → IsDataSegment (data_bytes segment) segment
data_is laws segment small short =
    let mode = data_mode_bytes segment.mode in
    laws.segments mode segment.contents segment (data_mode_is segment.mode small.0 small.1) refl small.2 (omega (arith, short, contents_length mode segment.contents))

some_data_of : (mode : encoder.DataMode) (contents : List ℕ) → 0 < length (encoder.data_encoding mode contents)
unfolding encoder.data_encoding
some_data_of (encoder.ActiveData memory offset) contents =
    omega
    (arith, some_expression offset, length-append (encoder.memory_encoding memory) (expression_encoding offset ++ framed_encoding contents), length-append (expression_encoding offset) (framed_encoding contents))
some_data_of encoder.PassiveData contents = omega arith

pub some_data : HasSome data_bytes
some_data segment = some_data_of (data_mode_bytes segment.mode) segment.contents

-- ---- the forms of what is made

funcref_is : (nullable : Bool) (heap : types.HeapType ℕ) → is_funcref (record { nullable = nullable; heap_type = heap }) ≡ true
    → record { nullable = nullable; heap_type = heap } ≡ types.funcref
funcref_is false heap e = absurd cc
funcref_is true (types.Concrete index) e = absurd cc
funcref_is true (types.Abstract types.Func) e = refl
funcref_is true (types.Abstract types.Extern) e = absurd cc
funcref_is true (types.Abstract types.Any) e = absurd cc
funcref_is true (types.Abstract types.None) e = absurd cc
funcref_is true (types.Abstract types.NoExtern) e = absurd cc
funcref_is true (types.Abstract types.NoFunc) e = absurd cc
funcref_is true (types.Abstract types.Eq) e = absurd cc
funcref_is true (types.Abstract types.Struct) e = absurd cc
funcref_is true (types.Abstract types.Array) e = absurd cc
funcref_is true (types.Abstract types.I31) e = absurd cc
funcref_is true (types.Abstract types.Exn) e = absurd cc
funcref_is true (types.Abstract types.NoExn) e = absurd cc
funcref_is true (types.Abstract types.Cont) e = absurd cc
funcref_is true (types.Abstract types.NoCont) e = absurd cc

has_form : (type : types.RefType ℕ) (expressions : List ConstantExpression) (offset : ConstantExpression) (test : Bool) → is_funcref type ≡ test
    → HasElementForm (ActiveElement (if test then None else Some 0) offset) (ExpressionItems type expressions)
has_form type expressions offset true e = funcref_is type.nullable type.heap_type e
has_form type expressions offset false e = tt

pub element_form : (mode : code_modes.ElementMode) (items : code_items.ElementItems) → HasElementForm (element_mode mode (element_items items)) (element_items items)
element_form (mode_cases.Active zero offset) (item_cases.Functions functions) = tt
element_form (mode_cases.Active zero offset) (item_cases.Expressions type constants) = has_form (ref_type type) _ _ (is_funcref (ref_type type)) refl
element_form (mode_cases.Active (suc table) offset) (item_cases.Functions functions) = tt
element_form (mode_cases.Active (suc table) offset) (item_cases.Expressions type constants) = tt
element_form mode_cases.Passive (item_cases.Functions functions) = tt
element_form mode_cases.Passive (item_cases.Expressions type constants) = tt
element_form mode_cases.Declared (item_cases.Functions functions) = tt
element_form mode_cases.Declared (item_cases.Expressions type constants) = tt

pub memory_form : (mode : code_data.DataMode) → HasMemoryForm (data_mode mode)
memory_form (data_cases.Active zero offset) = tt
memory_form (data_cases.Active (suc memory) offset) = tt
memory_form data_cases.Passive = tt
