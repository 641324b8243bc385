-- The encodings of tables, globals and segments that an encoder writes. Expressions are given as the bytes of their operators, without the end. Core
-- Specification 3.0, Binary Format, "Modules".
use Rattle.std.specs.Prelude.{ℕ, ◌+◌, nat_eq, Bool, true, false, List, [], ◌∷◌, ◌++◌, Option, Some, None, if◌then◌else◌}
use Rattle.wasm_encoder_bodies.specs.Expressions.{expression_encoding}
use Rattle.wasm_encoder_sections.specs.ItemEncodings.{table_type_encoding, global_type_encoding}
use Rattle.wasm_spec.specs.Shortest.{unsigned_encoding, list_encoding, framed_encoding}
use Rattle.wasm_spec.specs.TypeEncodings.{ref_encoding}
use Rattle.wasm_spec.specs.TypeGrammar.{heap_code}
use Rattle.wasm_spec.specs.Types as types

-- ---- tables and globals

-- a table's type alone, or after two bytes the type and what its elements are at first ("Table Section")
unfoldable pub table_encoding : types.TableType ℕ → Option (List ℕ) → List ℕ
table_encoding type None = table_type_encoding type
table_encoding type (Some initialiser) = 0x40 ∷ 0x00 ∷ (table_type_encoding type ++ expression_encoding initialiser)

-- ("Global Section")
unfoldable pub global_encoding : types.GlobalType ℕ → List ℕ → List ℕ
global_encoding type initialiser = global_type_encoding type ++ expression_encoding initialiser

-- ---- element segments

pub data ElementMode : Type 0 where
  -- the table, where it is written (else it is table 0), and the offset
  Active : Option ℕ → List ℕ → ElementMode
  Passive : ElementMode
  Declared : ElementMode

pub data Elements : Type 0 where
  -- function indexes
  Functions : List ℕ → Elements
  -- expressions, and the type of what they give
  Expressions : types.RefType ℕ → List (List ℕ) → Elements

-- Whether a reference, by whether it may be null and its heap type, is the standard's `funcref`; an abstract heap type is told by its byte.
abbrev pub is_funcref : Bool → types.HeapType ℕ → Bool
is_funcref true (types.Abstract heap) = nat_eq (heap_code heap) 0x70
is_funcref true (types.Concrete index) = false
is_funcref false heap = false

-- Where no table is written, no type is written either, and expressions are of references to any function, or null. So with others the table is written.
abbrev pub written_table : Option ℕ → Elements → Option ℕ
written_table (Some table) elements = Some table
written_table None (Functions functions) = None
written_table None (Expressions type expressions) = if is_funcref type.nullable type.heap_type then None else Some 0

abbrev pub written_mode : ElementMode → Elements → ElementMode
written_mode (Active table offset) elements = Active (written_table table elements) offset
written_mode Passive elements = Passive
written_mode Declared elements = Declared

-- a form's number among those of its elements: the forms of expressions are four more
abbrev pub form_code : ℕ → Elements → ℕ
form_code form (Functions functions) = form
form_code form (Expressions type expressions) = 4 + form

abbrev pub items_encoding : Elements → List ℕ
items_encoding (Functions functions) = list_encoding unsigned_encoding functions
items_encoding (Expressions type expressions) = list_encoding expression_encoding expressions

-- the elements after what they are: a kind, of which there is one alone, or a type
abbrev pub typed_encoding : Elements → List ℕ
typed_encoding (Functions functions) = 0x00 ∷ items_encoding (Functions functions)
typed_encoding (Expressions type expressions) = ref_encoding type.nullable type.heap_type ++ items_encoding (Expressions type expressions)

-- the eight forms of element segments, by what is written ("Element Section")
unfoldable pub form_encoding : ElementMode → Elements → List ℕ
form_encoding (Active None offset) elements = form_code 0 elements ∷ (expression_encoding offset ++ items_encoding elements)
form_encoding Passive elements = form_code 1 elements ∷ typed_encoding elements
form_encoding (Active (Some table) offset) elements = form_code 2 elements ∷ (unsigned_encoding table ++ (expression_encoding offset ++ typed_encoding elements))
form_encoding Declared elements = form_code 3 elements ∷ typed_encoding elements

abbrev pub element_encoding : ElementMode → Elements → List ℕ
element_encoding mode elements = form_encoding (written_mode mode elements) elements

-- ---- data segments

pub data DataMode : Type 0 where
  -- the memory, and the offset
  ActiveData : ℕ → List ℕ → DataMode
  PassiveData : DataMode

-- the form of an active segment, and its memory: memory 0 isn't written
unfoldable pub memory_encoding : ℕ → List ℕ
memory_encoding memory = if nat_eq memory 0 then 0x00 ∷ [] else (0x02 ∷ unsigned_encoding memory)

-- the three forms of data segments ("Data Section")
unfoldable pub data_encoding : DataMode → List ℕ → List ℕ
data_encoding (ActiveData memory offset) contents = memory_encoding memory ++ (expression_encoding offset ++ framed_encoding contents)
data_encoding PassiveData contents = 0x01 ∷ framed_encoding contents
