-- Reading tables, globals and element segments whose type indexes are packed. These functions are means of proof: each reads what the grammar reads,
-- with its indexes packed (`proofs/PackedEntryLaws`).
use Rattle.std.specs.Prelude.{ℕ, true, List, Some, None}
use Rattle.wasm_core_read.specs.ConstantReading.{expression_at}
use Rattle.wasm_core_read.specs.PartReading.{functions_at, kind_and_items_at}
use Rattle.wasm_core_read.specs.Reading.{ReadingOf, unsigned_at, seen_at, pair_at, announced_at, numbered_at, after_code, no_code}
use Rattle.wasm_core_read.specs.TypeReading.{list_at}
use Rattle.wasm_spec.specs.Constants.{ConstantExpression}
use Rattle.wasm_spec.specs.Syntax.{ActiveElement, PassiveElement, DeclaredElement}
use Rattle.wasm_spec.specs.Types as spec
use Rattle.wasm_spec.specs.Types.{RefType, TableType}
use Rattle.wasmparser_types.specs.Index.{Index}
use Rattle.wasmparser_readers.specs.PackedItems.{packed_table_from, packed_table_at, packed_global_at}
use Rattle.wasmparser_readers.specs.PackedReading.{packed_ref_type_at}
use Rattle.wasmparser_entries.specs.Entries.{PackedTable, PackedGlobal, PackedItems, PackedElement, Functions, Expressions}

-- ---- tables

abbrev pub bare_table : TableType Index → PackedTable
bare_table type = (type, None)

abbrev pub initialised : TableType Index × ConstantExpression → PackedTable
initialised x = (x.0, Some x.1)

-- what follows the first byte of a table with an initialiser: a byte that is 0, its type and the expression
abbrev pub initialised_from : ℕ → ReadingOf PackedTable
initialised_from = after_code 0x00 (seen_at initialised (pair_at packed_table_at expression_at)) no_code

unfoldable pub initialised_at : ReadingOf PackedTable
initialised_at = announced_at initialised_from

abbrev pub packed_entry_from : ℕ → ReadingOf PackedTable
packed_entry_from = after_code 0x40 initialised_at (λ code. seen_at bare_table (packed_table_from code))

unfoldable pub packed_entry_at : ReadingOf PackedTable
packed_entry_at = announced_at packed_entry_from

-- ---- globals

unfoldable pub packed_initialised_at : ReadingOf PackedGlobal
packed_initialised_at = pair_at packed_global_at expression_at

-- ---- element segments

abbrev pub funcref : RefType Index
funcref = record { nullable = true; heap_type = spec.Abstract spec.Func }

-- functions after the byte that is their kind
abbrev pub marked_from : ℕ → ReadingOf (List ℕ)
marked_from = after_code 0x00 functions_at no_code

-- the type of some expressions, and these
unfoldable pub typed_at : ReadingOf PackedItems
typed_at = seen_at (λ x. Expressions x.0 x.1) (pair_at packed_ref_type_at (list_at expression_at))

-- a segment of expressions after the number of its form
abbrev pub packed_expressions_from : ℕ → ReadingOf PackedElement
packed_expressions_from =
    after_code 4 (seen_at (λ x. record { mode = ActiveElement None x.0; items = Expressions funcref x.1 }) (pair_at expression_at (list_at expression_at)))
    (after_code 5 (seen_at (λ items. record { mode = PassiveElement; items = items }) typed_at)
    (after_code 6 (seen_at (λ x. record { mode = ActiveElement (Some x.0) x.1.0; items = x.1.1 }) (pair_at (unsigned_at 32) (pair_at expression_at typed_at)))
    (after_code 7 (seen_at (λ items. record { mode = DeclaredElement; items = items }) typed_at) no_code)))

-- a segment after the number of its form
abbrev pub packed_element_from : ℕ → ReadingOf PackedElement
packed_element_from =
    after_code 0 (seen_at (λ x. record { mode = ActiveElement None x.0; items = Functions x.1 }) (pair_at expression_at functions_at))
    (after_code 1 (seen_at (λ functions. record { mode = PassiveElement; items = Functions functions }) kind_and_items_at)
    (after_code 2 (seen_at (λ x. record { mode = ActiveElement (Some x.0) x.1.0; items = Functions x.1.1 }) (pair_at (unsigned_at 32) (pair_at expression_at kind_and_items_at)))
    (after_code 3 (seen_at (λ functions. record { mode = DeclaredElement; items = Functions functions }) kind_and_items_at) packed_expressions_from)))

unfoldable pub packed_element_at : ReadingOf PackedElement
packed_element_at = numbered_at packed_element_from
