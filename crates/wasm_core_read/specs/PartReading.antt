-- Reading entries of sections from the front of a list of bytes: means of proof, which the laws tie to the grammar.
use Rattle.std.specs.Prelude.{ℕ, Bool, true, false, List, ◌∷◌, Some, None, ◌==◌, if◌then◌else◌}
use Rattle.wasm_spec.specs.Constants.{ConstantExpression}
use Rattle.wasm_spec.specs.Syntax.{ImportItem, ImportEntry, Import, CompactItems, CompactNames, Table, Global, Export, ActiveElement, PassiveElement, DeclaredElement, FunctionItems, ExpressionItems, ElementSegment, ActiveData, PassiveData, DataSegment}
use Rattle.wasm_spec.specs.Types.{TableType, funcref}
use Rattle.wasm_core_read.specs.ConstantReading.{expression_at}
use Rattle.wasm_core_read.specs.Reading.{◌>>=◌, ReadingOf, unsigned_at, bytes_at, name_at, seen_at, pair_at, announced_at, numbered_at, after_code, no_code}
use Rattle.wasm_core_read.specs.TypeReading.{list_at, ref_type_at, table_type_from, table_type_at, global_type_at, external_kind_at, external_type_at}

-- the size of some bytes, and these
unfoldable pub body_at : ReadingOf (List ℕ)
body_at bytes = unsigned_at 32 bytes >>= λ n. bytes_at n.0 n.1

-- ---- imports and exports

unfoldable pub import_item_at : ReadingOf ImportItem
import_item_at = seen_at (λ x. record { name = x.0; type = x.1 }) (pair_at name_at external_type_at)

-- an import after the module's name
abbrev pub single_at : List ℕ → ReadingOf ImportEntry
single_at origin = seen_at (λ x. Import origin x.0 x.1) (pair_at name_at external_type_at)

-- several imports after the module's name and two bytes, or else one
abbrev pub group_from : List ℕ → ℕ → ℕ → ReadingOf ImportEntry
group_from origin zeroth code rest =
    if zeroth == 0x00
    then (if code == 0x7f then seen_at (λ items. CompactItems origin items) (list_at import_item_at) rest
    else if code == 0x7e then seen_at (λ x. CompactNames origin x.0 x.1) (pair_at external_type_at (list_at name_at)) rest
    else single_at origin (zeroth ∷ code ∷ rest))
    else single_at origin (zeroth ∷ code ∷ rest)

-- what stands after the module's name
abbrev pub imported_at : Bool → List ℕ → ReadingOf ImportEntry
imported_at true origin (zeroth ∷ code ∷ rest) = group_from origin zeroth code rest
imported_at true origin bytes = single_at origin bytes
imported_at false origin bytes = single_at origin bytes

unfoldable pub import_at : Bool → ReadingOf ImportEntry
import_at compact bytes = name_at bytes >>= λ origin. imported_at compact origin.0 origin.1

unfoldable pub export_at : ReadingOf Export
export_at = seen_at (λ x. record { name = x.0; kind = x.1.0; index = x.1.1 }) (pair_at name_at (pair_at external_kind_at (unsigned_at 32)))

-- ---- tables and globals

-- a table that is its type alone, after the first byte
abbrev pub bare_table_from : ℕ → ReadingOf Table
bare_table_from code = seen_at (λ type. record { type = type; initialiser = None }) (table_type_from code)

abbrev pub with_initialiser : TableType ℕ × ConstantExpression → Table
with_initialiser x = record { type = x.0; initialiser = Some x.1 }

unfoldable pub table_at : ReadingOf Table
table_at = announced_at (after_code 0x40 (announced_at (after_code 0x00 (seen_at with_initialiser (pair_at table_type_at expression_at)) no_code)) bare_table_from)

unfoldable pub global_at : ReadingOf Global
global_at = seen_at (λ x. record { type = x.0; initialiser = x.1 }) (pair_at global_type_at expression_at)

-- ---- segments

abbrev pub functions_at : ReadingOf (List ℕ)
functions_at = list_at (unsigned_at 32)

-- functions after their kind
abbrev pub kind_and_items_at : ReadingOf (List ℕ)
kind_and_items_at = announced_at (after_code 0x00 functions_at no_code)

-- a segment after the number of its form
abbrev pub element_from : ℕ → ReadingOf ElementSegment
element_from =
    after_code 0 (seen_at (λ x. record { mode = ActiveElement None x.0; items = FunctionItems x.1 }) (pair_at expression_at functions_at))
    (after_code 1 (seen_at (λ functions. record { mode = PassiveElement; items = FunctionItems functions }) kind_and_items_at)
    (after_code 2 (seen_at (λ x. record { mode = ActiveElement (Some x.0) x.1.0; items = FunctionItems x.1.1 }) (pair_at (unsigned_at 32) (pair_at expression_at kind_and_items_at)))
    (after_code 3 (seen_at (λ functions. record { mode = DeclaredElement; items = FunctionItems functions }) kind_and_items_at)
    (after_code 4 (seen_at (λ x. record { mode = ActiveElement None x.0; items = ExpressionItems funcref x.1 }) (pair_at expression_at (list_at expression_at)))
    (after_code 5 (seen_at (λ x. record { mode = PassiveElement; items = ExpressionItems x.0 x.1 }) (pair_at ref_type_at (list_at expression_at)))
    (after_code 6 (seen_at (λ x. record { mode = ActiveElement (Some x.0) x.1.0; items = ExpressionItems x.1.1.0 x.1.1.1 }) (pair_at (unsigned_at 32) (pair_at expression_at (pair_at ref_type_at (list_at expression_at)))))
    (after_code 7 (seen_at (λ x. record { mode = DeclaredElement; items = ExpressionItems x.0 x.1 }) (pair_at ref_type_at (list_at expression_at))) no_code)))))))

unfoldable pub element_at : ReadingOf ElementSegment
element_at = numbered_at element_from

-- a segment after the number of its form
abbrev pub data_from : ℕ → ReadingOf DataSegment
data_from =
    after_code 0 (seen_at (λ x. record { mode = ActiveData None x.0; contents = x.1 }) (pair_at expression_at body_at))
    (after_code 1 (seen_at (λ contents. record { mode = PassiveData; contents = contents }) body_at)
    (after_code 2 (seen_at (λ x. record { mode = ActiveData (Some x.0) x.1.0; contents = x.1.1 }) (pair_at (unsigned_at 32) (pair_at expression_at body_at))) no_code))

unfoldable pub data_at : ReadingOf DataSegment
data_at = numbered_at data_from
