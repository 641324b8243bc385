-- What a list of types is, once a list of its data that was lent has changed.
use Rattle.std.specs.Borrow.{Fml, Lends, MutBor}
use Rattle.std.specs.declared.ops.Range.{Range}
use Rattle.std.specs.Prelude.{ℕ}
use Rattle.std.specs.contracts.ops.Range.{the_row as range_row}
use Rattle.wasmparser_type_relations.specs.Snapshots.{Kept}
use Rattle.wasmparser_type_relations.specs.contracts.snapshot_list.SnapshotList.{the_row as list_row}
use Rattle.wasmparser_types.specs.declared.sub_type.SubType.{SubType}
use Rattle.wasmparser_types.specs.contracts.sub_type.SubType.{the_row as sub_type_row}
use Rattle.wasmparser_types.specs.contracts.index.CoreTypeId.{the_row as id_row}
use Rattle.wasmparser_type_list.specs.TypeTables.{TypeTables, with_groups, with_types}
use Rattle.wasmparser_type_list.specs.contracts.type_alloc.TypeAlloc.{the_row as alloc_row}
use Rattle.wasmparser_type_list.specs.contracts.type_list.TypeList.{the_row}

abbrev pub LendsTypes : MutBor TypeTables → MutBor (Kept SubType) → Fml
LendsTypes tables lent = Lends the_row (list_row sub_type_row) tables lent (λ list. with_types tables.now list.items)

abbrev pub LendsGroups : MutBor TypeTables → MutBor (Kept (Range ℕ)) → Fml
LendsGroups tables lent = Lends the_row (list_row (range_row id_row)) tables lent (λ list. with_groups tables.now list.items)

-- the list of types that a validator fills
abbrev pub LendsList : MutBor TypeTables → MutBor TypeTables → Fml
LendsList tables lent = Lends alloc_row the_row tables lent (λ list. list)
