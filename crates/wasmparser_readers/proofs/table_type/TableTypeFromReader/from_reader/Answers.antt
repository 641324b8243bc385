use Rattle.std.proofs.Common.{◌≡◌, true, false, rules}
use Rattle.wasmparser_readers.proofs.PackedItemLaws.{table_large}
use Rattle.wasmparser_readers.proofs.table_type.TableTypeFromReader.from_reader.Goals as goal

pub returns-then-not-ref_is_of_module : goal.returns-then-not-ref_is_of_module
returns-then-not-ref_is_of_module c =
    let read = c.in_ok-table_type.ensures in
    ((table_large _ _ _ read.0 (λ all. let said : false ≡ true = c.if-not-ref_is_of_module.ensures.1 all in absurd cc), search rules), read.1)
