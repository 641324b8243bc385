use Rattle.std.proofs.Common.{[], arith}
use Rattle.std.proofs.lemmas.Result.{IfOk-weaker}
use Rattle.wasm_spec.specs.Types.{FuncKind, TableKind, MemoryKind, GlobalKind, TagKind}
use Rattle.wasm_smith_externs.proofs.AllExportLaws.{alike_after, kind_exported, none_exported, themselves}
use Rattle.wasm_smith_externs.specs.AllExports.{AreExported, all_of, everything}
use Rattle.wasm_smith_externs.proofs.all_exports.export_kinds.Goals as goal

pub export_items-requires-2-clause-few : goal.export_items-requires-2-clause-few
export_items-requires-2-clause-few c =
    let k = c.args.spaces.now in
    let functions = alike_after k k c.export_items.new.spaces _ _ _ (themselves k) c.in_ok-export_items.ensures.exported in
    omega (arith, functions TableKind, c.requires.few TableKind)

pub export_items-requires-3-clause-few : goal.export_items-requires-3-clause-few
export_items-requires-3-clause-few c =
    let k = c.args.spaces.now in
    let functions = alike_after k k c.export_items.new.spaces _ _ _ (themselves k) c.in_ok-export_items.ensures.exported in
    let tables = alike_after k c.export_items.new.spaces c.export_items-2.new.spaces _ _ _ functions c.in_ok-export_items-2.ensures.exported in
    omega (arith, tables MemoryKind, c.requires.few MemoryKind)

pub export_items-requires-4-clause-few : goal.export_items-requires-4-clause-few
export_items-requires-4-clause-few c =
    let k = c.args.spaces.now in
    let functions = alike_after k k c.export_items.new.spaces _ _ _ (themselves k) c.in_ok-export_items.ensures.exported in
    let tables = alike_after k c.export_items.new.spaces c.export_items-2.new.spaces _ _ _ functions c.in_ok-export_items-2.ensures.exported in
    let memories = alike_after k c.export_items-2.new.spaces c.export_items-3.new.spaces _ _ _ tables c.in_ok-export_items-3.ensures.exported in
    omega (arith, memories GlobalKind, c.requires.few GlobalKind)

pub export_items-requires-5-clause-few : goal.export_items-requires-5-clause-few
export_items-requires-5-clause-few c =
    let k = c.args.spaces.now in
    let functions = alike_after k k c.export_items.new.spaces _ _ _ (themselves k) c.in_ok-export_items.ensures.exported in
    let tables = alike_after k c.export_items.new.spaces c.export_items-2.new.spaces _ _ _ functions c.in_ok-export_items-2.ensures.exported in
    let memories = alike_after k c.export_items-2.new.spaces c.export_items-3.new.spaces _ _ _ tables c.in_ok-export_items-3.ensures.exported in
    let globals = alike_after k c.export_items-3.new.spaces c.export_items-4.new.spaces _ _ _ memories c.in_ok-export_items-4.ensures.exported in
    omega (arith, globals TagKind, c.requires.few TagKind)

pub returns-clause-exported : goal.returns-clause-exported
returns-clause-exported c =
    let k = c.args.spaces.now in
    let f = c.export_items.new.spaces in
    let t = c.export_items-2.new.spaces in
    let m = c.export_items-3.new.spaces in
    let g = c.export_items-4.new.spaces in
    let n = c.export_items-5.new.spaces in
    let s = c.args.unstructured.now in
    let left = c.export_items-5.new.unstructured in
    let functions = c.in_ok-export_items.ensures.exported in
    let tables = c.in_ok-export_items-2.ensures.exported in
    let memories = c.in_ok-export_items-3.ensures.exported in
    let globals = c.in_ok-export_items-4.ensures.exported in
    let after_functions = alike_after k k f _ _ _ (themselves k) functions in
    let after_tables = alike_after k f t _ _ _ after_functions tables in
    let after_memories = alike_after k t m _ _ _ after_tables memories in
    let after_globals = alike_after k m g _ _ _ after_memories globals in
    IfOk-weaker c.export_items-5.result (λ _. AreExported g c.export_items-4.new.unstructured n left (all_of g TagKind)) (λ _. AreExported k s n left (everything k))
    (λ _ tags.
    kind_exported k k f n s c.export_items.new.unstructured left FuncKind _ (themselves k) functions
    (kind_exported k f t n c.export_items.new.unstructured c.export_items-2.new.unstructured left TableKind _ after_functions tables
    (kind_exported k t m n c.export_items-2.new.unstructured c.export_items-3.new.unstructured left MemoryKind _ after_tables memories
    (kind_exported k m g n c.export_items-3.new.unstructured c.export_items-4.new.unstructured left GlobalKind _ after_memories globals
    (kind_exported k g n n c.export_items-4.new.unstructured left left TagKind [] after_globals tags (none_exported n left))))))
    c.export_items-5.ensures.exported
