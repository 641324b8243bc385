use Rattle.wasm_gen_view.proofs.EqualValues.{exports_decide, globals_decide, items_decide, memories_decide, tables_decide, views_decide}
use Rattle.wasm_gen_view.proofs.laws.equal_values.Goals as goal

pub returns-clause-tables : goal.returns-clause-tables
returns-clause-tables c = tables_decide

pub returns-clause-memories : goal.returns-clause-memories
returns-clause-memories c = memories_decide

pub returns-clause-globals : goal.returns-clause-globals
returns-clause-globals c = globals_decide

pub returns-clause-items : goal.returns-clause-items
returns-clause-items c = items_decide

pub returns-clause-exports : goal.returns-clause-exports
returns-clause-exports c = exports_decide

pub returns-clause-views : goal.returns-clause-views
returns-clause-views c = views_decide
