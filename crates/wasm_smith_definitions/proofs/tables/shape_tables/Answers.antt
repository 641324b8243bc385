use Rattle.std.proofs.Common.{◌≡◌, ap, map, subst, ◌∙◌, ◌+◌, drop, get_or, None, false, arith}
use Rattle.std.proofs.lemmas.List.{map_push}
use Rattle.std.proofs.lemmas.Result.{err_from_is_err_and}
use Rattle.wasm_core_types.specs.declared.types.AbstractHeapType.TheVariants.{Func}
use Rattle.wasm_core_types.specs.declared.types.HeapType.TheVariants.{Abstract}
use Rattle.wasm_encoder_sections.specs.CoreItems.{table_type}
use Rattle.wasm_encoder_sections.specs.declared.entity_type.TableType.{TableType}
use Rattle.wasm_smith_definitions.specs.Items as items
use Rattle.wasm_smith_definitions.specs.Kinds.{of_table}
use Rattle.wasm_smith_definitions.proofs.OwnStepLaws.{AreMade, MayHoldTables, left_is, made_goes_on, not_empty, one_refused, one_table_less}
use Rattle.wasm_smith_definitions.proofs.tables.shape_tables.Goals as goal

abbrev none : TableType
none = record { element_type = record { nullable = false; heap_type = Abstract Func }; table64 = false; minimum = 0; maximum = None }

pub shape_table-requires-clause-kept : goal.shape_table-requires-clause-kept
shape_table-requires-clause-kept c = λ features f.
    let here = subst (MayHoldTables c.args.config.now c.loop-ty.spaces) (left_is table_type c.args.types.now c.loop-ty.ty-index none c.loop-ty-test.true) c.loop-ty.invariant.may_hold in
    (here.kept features f).0

pub returns-in_err-table-clause-refused : goal.returns-in_err-table-clause-refused
returns-in_err-table-clause-refused c =
    let p = err_from_is_err_and c.from_residual.result c.from_residual.ensures.1 in
    rw (p.1, p.2) (one_refused (λ t. t.element_type.nullable ≡ false) table_type c.args.types.now c.loop-ty.ty-index none _ c.loop-ty-test.true c.in_err-table.ensures.refused)

pub loop-ty-preserved : goal.loop-ty-preserved
loop-ty-preserved c =
    let i = c.loop-ty.ty-index in
    let first = table_type (get_or c.args.types.now i none) in
    let rest = map table_type (drop (i + 1) c.args.types.now) in
    let left = left_is table_type c.args.types.now i none c.loop-ty-test.true in
    record {
      may_hold = one_table_less c.args.config.now c.loop-ty.spaces c.push_table.new.self first _ rest (subst (MayHoldTables c.args.config.now c.loop-ty.spaces) left c.loop-ty.invariant.may_hold) c.in_ok-table.ensures.typed
          c.in_ok-push_table.ensures.added;
      made = made_goes_on c.args.config.now of_table (λ t. t.type) (map table_type c.args.types.now) c.args.spaces.now c.loop-ty.spaces c.push_table.new.self (map items.table c.loop-ty.own.items)
          (map items.table c.push.new.list.items) (items.table c.in_ok-table.table) first rest
          (subst (AreMade c.args.config.now of_table (λ t. t.type) (map table_type c.args.types.now) c.args.spaces.now c.loop-ty.spaces (map items.table c.loop-ty.own.items)) left c.loop-ty.invariant.made)
          c.in_ok-table.ensures.allowed c.in_ok-table.ensures.typed c.in_ok-push_table.ensures.added (ap (map items.table) c.in_ok-push.ensures ∙ map_push items.table _ _);
      unread = λ empty. absurd (not_empty c.args.types.now i c.loop-ty-test.true empty);
      taken = omega arith;
    }
