use Rattle.std.proofs.Common.{rules}
use Rattle.wasmparser_constants.proofs.TakingLaws.{item_refused}
use Rattle.wasmparser_constants.specs.Operands.{meant_type}
use Rattle.wasmparser_constants.specs.Scopes.{known}
use Rattle.wasmparser_types.specs.ValTypes.{val_type}
use Rattle.wasmparser_constants.proofs.scope.Scope.take_items.Goals as goal

pub returns-in_err-take : goal.returns-in_err-take
returns-in_err-take c =
    let r =
    item_refused (known c.args.self.now) c.args.self.now.offset (meant_type (known c.args.self.now) (val_type c.args.item.now)) c.args.operands.now c.loop.operands c.args.count c.loop.counter
    c.in_err-take.field-0.0 c.loop.invariant c.loop-test.true c.in_err-take.ensures in search (rules, r)
