use Rattle.std.proofs.Common.{ap}
use Rattle.wasmparser_types.specs.CompositeTypes.{composite_type, func_type}
use Rattle.wasmparser_types.specs.SubTypes.{sub_type}
use Rattle.wasmparser_interning_rows.proofs.Allowed.{func}
use Rattle.wasmparser_interning_rows.proofs.within.func_type_within.Goals as goal

pub returns-in-Func : goal.returns-in-Func
returns-in-Func c =
    let it = c.in_ok-composite_type in
    func c.args.before (func_type c.in-Func.it) (sub_type it.field-0) (ap composite_type c.in-Func.is) it.ensures
