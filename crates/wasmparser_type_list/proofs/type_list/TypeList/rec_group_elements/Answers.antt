use Rattle.std.proofs.Common.{arith, sym}
use Rattle.wasmparser_type_list.proofs.Agreement.{range_of}
use Rattle.wasmparser_type_list.proofs.type_list.TypeList.rec_group_elements.Goals as goal

pub overflow_cast-index : goal.overflow_cast-index
overflow_cast-index c =
    let within = range_of c.args.self.now c.args.id c.in-Some.ids.now c.requires (sym c.in-Some.ensures) in
    omega (arith, within.0, within.1, c.index.ensures)

pub overflow_cast-index-in-Some : goal.overflow_cast-index-in-Some
overflow_cast-index-in-Some c =
    let within = range_of c.args.self.now c.args.id c.in-Some.ids.now c.requires (sym c.in-Some.ensures) in
    omega (arith, within.0, within.1, c.index-in-Some.ensures)
