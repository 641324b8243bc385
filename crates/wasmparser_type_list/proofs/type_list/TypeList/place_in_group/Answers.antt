use Rattle.std.proofs.Common.{arith, sym}
use Rattle.wasmparser_type_list.proofs.Agreement.{range_of}
use Rattle.wasmparser_type_list.proofs.type_list.TypeList.place_in_group.Goals as goal

pub overflow_sub-index : goal.overflow_sub-index
overflow_sub-index c =
    let range = c.in_ok-elements.elements.now in
    let within = range_of c.args.self.now c.args.rec_group range c.requires (sym c.in_ok-elements.ensures) in
    omega (arith, within.0, c.index-start.ensures, c.index.ensures)

pub overflow_cast-start : goal.overflow_cast-start
overflow_cast-start c =
    let range = c.in_ok-elements.elements.now in
    let within = range_of c.args.self.now c.args.rec_group range c.requires (sym c.in_ok-elements.ensures) in
    omega (arith, within.0, within.1, c.if-place-index.true, c.index-start.ensures, c.index.ensures)
