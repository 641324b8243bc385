use Rattle.std.proofs.Common.{rules, tests}
use Rattle.wasmparser_module_state.proofs.DeclaredLaws.{room_adds_none}
use Rattle.wasmparser_module_state.proofs.function_set.FunctionSet.make_room.Goals as goal

pub returns-in_ok-resize-clause-same : goal.returns-in_ok-resize-clause-same
returns-in_ok-resize-clause-same c = room_adds_none c.args.self.now.flags.items c.resize.new.self.items c.args.count _ (search (rules, tests)) c.in_ok-resize.ensures.items
