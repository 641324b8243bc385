use Rattle.std.proofs.Common.{refl, rules, tests}
use Rattle.wasmparser_entries.specs.ConstExprs.{expression_of}
use Rattle.wasmparser_module_state.proofs.SegmentLaws.{fits_no_table, fits_table}
use Rattle.wasmparser_module_state.specs.State.{context, features_of, table}
use Rattle.wasmparser_module_state.proofs.module_state.ModuleState.add_index.Goals as goal

pub returns-then-not-is_below-clause-judged : goal.returns-then-not-is_below-clause-judged
returns-then-not-is_below-clause-judged c =
    rw (c.refusal-then-not-is_below.ensures) (fits_no_table (features_of c.args.self.now) (context c.args.self.now) _ (table c.in-Some.table) _ (expression_of c.args.index.now.rest) c.in-Some.ensures (λ below. search (rules, tests)), refl)

pub returns-clause-judged : goal.returns-clause-judged
returns-clause-judged c =
    fits_table (features_of c.args.self.now) (context c.args.self.now) _ (table c.in-Some.table) _ _ (expression_of c.args.index.now.rest) c.args.offset _ c.in-Some.ensures (c.is_below.ensures.0 (search (rules, tests))) c.index_type.ensures.meant c.add_initialiser.ensures.judged
