use Rattle.std.proofs.Common.{rules}
use Rattle.wasm_gen_explain.proofs.ImportLaws.{all_functions, no_functions}
use Rattle.wasm_gen_explain.proofs.imported.read_names.Goals as goal

-- src/imported.rt:144:9
pub returns-then-each-eq0-clause-counts : goal.returns-then-each-eq0-clause-counts
returns-then-each-eq0-clause-counts c = (no_functions _ _ _ _ _ _ _ c.in_ok-read_bytes.ensures.exact.0 c.in_ok-each.ensures.counts.0 (search rules) c.in_ok-names.ensures.counts.0, search rules)

-- src/imported.rt:135:1
pub returns-clause-counts : goal.returns-clause-counts
returns-clause-counts c = (all_functions _ _ _ _ _ _ _ c.in_ok-read_bytes.ensures.exact.0 c.in_ok-each.ensures.counts.0 (search rules) (search rules) c.in_ok-names.ensures.counts.0, search rules)
