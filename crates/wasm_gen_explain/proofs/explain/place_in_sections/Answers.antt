use Rattle.std.proofs.Common.{rules}
use Rattle.wasm_gen_explain.proofs.PlaceLaws.{at_end, few_past, one_past}
use Rattle.wasm_gen_explain.proofs.explain.place_in_sections.Goals as goal

-- src/explain.rt:30:5
pub sections-preserved : goal.sections-preserved
sections-preserved c =
    let at = c.sections in
    let new = c.place_at_section.new.reader in
    let imported = c.next_imported-imported.result in
    record {
      past = one_past c.args.reader.now at.reader new c.args.offset at.imported imported at.invariant.past (search rules) (search rules);
      few = few_past at.reader new c.args.offset at.imported imported at.invariant.few (search rules) (search rules);
    }

-- src/explain.rt:36:1
pub returns : goal.returns
returns c = at_end c.args.reader.now c.sections.reader c.args.offset c.sections.imported c.sections.invariant.past (search rules)
