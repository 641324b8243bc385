use Rattle.wasm_smith_externs.proofs.AllExportLaws.{all_made}
use Rattle.wasm_smith_externs.proofs.exports.exports.Goals as goal

pub returns-then-config-clause-made : goal.returns-then-config-clause-made
returns-then-config-clause-made c =
    all_made c.args.config.now c.args.imports_size c.args.spaces.now c.args.unstructured.now c.all_exports.new.spaces c.all_exports.new.unstructured c.all_exports.result c.if-config.true
    c.all_exports.ensures.all c.all_exports.ensures.size
