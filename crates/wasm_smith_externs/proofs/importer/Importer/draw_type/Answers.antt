use Rattle.std.proofs.Common.{◌≡◌, true}
use Rattle.wasm_spec.specs.Types.{FuncKind, TagKind}
use Rattle.wasm_smith_externs.specs.Candidates.{can_import}
use Rattle.wasm_smith_externs.proofs.CandidateLaws.{function_offered, some_functions, some_tags, tag_offered}
use Rattle.wasm_smith_externs.proofs.importer.Importer.draw_type.Goals as goal

pub returns-in-Func-clause-offered : goal.returns-in-Func-clause-offered
returns-in-Func-clause-offered c =
    let can : can_import c.args.self.now.config.now c.args.self.now.bounds c.args.spaces.now FuncKind ≡ true = rw c.in-Func.is at c.requires.can in
    function_offered c.args.spaces.now.types c.args.unstructured.now c.choose_index.new.unstructured c.choose_index.result (some_functions c.args.self.now.config.now c.args.self.now.bounds c.args.spaces.now can)
    (rw (c.deref.ensures.value, c.requires.importer.functions) at c.choose_index.ensures.drawn)

pub returns-in-Tag-clause-offered : goal.returns-in-Tag-clause-offered
returns-in-Tag-clause-offered c =
    let can : can_import c.args.self.now.config.now c.args.self.now.bounds c.args.spaces.now TagKind ≡ true = rw c.in-Tag.is at c.requires.can in
    let some = some_tags c.args.self.now.config.now c.args.self.now.bounds c.args.spaces.now can in (
      some.0,
      tag_offered c.args.spaces.now.types c.args.unstructured.now c.choose_index-in-Tag.new.unstructured c.choose_index-in-Tag.result some.1
          (rw (c.deref-in-Tag.ensures.value, c.requires.importer.tags) at c.choose_index-in-Tag.ensures.drawn),
    )
