use Rattle.std.proofs.Common.{◌-◌, ◌≤◌, ap, length, map, refl, ◌∙◌, arith}
use Rattle.wasmparser_types.specs.ValTypes.{val_type}
use Rattle.wasmparser_bodies.specs.KeptLocals.{locals_with}
use Rattle.wasmparser_bodies.specs.LocalRuns.{kept_of}
use Rattle.wasmparser_bodies.proofs.LocalLaws.{all_parameters}
use Rattle.wasmparser_bodies.proofs.locals.Locals.define_parameters.Goals as goal

pub returns-in-Ok-clause-ok : goal.returns-in-Ok-clause-ok
returns-in-Ok-clause-ok c =
    let types = c.args.params.now in
    let first = c.keep_parameters.new.first.items in
    let count = c.min-count.result in
    let few : c.min-count.result ≤ 64 = omega (arith, c.min-count.ensures) in
    ap (λ runs. locals_with (map val_type types) (kept_of first (length types - count) runs)) c.clear.ensures.items
    ∙ all_parameters types first (length types - count) count c.in-Ok.ensures refl few (λ lt. omega (arith, lt, c.min-count.ensures))
