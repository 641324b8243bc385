use Rattle.std.proofs.Common.{◌<◌, string_bytes, arith}
use Rattle.wasm_encoder_sections.specs.CoreItems.{entity_type}
use Rattle.wasm_spec.specs.Types.{kind_of}
use Rattle.wasm_smith_definitions.specs.Kinds.{count_of}
use Rattle.wasm_smith_externs.specs.Bounds.{most_in, most_of}
use Rattle.wasm_smith_externs.proofs.AddedLaws.{last_added, one_added}
use Rattle.wasm_smith_externs.proofs.CandidateLaws.{offered_keeps, room_from}
use Rattle.wasm_smith_externs.proofs.entries.import_of_type.Goals as goal

pub returns-then-added-clause-added : goal.returns-then-added-clause-added
returns-then-added-clause-added c =
    let config = c.args.importer.now.config.now in
    let type = entity_type c.args.ty.now in
    let bounds = c.args.importer.now.bounds in
    let room : count_of c.args.spaces.now (kind_of type) < most_in bounds (kind_of type) = room_from config bounds c.args.spaces.now (kind_of type) c.requires.can in
    let allowed : count_of c.args.spaces.now (kind_of type) < most_of config (kind_of type) = let within = c.requires.importer.within.items (kind_of type) in omega (arith, room, within) in
    one_added config bounds c.args.spaces.now c.add.new.spaces c.args.progress.now c.draw_name.new.self c.add.new.self c.args.origin.now type (string_bytes c.in_ok-name.name)
    c.in_ok-name.ensures.same.count c.in_ok-name.ensures.same.left c.in_ok-name.ensures.same.size c.in_ok-name.ensures.drawn c.requires.origin c.in_ok-name.ensures.short c.in_ok-name.ensures.plain
    (λ features f. offered_keeps config c.args.spaces.now features type f c.requires.importer.limits c.requires.importer.tables allowed c.requires.offered) c.requires.offered room
    (c.in_ok-added.ensures.added c.if-added.true)

pub returns-clause-added : goal.returns-clause-added
returns-clause-added c =
    last_added c.args.importer.now.config.now c.args.importer.now.bounds c.args.spaces.now c.add.new.spaces c.args.progress.now c.draw_name.new.self c.add.new.self c.args.origin.now (entity_type c.args.ty.now) (string_bytes c.in_ok-name.name) c.requires.offered
    c.in_ok-name.ensures.same.count c.in_ok-name.ensures.same.left c.in_ok-name.ensures.same.size c.in_ok-name.ensures.drawn (c.in_ok-added.ensures.last c.if-added.false)
