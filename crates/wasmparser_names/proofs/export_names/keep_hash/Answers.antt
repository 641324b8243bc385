use Rattle.wasmparser_names.proofs.KeptExports.{free_name, holds_others, still_hashed}
use Rattle.wasmparser_names.specs.KeptExports.{listed}
use Rattle.wasmparser_names.proofs.export_names.keep_hash.Goals as goal

pub returns-then-branch-clause-new : goal.returns-then-branch-clause-new
returns-then-branch-clause-new c =
    free_name c.args.hasher.now c.args.hashes.now.keys c.args.name.now (listed c.args.names.now 0 c.args.exports.now) c.hash_of.result c.in_ok-insert.field-0
    c.requires.hashed c.hash_of.ensures c.in_ok-insert.ensures.added c.if-branch.true

pub returns-then-branch-clause-hashed : goal.returns-then-branch-clause-hashed
returns-then-branch-clause-hashed c =
    still_hashed c.args.hasher.now c.insert.new.self.keys c.args.hashes.now.keys (listed c.args.names.now 0 c.args.exports.now)
    (holds_others c.args.hashes.now.keys c.hash_of.result c.insert.new.self.keys c.in_ok-insert.ensures.updates.0) c.requires.hashed
