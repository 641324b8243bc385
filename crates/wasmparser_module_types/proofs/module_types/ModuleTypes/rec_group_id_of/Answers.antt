use Rattle.std.proofs.Common.{◌<◌, arith, length, subst, sym}
use Rattle.wasmparser_module_types.proofs.GroupIds.{is_group}
use Rattle.wasmparser_module_types.proofs.KnownIds.{kept_count}
use Rattle.wasmparser_module_types.specs.ModuleTypes.{IsGroupOf, KnownTypes}
use Rattle.wasmparser_module_types.proofs.module_types.ModuleTypes.rec_group_id_of.Goals as goal

pub rec_group_id_of-requires-clause-known : goal.rec_group_id_of-requires-clause-known
rec_group_id_of-requires-clause-known c =
    let list = c.self.inside.list in
    let within = subst (λ (known : KnownTypes). c.args.id < length known.interned) (sym c.self.view_is) c.requires in
    omega (arith, within, kept_count list c.self.invariant.0.agree)

pub returns : goal.returns
returns c =
    let list = c.self.inside.list in
    subst (λ (known : KnownTypes). IsGroupOf known c.args.id c.rec_group_id_of.result) c.self.view_is (is_group list c.self.invariant.0.agree c.args.id c.rec_group_id_of.result c.rec_group_id_of.ensures)
