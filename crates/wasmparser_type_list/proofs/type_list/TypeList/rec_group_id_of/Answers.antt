use Rattle.std.proofs.Common.{length, ap, arith}
use Rattle.wasmparser_type_list.proofs.TableLaws.{rec_groups_count}
use Rattle.wasmparser_type_list.proofs.type_list.TypeList.rec_group_id_of.Goals as goal

pub index-requires-2 : goal.index-requires-2
index-requires-2 c =
    let old = ap (λ t. length t.rec_groups) c.self.view_is in
    omega (arith, old, rec_groups_count c.args.self.now c.requires.agree, c.requires.known, c.index.ensures)
