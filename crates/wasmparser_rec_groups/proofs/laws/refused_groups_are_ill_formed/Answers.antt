use Rattle.wasmparser_rec_groups.proofs.Interned.{justified}
use Rattle.wasmparser_rec_groups.proofs.Internable.{can_be_interned}
use Rattle.wasmparser_rec_groups.proofs.ItemLaws.{many_in_section}
use Rattle.wasmparser_rec_groups.proofs.Judged.{right_as_written}
use Rattle.wasmparser_rec_groups.proofs.laws.refused_groups_are_ill_formed.Goals as goal

pub returns : goal.returns
returns c = record {
  many_items = λ canonical tables ids group l many. many_in_section canonical tables ids group l many;
  out_of_memory = λ canonical features ids tables group names internable few. right_as_written canonical features ids tables group names internable few;
  before_interning = λ canonical features ids tables group it rules. can_be_interned canonical features ids tables group it.agree it.none it.known it.names rules;
  after_interning = λ canonical features ids old new group is_new number it internable interned counts kind refused.
      justified canonical features ids old new group is_new number it internable interned counts.own counts.all kind refused;
}
