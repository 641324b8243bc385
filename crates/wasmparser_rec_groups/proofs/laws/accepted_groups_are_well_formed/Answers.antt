use Rattle.wasmparser_rec_groups.proofs.Interned.{types, well_formed}
use Rattle.wasmparser_rec_groups.proofs.laws.accepted_groups_are_well_formed.Goals as goal

pub returns : goal.returns
returns c = record {
  well_formed = λ canonical features ids new_ids old new group it accepts own.
      let valid = accepts.valid in
      well_formed canonical features ids old new group valid.is_new accepts.number it valid.internable valid.interned own valid.few_items valid.kept;
  types = λ canonical features ids new_ids old new group it accepts own.
      let valid = accepts.valid in
      types canonical features ids old new group valid.is_new accepts.number it valid.internable valid.interned own new_ids accepts.added;
}
