use Rattle.wasmparser_type_list.proofs.InternedGroups.{interned_found, still_found, types_more}
use Rattle.wasmparser_type_list.proofs.laws.interned_groups.Goals as goal

pub returns : goal.returns
returns c = record {
  types = λ canonical old new group number agree adds. types_more old new group number agree adds canonical;
  found = interned_found;
  still_found = still_found;
}
