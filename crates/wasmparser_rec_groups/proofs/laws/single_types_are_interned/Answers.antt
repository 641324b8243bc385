use Rattle.std.proofs.Common.{refl}
use Rattle.wasmparser_type_relations.specs.Chains.{below_none}
use Rattle.wasmparser_type_list.specs.TypeTables.{final_func}
use Rattle.wasmparser_rec_groups.proofs.SingleTypes.{still_earlier, still_no_module}
use Rattle.wasmparser_rec_groups.proofs.laws.single_types_are_interned.Goals as goal

pub returns : goal.returns
returns c = record {
  earlier = λ old new type is_new number. still_earlier old new type is_new number;
  function = λ old new type is_new number earlier. still_earlier old new (final_func type) is_new number earlier (below_none refl);
  no_module = λ old new type is_new number. still_no_module old new type is_new number;
}
