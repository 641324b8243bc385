use Rattle.wasmparser_types.proofs.EqualityLaws.{refs_decide, vals_decide, storages_decide, fields_decide, funcs_decide, structs_decide, composites_decide, subs_decide, groups_decide}
use Rattle.wasmparser_types.proofs.laws.equality.Goals as goal

pub returns-clause-ref_types : goal.returns-clause-ref_types
returns-clause-ref_types c = refs_decide

pub returns-clause-val_types : goal.returns-clause-val_types
returns-clause-val_types c = vals_decide

pub returns-clause-storage_types : goal.returns-clause-storage_types
returns-clause-storage_types c = storages_decide

pub returns-clause-field_types : goal.returns-clause-field_types
returns-clause-field_types c = fields_decide

pub returns-clause-func_types : goal.returns-clause-func_types
returns-clause-func_types c = funcs_decide

pub returns-clause-struct_types : goal.returns-clause-struct_types
returns-clause-struct_types c = structs_decide

pub returns-clause-composite_types : goal.returns-clause-composite_types
returns-clause-composite_types c = composites_decide

pub returns-clause-sub_types : goal.returns-clause-sub_types
returns-clause-sub_types c = subs_decide

pub returns-clause-rec_groups : goal.returns-clause-rec_groups
returns-clause-rec_groups c = groups_decide

pub returns-clause-array_types : goal.returns-clause-array_types
returns-clause-array_types c = λ a b. fields_decide a.0 b.0
