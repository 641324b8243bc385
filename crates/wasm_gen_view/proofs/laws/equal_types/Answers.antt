use Rattle.wasm_gen_view.proofs.EqualityLaws.{composites_decide, fields_decide, funcs_decide, refs_decide, storages_decide, subs_decide, vals_decide}
use Rattle.wasm_gen_view.proofs.laws.equal_types.Goals as goal

pub returns-clause-ref_types : goal.returns-clause-ref_types
returns-clause-ref_types c = refs_decide

pub returns-clause-val_types : goal.returns-clause-val_types
returns-clause-val_types c = vals_decide

pub returns-clause-storage_types : goal.returns-clause-storage_types
returns-clause-storage_types c = storages_decide

pub returns-clause-field_types : goal.returns-clause-field_types
returns-clause-field_types c = fields_decide

pub returns-clause-func_types : goal.returns-clause-func_types
returns-clause-func_types c = funcs_decide

pub returns-clause-composite_types : goal.returns-clause-composite_types
returns-clause-composite_types c = composites_decide

pub returns-clause-sub_types : goal.returns-clause-sub_types
returns-clause-sub_types c = subs_decide
