use Rattle.wasm_core_read.proofs.Forms.{reads_unsigned, reads_body}
use Rattle.wasm_core_read.proofs.ListForms.{reads_list}
use Rattle.wasm_core_read.proofs.TypeForms.{reads_val_type, reads_func_type, reads_rec_group}
use Rattle.wasm_core_read.proofs.laws.reads_lists.Goals as goal

pub returns : goal.returns
returns c = record {
  val_types = reads_list _ _ reads_val_type;
  func_types = reads_list _ _ reads_func_type;
  indexes = reads_list _ _ (reads_unsigned 32);
  rec_groups = reads_list _ _ reads_rec_group;
  bodies = reads_list _ _ reads_body;
}
