-- Lists of parts of core dumps, and their encodings.
use Rattle.std.proofs.Common.{◌≡◌, ℕ, List, map, Option}
use Rattle.wasm_core_write.proofs.Items.{viewed}
use Rattle.wasm_core_write.proofs.TypeLists.{list_mapped}
use Rattle.wasm_core_write.specs.Encoding.{TellsItem}
use Rattle.wasm_spec.specs.Shortest.{list_encoding}
use Rattle.wasm_encoder_custom.specs.CoreDumps.{dumped_name_encoding, dumped_instance_encoding}
use Rattle.wasm_encoder_custom.specs.KeptDumps.{dumped_name, dumped_name_bytes, dumped_instance, dumped_instance_bytes}
use Rattle.wasm_encoder_custom.specs.declared.core_dump.DumpedName.{DumpedName}
use Rattle.wasm_encoder_custom.specs.declared.core_dump_instances.KeptInstance.{KeptInstance}

pub names : (items : List DumpedName) → list_encoding dumped_name_bytes items ≡ list_encoding dumped_name_encoding (map dumped_name items)
unfolding dumped_name_bytes
names items = list_mapped dumped_name_encoding dumped_name items

pub instances : (items : List KeptInstance) → list_encoding dumped_instance_bytes items ≡ list_encoding dumped_instance_encoding (map dumped_instance items)
unfolding dumped_instance_bytes
instances items = list_mapped dumped_instance_encoding dumped_instance items

pub ruleset steps = (names, instances)

pub name_told : (items : List DumpedName) (i : ℕ) (told : Option ℕ) → TellsItem dumped_name_bytes items i told → TellsItem dumped_name_encoding (map dumped_name items) i told
unfolding dumped_name_bytes
name_told items i told h = viewed dumped_name_encoding dumped_name items i told h

pub instance_told : (items : List KeptInstance) (i : ℕ) (told : Option ℕ) → TellsItem dumped_instance_bytes items i told → TellsItem dumped_instance_encoding (map dumped_instance items) i told
unfolding dumped_instance_bytes
instance_told items i told h = viewed dumped_instance_encoding dumped_instance items i told h
