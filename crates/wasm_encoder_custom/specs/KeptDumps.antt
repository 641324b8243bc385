-- The parts of core dumps of the code as those of the definitions, and their encodings.
use Rattle.std.specs.Prelude.{ℕ, List}
use Rattle.wasm_encoder_sections.specs.CoreItems.{name_of}
use Rattle.wasm_encoder_custom.specs.CoreDumps.{DumpedInstance, dumped_name_encoding, dumped_instance_encoding}
use Rattle.wasm_encoder_custom.specs.declared.core_dump.DumpedName.{DumpedName}
use Rattle.wasm_encoder_custom.specs.declared.core_dump_instances.KeptInstance.{KeptInstance}

abbrev pub dumped_name : DumpedName → List ℕ
dumped_name it = name_of it.name

abbrev pub dumped_instance : KeptInstance → DumpedInstance
dumped_instance it = record { origin = it.origin; memories = it.memories.items; globals = it.globals.items }

unfoldable pub dumped_name_bytes : DumpedName → List ℕ
dumped_name_bytes it = dumped_name_encoding (dumped_name it)

unfoldable pub dumped_instance_bytes : KeptInstance → List ℕ
dumped_instance_bytes it = dumped_instance_encoding (dumped_instance it)
