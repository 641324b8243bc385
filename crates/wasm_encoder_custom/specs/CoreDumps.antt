-- What was in a program's memory when it failed. Tool Conventions of WebAssembly, "Coredump".
use Rattle.std.specs.Prelude.{ℕ, List, ◌∷◌, ◌++◌}
use Rattle.wasm_spec.specs.Shortest.{unsigned_encoding, list_encoding}
use Rattle.wasm_encoder_sections.specs.ItemEncodings.{name_encoding}

-- the name of the program ("core"), of a module ("coremodules")
unfoldable pub dumped_name_encoding : List ℕ → List ℕ
dumped_name_encoding name = 0x00 ∷ name_encoding name

abbrev pub dumped_modules_encoding : List (List ℕ) → List ℕ
dumped_modules_encoding names = list_encoding dumped_name_encoding names

-- of a module, with the indexes of its memories and globals ("coreinstances")
pub record DumpedInstance : Type 0 where
  pub origin : ℕ
  pub memories : List ℕ
  pub globals : List ℕ

unfoldable pub dumped_instance_encoding : DumpedInstance → List ℕ
dumped_instance_encoding it = 0x00 ∷ (unsigned_encoding it.origin ++ (list_encoding unsigned_encoding it.memories ++ list_encoding unsigned_encoding it.globals))

abbrev pub dumped_instances_encoding : List DumpedInstance → List ℕ
dumped_instances_encoding instances = list_encoding dumped_instance_encoding instances
