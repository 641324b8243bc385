-- What was on the stack of a thread when its program failed ("corestack"). Tool Conventions of WebAssembly, "Coredump".
use Rattle.std.specs.Int.{w32, w64, to_le_bytes}
use Rattle.std.specs.Prelude.{ℕ, ℤ, List, [], ◌∷◌, ◌++◌}
use Rattle.wasm_spec.specs.Shortest.{unsigned_encoding, signed_encoding, list_encoding}
use Rattle.wasm_encoder_custom.specs.CoreDumps.{dumped_name_encoding}

-- the value of a local or of an operand, where it can be told; floating-point numbers are their bits
pub data DumpedValue : Type 0 where
  MissingValue : DumpedValue
  I32Value : ℤ → DumpedValue
  I64Value : ℤ → DumpedValue
  F32Value : ℕ → DumpedValue
  F64Value : ℕ → DumpedValue

unfoldable pub dumped_value_encoding : DumpedValue → List ℕ
dumped_value_encoding MissingValue = 0x01 ∷ []
dumped_value_encoding (I32Value value) = 0x7f ∷ signed_encoding value
dumped_value_encoding (I64Value value) = 0x7e ∷ signed_encoding value
dumped_value_encoding (F32Value bits) = 0x7d ∷ to_le_bytes w32 bits
dumped_value_encoding (F64Value bits) = 0x7c ∷ to_le_bytes w64 bits

-- a frame: its instance and its function, where in the function's body it stands, and its locals and operands
pub record DumpedFrame : Type 0 where
  pub instance_index : ℕ
  pub function_index : ℕ
  pub code_offset : ℕ
  pub locals : List DumpedValue
  pub stack : List DumpedValue

unfoldable pub dumped_frame_encoding : DumpedFrame → List ℕ
dumped_frame_encoding it =
    0x00 ∷ (unsigned_encoding it.instance_index ++ (unsigned_encoding it.function_index ++ (unsigned_encoding it.code_offset
    ++ (list_encoding dumped_value_encoding it.locals ++ list_encoding dumped_value_encoding it.stack))))

-- the name of a thread, and its frames
pub record DumpedStack : Type 0 where
  pub name : List ℕ
  pub frames : List DumpedFrame

unfoldable pub dumped_stack_encoding : DumpedStack → List ℕ
dumped_stack_encoding it = dumped_name_encoding it.name ++ list_encoding dumped_frame_encoding it.frames
