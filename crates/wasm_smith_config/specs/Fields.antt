-- The fields of the code as those of the table.
use Rattle.wasm_smith_config.specs.Config.{Field}
use Rattle.wasm_smith_config.specs.declared.check.Field as code

abbrev pub field_of : code.Field → Field
field_of field = record { name = field.name.now; is_bad = field.is_bad }
