use Rattle.std.proofs.lemmas.Bool.Decides.{same_from_decides}
use Rattle.std.proofs.lemmas.Slice.Eq.{bytes_eq-Decides}
use Rattle.wasm_smith_config.specs.Instructions.{is_name}
use Rattle.wasm_smith_config.proofs.instruction_kinds.is_name.Goals as goal

pub returns : goal.returns
unfolding is_name
returns c = same_from_decides c.eq_ignore_ascii_case.result _ c.eq_ignore_ascii_case.ensures.test (bytes_eq-Decides _ _)
