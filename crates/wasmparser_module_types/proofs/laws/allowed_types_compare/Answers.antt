use Rattle.wasmparser_module_types.proofs.Comparisons.{allowed_lower, allowed_upper, itself}
use Rattle.wasmparser_module_types.proofs.laws.allowed_types_compare.Goals as goal

pub returns : goal.returns
returns c = record { lower = allowed_lower; upper = allowed_upper; itself = itself }
