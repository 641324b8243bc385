use Rattle.std.proofs.Common.{true, [], refl, sym}
use Rattle.wasm_spec.specs.Syntax.{Import}
use Rattle.wasm_spec.proofs.CompactImports.{module_with}
use Rattle.wasm_core_read.proofs.Forms.{prefix_free}
use Rattle.wasm_core_read.proofs.PartForms.{reads_import}
use Rattle.wasm_core_read.proofs.laws.read_under_features.Goals as goal

pub returns : goal.returns
returns c = record {
  more = module_with;
  single = λ compact bytes origin name type. (λ h. h, λ h. h);
  no_group = λ bytes origin name type entry h k. sym ((prefix_free _ _ (reads_import true) bytes bytes [] [] (Import origin name type) entry h k refl).1);
}
