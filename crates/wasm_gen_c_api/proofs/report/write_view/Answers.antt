-- The text that is lent as a slice is that of the view.
use Rattle.std.proofs.Common.{Some, subst, sym}
use Rattle.wasm_gen_view.specs.TypesText.{IsViewText}
use Rattle.wasmparser_validator.specs.Shown.{spaces}
use Rattle.wasm_gen_c_api.proofs.report.write_view.Goals as goal

pub returns-in-Ok : goal.returns-in-Ok
returns-in-Ok c = record {
  report = Some c.deref.result.now;
  is_report = subst (IsViewText (spaces c.args.types)) (sym c.deref.ensures.value) c.in-Ok.ensures;
  told = c.write_text.ensures.told;
  needed = c.write_text.ensures.needed;
  buffer = c.write_text.ensures.written;
}
