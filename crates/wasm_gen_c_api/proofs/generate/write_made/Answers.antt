-- The generator's result by cases: there is no module, it fits, or it doesn't.
use Rattle.std.proofs.Common.{true, false, sym, ◌∙◌}
use Rattle.wasm_gen_c_api.proofs.WrittenLaws.{made, refused}
use Rattle.wasm_gen_c_api.proofs.generate.write_made.Goals as goal

pub returns-then-put : goal.returns-then-put
returns-then-put c =
    made c.args.config.now _ c.in-Ok.bytes.items _ _ _ _ true c.in-Ok.ensures.generated c.in-Ok.ensures.lists c.deref.ensures.value (c.deref.ensures.len ∙ sym c.len.ensures) c.put.ensures.written (sym c.if-put.true ∙ c.put.ensures.fits)

pub returns-in-Ok : goal.returns-in-Ok
returns-in-Ok c =
    made c.args.config.now _ c.in-Ok.bytes.items _ _ _ _ false c.in-Ok.ensures.generated c.in-Ok.ensures.lists c.deref.ensures.value (c.deref.ensures.len ∙ sym c.len.ensures) c.put.ensures.written (sym c.if-put.false ∙ c.put.ensures.fits)

pub returns : goal.returns
returns c = refused c.args.config.now _ _ c.in-Err.e _ c.in-Err.ensures.refused c.in-Err.ensures.rightly c.refusal_code.ensures
