use Rattle.std.proofs.Common.{List, ℕ, subst}
use Rattle.std.proofs.lemmas.Result.{IfOk-weaker, IfErr-weaker}
use Rattle.wasm_smith.specs.Config.{sanitized}
use Rattle.wasm_smith_module.specs.Promise.{HasDrawnData}
use Rattle.wasm_smith_module.specs.TrueToShapes.{TakesImports}
use Rattle.wasm_gen_sessions.specs.Written.{IsGenerated}
use Rattle.wasm_gen_sessions.specs.Generate.{IsCause, IsGeneratedFrom, IsUnwritable}
use Rattle.wasm_gen_sessions.proofs.GenerateLaws.{IsDrawn, generated_from, refused_from}
use Rattle.wasm_gen_sessions.proofs.generate.bytes_for.Goals as goal

pub returns-clause-generated : goal.returns-clause-generated
returns-clause-generated c =
    let config = sanitized c.args.config in
    let seed = c.args.seed.now in
    let left = c.new_within.new.unstructured in
    let m = c.in-Some.made in
    let made = rw c.in-Some.is at c.in_ok-made.ensures.made in
    let drawn = subst (λ (s : List ℕ). IsDrawn config s m.made left) c.new-unstructured.ensures (rw c.in-Some.is at c.in_ok-made.ensures.drawn) in
    let imports = subst (λ (s : List ℕ). TakesImports config s m.made) c.new-unstructured.ensures (rw c.in-Some.is at c.in_ok-made.ensures.imports) in
    let contents = subst (λ (s : List ℕ). HasDrawnData s left m.made) c.new-unstructured.ensures (rw c.in-Some.is at c.in_ok-made.ensures.contents) in
    IfOk-weaker c.written_bytes.result (λ bytes. IsGenerated config m.made bytes.items) (λ bytes. IsGeneratedFrom config seed bytes.items)
    (λ bytes g. generated_from config seed left m bytes.items made drawn imports contents g) (c.written_bytes.ensures.written config made)

pub returns-clause-refused : goal.returns-clause-refused
returns-clause-refused c =
    let config = sanitized c.args.config in
    let seed = c.args.seed.now in
    let left = c.new_within.new.unstructured in
    let m = c.in-Some.made in
    let made = rw c.in-Some.is at c.in_ok-made.ensures.made in
    let drawn = subst (λ (s : List ℕ). IsDrawn config s m.made left) c.new-unstructured.ensures (rw c.in-Some.is at c.in_ok-made.ensures.drawn) in
    let imports = subst (λ (s : List ℕ). TakesImports config s m.made) c.new-unstructured.ensures (rw c.in-Some.is at c.in_ok-made.ensures.imports) in
    let contents = subst (λ (s : List ℕ). HasDrawnData s left m.made) c.new-unstructured.ensures (rw c.in-Some.is at c.in_ok-made.ensures.contents) in
    IfErr-weaker c.written_bytes.result (IsUnwritable config m.made) (IsCause config seed) (λ e h. refused_from config seed left m e made drawn imports contents h)
    (c.written_bytes.ensures.refused config made)
