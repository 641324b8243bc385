use Rattle.std.proofs.Common.{◌∙◌, Bor, List, ℕ, [], map, ap, codes}
use Rattle.std.proofs.lemmas.Result.{IfOk-weaker}
use Rattle.std.specs.Prelude.{unwrap_or}
use Rattle.clap.proofs.WalkLemmas.{raw_values-rows}
use Rattle.clap.specs.Words.{found_of}
use Rattle.wasm_gen_program.proofs.asked.file_names.Goals as goal

pub returns-in-Some : goal.returns-in-Some
returns-in-Some c =
    let given = c.in-Some.ensures ∙ raw_values-rows (found_of c.args.found.now) (codes "FILE") in
    IfOk-weaker c.from_slice.result _ _ (λ names same. ap (map (λ (name : Bor (List ℕ)). name.now)) same ∙ ap (λ o. unwrap_or o []) given) c.from_slice.ensures.items

pub returns-in-None : goal.returns-in-None
returns-in-None c =
    let given = c.in-None.ensures ∙ raw_values-rows (found_of c.args.found.now) (codes "FILE") in
    ap (map (λ (name : Bor (List ℕ)). name.now)) c.new.ensures.items ∙ ap (λ o. unwrap_or o []) given
