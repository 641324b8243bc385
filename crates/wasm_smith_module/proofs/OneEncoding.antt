-- A made module has one encoding.
use Rattle.std.proofs.Common.{◌≡◌, ℕ, Bool, List, [], ◌∷◌, ◌++◌, map, refl, sym, ap, ◌∙◌}
use Rattle.wasm_core_types.specs.CoreTypes.{val_type}
use Rattle.wasm_core_types.specs.declared.types.ValType.{ValType}
use Rattle.wasm_encoder_bodies.specs.Locals.{locals_encoding, AreRunsOf}
use Rattle.wasm_spec.specs.Types as spec
use Rattle.wasm_smith_sections.specs.ModuleEncoding.{as_run, IsBodyEncoding, AreBodyEncodings, IsModuleEncoding, encoding_with}
use Rattle.wasm_smith_sections.proofs.CodeTypes.{code_type, same_code_type, type_there}
use Rattle.wasm_smith_sections.proofs.SeenRuns.{seen, are_runs}
use Rattle.wasm_smith_validity.specs.Made.{Made, MadeBody}
use Rattle.wasm_smith_validity.specs.MadeBodies.{code_of}

-- types of the code have one list of runs
abbrev HaveOneList : Type 0
HaveOneList = (types : List ValType) (runs others : List (ℕ × ValType)) → AreRunsOf types runs → AreRunsOf types others → runs ≡ others

there_again : (runs : List (ℕ × spec.ValType ℕ)) → map (seen val_type) (map (seen code_type) runs) ≡ runs
there_again [] = refl
there_again (run ∷ runs) = rw (type_there run.1, there_again runs) refl

same_runs : HaveOneList → (types : List (spec.ValType ℕ)) (runs others : List (ℕ × spec.ValType ℕ)) → AreRunsOf types runs → AreRunsOf types others → runs ≡ others
same_runs one types runs others h k =
    let same = one (map code_type types) (map (seen code_type) runs) (map (seen code_type) others)
    (are_runs code_type same_code_type types runs h) (are_runs code_type same_code_type types others k) in
    sym (there_again runs) ∙ ap (map (seen val_type)) same ∙ there_again others

pub same_body : HaveOneList → (made : MadeBody) (encoding other : List ℕ) → IsBodyEncoding made encoding → IsBodyEncoding made other → encoding ≡ other
same_body one made encoding other h k =
    h.is ∙ ap (λ runs. locals_encoding (map as_run runs) ++ code_of made.raw) (same_runs one made.locals h.runs k.runs h.joined k.joined) ∙ sym k.is

same_bodies : HaveOneList → (made : List MadeBody) (bodies others : List (List ℕ)) → AreBodyEncodings made bodies → AreBodyEncodings made others → bodies ≡ others
same_bodies one [] [] [] h k = refl
same_bodies one [] [] (other ∷ others) h k = absurd k
same_bodies one [] (body ∷ bodies) others h k = absurd h
same_bodies one (first ∷ rest) [] others h k = absurd h
same_bodies one (first ∷ rest) (body ∷ bodies) [] h k = absurd k
same_bodies one (first ∷ rest) (body ∷ bodies) (other ∷ others) h k =
    let heads = same_body one first body other h.0 k.0 in
    let tails = same_bodies one rest bodies others h.1 k.1 in
    cc

pub same_encoding : HaveOneList → (counted : Bool) (m : Made) (encoding other : List ℕ) → IsModuleEncoding counted m encoding → IsModuleEncoding counted m other → encoding ≡ other
same_encoding one counted m encoding other h k =
    h.is ∙ ap (encoding_with counted m) (same_bodies one m.bodies h.bodies k.bodies h.are k.are) ∙ sym k.is
