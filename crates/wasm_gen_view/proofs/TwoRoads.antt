-- The view of a made module is that of the valid module whose bytes it is written as.
use Rattle.std.specs.Prelude.{◌≡◌, ℕ, Bool, true, List, Ok}
use Rattle.std.proofs.Common.{◌∙◌, refl, ap, subst}
use Rattle.wasm_core_read.proofs.ModuleForms.{module_one}
use Rattle.wasm_smith_validity.specs.Made.{Made}
use Rattle.wasm_smith_validity.specs.Sections.{sections_with}
use Rattle.wasm_spec.specs.Features.{Features, CompactImports, has}
use Rattle.wasm_spec.specs.Grammar.{IsModule}
use Rattle.wasm_spec.specs.Syntax.{Section}
use Rattle.wasm_spec.specs.Trees.{DefType}
use Rattle.wasm_validity.specs.Entries.{entries_of}
use Rattle.wasm_validity.specs.IndexSpaces.{Spaces, spaces_of}
use Rattle.wasm_validity.specs.Modules.{IsValid}
use Rattle.wasm_validity_laws.proofs.NamedTypes.{types_named}
use Rattle.wasmparser_validator.specs.KnownSpaces.{KnownModule, spaces_known}
use Rattle.wasmparser_validator.specs.Validation.{IsValidated}
use Rattle.wasm_gen_view.proofs.EqualValues.{spaces_decide}
use Rattle.wasm_gen_view.proofs.ValidTypes.{names_have_types}
use Rattle.wasm_gen_view.proofs.WrittenSpaces.{spaces_written, views_written}
use Rattle.wasm_gen_view.specs.MadeSpaces.{made_spaces}
use Rattle.wasm_gen_view.specs.Views.{HasTypes, IsViewOf}
use Rattle.wasm_gen_view.specs.contracts.view.ViewPartialEq.TheImpl as views
use Rattle.wasm_gen_view.specs.declared.view.View.{View}

valid_spaces : (features : Features) (sections : List Section) → IsValid features sections → HasTypes (spaces_of sections)
valid_spaces features sections valid = names_have_types (spaces_of sections) (types_named features (entries_of sections) valid.fine.rules)

pub one_view_of_both : (features : Features) (held : List DefType) (m : Made) (counted : Bool) (bodies : List (List ℕ)) (bytes : List ℕ) (known : KnownModule) (v w : View)
    → IsModule (has features CompactImports) bytes (sections_with counted bodies m) → IsValidated features held bytes (Ok known)
    → IsViewOf (made_spaces m) v → IsViewOf (spaces_known known) w → views.ghosts.eq v w ≡ true
one_view_of_both features held m counted bodies bytes known v w reads validated it also =
    let written = sections_with counted bodies m in
    let right = validated.right in
    let same : right.0 ≡ written = module_one (has features CompactImports) bytes right.0 written right.1.reads reads in
    let there : HasTypes (spaces_of written) = valid_spaces features written (subst (IsValid features) same right.1.valid) in
    let here : IsViewOf (spaces_of written) v = (views_written m counted bodies v).0 it in
    let back : IsViewOf (spaces_of written) w = subst (λ (s : Spaces). IsViewOf s w) (right.2 ∙ ap spaces_of same) also in
    let types = ap (λ (s : Spaces). s.types) (spaces_written m counted bodies) in
    (spaces_decide (spaces_of written) (spaces_of written) m.groups m.groups v w types types there there here back).1 refl
