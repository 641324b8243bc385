-- Properties of the module that is made, and causes for making none.
use Rattle.std.proofs.Common.{◌≡◌, ℕ, List, Option, Some, None, Result, Ok, Err, length, sym, ap, ◌∙◌, subst, inl, inr}
use Rattle.std.specs.List.{AllByRecursion, IsDistinct}
use Rattle.std.specs.Prelude.{IfOk, IfErr, IfSome, IfNone, MatchOption}
use Rattle.wasm_smith_config.specs.Config.{IsGood, NamesBad, fields}
use Rattle.wasm_smith_config.specs.declared.config.Config.{Config}
use Rattle.wasm_smith_unstructured.specs.declared.error.Error.{Error}
use Rattle.wasm_smith_unstructured.specs.declared.error.Error.TheVariants.{IncorrectFormat, EmptyChoose, NotEnoughData, BadConfig, BadShape, TypeSize, Memory, TooLong}
use Rattle.wasm_smith_externs.specs.Imports.{AreGrownImports}
use Rattle.wasm_smith_validity.specs.Spaces.{spaces_of_types}
use Rattle.wasm_smith_externs.specs.Named.{HasPlainName, all_named, have_same_names}
use Rattle.wasm_smith_externs.specs.declared.names.DuplicateImportsBehavior.{DuplicateImportsBehavior}
use Rattle.wasm_smith_externs.specs.declared.names.DuplicateImportsBehavior.TheVariants.{Allowed, Disallowed}
use Rattle.wasm_smith_types.proofs.GroupedLaws.{types_of_grouped}
use Rattle.wasm_smith_types.specs.Drawing.{Offers}
use Rattle.wasm_smith_types.specs.Given.{AskForMore, import_shape}
use Rattle.wasm_smith_types.specs.Grouped.{groups, AreWhole}
use Rattle.wasm_smith_types.specs.Making.{made}
use Rattle.wasm_smith_types.specs.Offering.{offers}
use Rattle.wasm_smith_validity.specs.ValidGroups.{types_of}
use Rattle.wasm_smith_types.specs.declared.types.Types.{Types}
use Rattle.wasm_smith_validity.specs.Made.{MadeBody}
use Rattle.wasm_smith_module.proofs.BoundLaws.{bounds_for}
use Rattle.wasm_smith_module.proofs.DrawnLaws.{drawn_for}
use Rattle.wasm_smith_module.proofs.TrueLaws.{takes_for, true_for}
use Rattle.wasm_smith_module.proofs.ValidLaws.{valid_for}
use Rattle.wasm_smith_module.specs.Asked.{HasGoodShapes, IsShapesReason, import_bounds}
use Rattle.wasm_smith_module.specs.Building.{AreImportsFrom, IsBuilt, IsEnd}
use Rattle.wasm_smith_module.specs.Code.{code_at}
use Rattle.wasm_smith_module.specs.Generating.{HasFront, front_at}
use Rattle.wasm_smith_module.specs.ModuleValue.{ModuleValue}
use Rattle.wasm_smith_module.specs.TrueToShapes.{TakesImports}
use Rattle.wasm_smith_module.specs.Promise.{IsMadeFor, IsReason, IsBadConfig, PassesTypes}

made_for : (c : Config) (duplicates : DuplicateImportsBehavior) (old new : List ℕ) (m : ModuleValue) → IsGood c → HasGoodShapes c → IsBuilt c duplicates old new m → IsMadeFor c m
made_for c duplicates old new m good shapes built = record {
  good = good;
  shapes = shapes;
  config = built.finished.config;
  valid = valid_for c duplicates old new m built;
  bounds = bounds_for c duplicates old new m good built;
  true_to_shapes = true_for c duplicates old new m built;
}

-- the bodies, in the words of the step
pub bodies_are : (c : Config) (o : Offers) (types : Types) (bound count : ℕ) (funcs s t : List ℕ) (bodies : List MadeBody) → o ≡ offers c → AreWhole types
    → bound ≡ length (made types) → count ≡ length funcs → code_at c.allow_invalid_funcs o bound count s ≡ (bodies, t)
    → code_at c.allow_invalid_funcs (offers c) (length (types_of (groups types))) (length funcs) s ≡ (bodies, t)
bodies_are c o types bound count funcs s t bodies offered whole many counted coded =
    let bound_is : bound ≡ length (types_of (groups types)) = many ∙ ap length (sym (types_of_grouped types.sizes.items (made types) whole)) in
    rw (offered, bound_is, counted) at coded

-- ---- no module

ended_for : (c : Config) (e : Error) → IsGood c → HasGoodShapes c → IsEnd c e → IsReason c e
ended_for c IncorrectFormat good shapes h = record { good = good; shapes = shapes; some = h }
ended_for c EmptyChoose good shapes h = record { good = good; shapes = shapes; some = h }
ended_for c NotEnoughData good shapes h = h
ended_for c (BadConfig field) good shapes h = absurd h
ended_for c (BadShape part) good shapes h = absurd h
ended_for c TypeSize good shapes h = record { good = good; shapes = shapes; all = h }
ended_for c Memory good shapes h = tt
ended_for c TooLong good shapes h = h

bad_for : (c : Config) (e : Error) → NamesBad (fields c) e → IsReason c e
bad_for c IncorrectFormat h = absurd h
bad_for c EmptyChoose h = absurd h
bad_for c NotEnoughData h = h
bad_for c (BadConfig field) h = h
bad_for c (BadShape part) h = absurd h
bad_for c TypeSize h = absurd h
bad_for c Memory h = tt
bad_for c TooLong h = h

refused_for : (c : Config) (e : Error) → IsGood c → IsShapesReason c e → IsReason c e
refused_for c IncorrectFormat good h = absurd h
refused_for c EmptyChoose good h = absurd h
refused_for c NotEnoughData good h = h
refused_for c (BadConfig field) good h = absurd h
refused_for c (BadShape part) good h = record { good = good; bad = h }
refused_for c TypeSize good h = absurd h
refused_for c Memory good h = tt
refused_for c TooLong good h = h

-- ---- in the words of the calls

abbrev Built : Config → DuplicateImportsBehavior → List ℕ → List ℕ → ℕ → Result (Option ModuleValue) Error → Type 0
Built c duplicates old new most r = IfOk r (λ built. MatchOption built (AskForMore c old most) (IsBuilt c duplicates old new))

pub made_from : (c d : Config) (duplicates : DuplicateImportsBehavior) (old new : List ℕ) (most : ℕ) (r : Result (Option ModuleValue) Error) → d ≡ c → IsGood d → HasGoodShapes d → Built d duplicates old new most r
    → IfOk r (λ made. IfSome made (IsMadeFor c))
made_from c d duplicates old new most (Ok (Some m)) same good shapes h = subst (λ x. IsMadeFor x m) same (made_for d duplicates old new m good shapes h)
made_from c d duplicates old new most (Ok None) same good shapes h = tt
made_from c d duplicates old new most (Err e) same good shapes h = tt

pub taken_from : (c d : Config) (duplicates : DuplicateImportsBehavior) (old new : List ℕ) (most : ℕ) (r : Result (Option ModuleValue) Error) → d ≡ c → Built d duplicates old new most r
    → IfOk r (λ made. IfSome made (λ m. TakesImports c old m.made))
taken_from c d duplicates old new most (Ok (Some m)) same h = subst (λ x. TakesImports x old m.made) same (takes_for d duplicates old new m h)
taken_from c d duplicates old new most (Ok None) same h = tt
taken_from c d duplicates old new most (Err e) same h = tt

pub drawn_from : (c d : Config) (duplicates : DuplicateImportsBehavior) (old new : List ℕ) (most : ℕ) (r : Result (Option ModuleValue) Error) → d ≡ c → Built d duplicates old new most r
    → IfOk r (λ made. IfSome made (λ m. IfSome (front_at c old) (λ drawn. HasFront c drawn m.made new)))
drawn_from c d duplicates old new most (Ok (Some m)) same h =
    subst (λ x. IfSome (front_at x old) (λ drawn. HasFront x drawn m.made new)) same (drawn_for d duplicates old new m h)
drawn_from c d duplicates old new most (Ok None) same h = tt
drawn_from c d duplicates old new most (Err e) same h = tt

-- imports that no shape has
drawn_imports : (d : Config) (duplicates : DuplicateImportsBehavior) (old new : List ℕ) (m : ModuleValue) (h : IsBuilt d duplicates old new m) → import_shape m.config ≡ None
    → AreGrownImports d (import_bounds d (types_of m.made.groups)) duplicates (spaces_of_types (types_of m.made.groups)) h.after h.finished.items.front.imported h.finished.items.front.after_imports m.made.imports
drawn_imports d duplicates old new m h none =
    let front = h.finished.items.front in
    subst (λ x. AreImportsFrom x d duplicates (spaces_of_types (types_of m.made.groups)) h.after front.imported front.after_imports m.made.imports)
    (sym (ap import_shape h.finished.config) ∙ none) front.made_imports.origin

pub distinct_from : (d : Config) (duplicates : DuplicateImportsBehavior) (old new : List ℕ) (most : ℕ) (r : Result (Option ModuleValue) Error) → Built d duplicates old new most r
    → IfOk r (λ made. IfSome made (λ m. import_shape m.config ≡ None → duplicates ≡ Disallowed → IsDistinct have_same_names (all_named m.made.imports)))
distinct_from d duplicates old new most (Ok (Some m)) h = λ none. (drawn_imports d duplicates old new m h none).distinct
distinct_from d duplicates old new most (Ok None) h = tt
distinct_from d duplicates old new most (Err e) h = tt

pub plain_from : (d : Config) (duplicates : DuplicateImportsBehavior) (old new : List ℕ) (most : ℕ) (r : Result (Option ModuleValue) Error) → Built d duplicates old new most r
    → IfOk r (λ made. IfSome made (λ m. import_shape m.config ≡ None → duplicates ≡ Allowed → AllByRecursion HasPlainName (all_named m.made.imports)))
plain_from d duplicates old new most (Ok (Some m)) h = λ none. (drawn_imports d duplicates old new m h none).plain
plain_from d duplicates old new most (Ok None) h = tt
plain_from d duplicates old new most (Err e) h = tt

pub passed_from : (c d : Config) (duplicates : DuplicateImportsBehavior) (old new : List ℕ) (most : ℕ) (r : Result (Option ModuleValue) Error) → d ≡ c → IsGood d → HasGoodShapes d → Built d duplicates old new most r
    → IfOk r (λ made. IfNone made (PassesTypes c old most))
passed_from c d duplicates old new most (Ok (Some m)) same good shapes h = tt
passed_from c d duplicates old new most (Ok None) same good shapes h = subst (λ x. PassesTypes x old most) same (record { good = good; shapes = shapes; more = h })
passed_from c d duplicates old new most (Err e) same good shapes h = tt

pub ended_from : {X : Type 0} (c d : Config) (r : Result X Error) → d ≡ c → IsGood d → HasGoodShapes d → IfErr r (IsEnd d) → IfErr r (IsReason c)
ended_from c d (Ok m) same good shapes h = tt
ended_from c d (Err e) same good shapes h = subst (λ x. IsReason x e) same (ended_for d e good shapes h)

pub unread_from : {X : Type 0} (c : Config) (old new : List ℕ) (r : Result X Error) → IfErr r (IsEnd c) → IfErr r (λ e. IsBadConfig e → new ≡ old)
unread_from c old new (Ok m) h = tt
unread_from c old new (Err e) h = λ bad. elim bad [
  | inl field ↦ absurd (subst (IsEnd c) field.1 h)
  | inr part ↦ absurd (subst (IsEnd c) part.1 h)
]

pub bad_from : (c d : Config) (e : Error) → d ≡ c → NamesBad (fields d) e → IsReason c e
bad_from c d e same h = subst (λ x. IsReason x e) same (bad_for d e h)

pub refused_from : (c d : Config) (e : Error) → d ≡ c → IsGood d → IsShapesReason d e → IsReason c e
refused_from c d e same good h = subst (λ x. IsReason x e) same (refused_for d e good h)
