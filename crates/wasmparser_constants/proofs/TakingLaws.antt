-- Operands that are taken off one by one.
use Rattle.std.proofs.Common.{◌≡◌, ◌<◌, ◌-◌, ℕ, suc, List, [], ◌∷◌, ◌++◌, replicate, arith, map, reverse, ap, refl, subst, sym, ◌∙◌}
use Rattle.std.proofs.lemmas.List.{map-append, reverse-append}
use Rattle.std.specs.List.{AllByRecursion}
use Rattle.std.specs.Prelude.{⊤, Result, Ok, Err}
use Rattle.wasm_spec.specs.Trees.{DefType}
use Rattle.wasm_spec.specs.Types.{ValType}
use Rattle.wasm_validity.specs.ConstantTyping.{Operands as Standing, TakesOff}
use Rattle.wasmparser_constants.specs.Operands.{Operands, AreKnown, meant, meant_type}
use Rattle.wasmparser_constants.specs.Scopes.{field_values}
use Rattle.wasmparser_constants.specs.Steps.{Judges, Refuses}
use Rattle.wasmparser_error.specs.declared.error.Error.{Error}
use Rattle.wasmparser_error.specs.declared.error.ErrorKind.{ErrorKind}
use Rattle.wasmparser_error.specs.declared.error.ErrorKind.TheVariants as kinds
use Rattle.wasmparser_module_types.specs.ModuleTypes.{KnownTypes}
use Rattle.wasmparser_types.specs.Index.{Index}
use Rattle.wasmparser_types.specs.ValTypes.{storage_type, unpacked_type}
use Rattle.wasmparser_types.specs.declared.val_type.FieldType.{FieldType}

-- what is left to be taken off these operands tells as much as all of it from the first on
pub record IsAsFar (known : KnownTypes) (all : List (ValType DefType)) (first : Operands) (types : List (ValType DefType)) (now : Operands) : Type 0 where
  pub are_known : AreKnown known now
  pub stuck : TakesOff all (meant known first) (λ _. ⊤) → TakesOff types (meant known now) (λ _. ⊤)
  pub leads : (next : Standing) → TakesOff types (meant known now) (λ others. others ≡ next) → TakesOff all (meant known first) (λ others. others ≡ next)

pub none_taken : (known : KnownTypes) (all : List (ValType DefType)) (first : Operands) → AreKnown known first → IsAsFar known all first all first
none_taken known all first are = record { are_known = are; stuck = λ t. t; leads = λ next t. t }

one_stuck : (type : ValType DefType) (types : List (ValType DefType)) (operands next : Standing) → TakesOff (type ∷ []) operands (λ others. others ≡ next)
    → TakesOff (type ∷ types) operands (λ _. ⊤) → TakesOff types next (λ _. ⊤)
one_stuck type types [] next one all = absurd one
one_stuck type types (x ∷ xs) next one all = subst (λ o. TakesOff types o (λ _. ⊤)) one.1 all.1

one_leads : (type : ValType DefType) (types : List (ValType DefType)) (operands next end : Standing) → TakesOff (type ∷ []) operands (λ others. others ≡ next)
    → TakesOff types next (λ others. others ≡ end) → TakesOff (type ∷ types) operands (λ others. others ≡ end)
one_leads type types [] next end one rest = absurd one
one_leads type types (x ∷ xs) next end one rest = (one.0, subst (λ o. TakesOff types o (λ others. others ≡ end)) (sym one.1) rest)

first_of : (type : ValType DefType) (types : List (ValType DefType)) (operands : Standing) → TakesOff (type ∷ types) operands (λ _. ⊤) → TakesOff (type ∷ []) operands (λ _. ⊤)
first_of type types [] all = all
first_of type types (x ∷ xs) all = (all.0, tt)

pub one_taken : (known : KnownTypes) (all : List (ValType DefType)) (first : Operands) (type : ValType DefType) (types : List (ValType DefType)) (now new : Operands)
    → IsAsFar known all first (type ∷ types) now → TakesOff (type ∷ []) (meant known now) (λ others. others ≡ meant known new) → AreKnown known new → IsAsFar known all first types new
one_taken known all first type types now new far one are = record {
  are_known = are;
  stuck = λ t. one_stuck type types (meant known now) (meant known new) one (far.stuck t);
  leads = λ next t. far.leads next (one_leads type types (meant known now) (meant known new) next one t);
}

pub one_refused : (known : KnownTypes) (all : List (ValType DefType)) (first : Operands) (type : ValType DefType) (types : List (ValType DefType)) (now : Operands)
    → IsAsFar known all first (type ∷ types) now → ¬ (TakesOff (type ∷ []) (meant known now) (λ _. ⊤)) → ¬ (TakesOff all (meant known first) (λ _. ⊤))
one_refused known all first type types now far refused t = refused (first_of type types (meant known now) (far.stuck t))

pub all_taken : (known : KnownTypes) (all : List (ValType DefType)) (first now : Operands) → IsAsFar known all first [] now → TakesOff all (meant known first) (λ others. others ≡ meant known now)
all_taken known all first now far = far.leads (meant known now) refl

-- ---- refusals

pub refuses_on : {P Q R S : Type 0} (place : ℕ) (kind : ErrorKind) (offset : ℕ) → (P → Q) → (R → S) → Refuses place P R kind offset → Refuses place Q S kind offset
refuses_on place kinds.Invalid offset f g r = (f r.0, r.1)
refuses_on place kinds.Memory offset f g r = (g r.0, r.1)
refuses_on place kinds.Malformed offset f g r = r
refuses_on place (kinds.Limit l) offset f g r = r
refuses_on place kinds.Operator offset f g r = r
refuses_on place kinds.Body offset f g r = r
refuses_on place kinds.Total offset f g r = r
refuses_on place kinds.Order offset f g r = r
refuses_on place kinds.Failed offset f g r = r

-- what a call returned that judges something judges what that is as good as
pub judges_on : {P Q R S : Type 0} (place : ℕ) → (P → Q) → (Q → P) → (R → S) → (result : Result (Unit {0}) Error) → Judges place P R result → Judges place Q S result
judges_on place f g right (Ok x) h = f h
judges_on place f g right (Err e) h = refuses_on place e.kind e.offset (λ not q. not (g q)) right h

one_more : {X : Type 0} (x : X) (n i : ℕ) → i < n → replicate (n - i) x ≡ x ∷ replicate (n - suc i) x
one_more x n i lt = ap (λ m. replicate m x) (later n i lt)
  where
    later : (n i : ℕ) → i < n → n - i ≡ suc (n - suc i)
    later n i lt = omega (arith, lt)

pub item_refused : (known : KnownTypes) (place : ℕ) (type : ValType DefType) (first now : Operands) (n i : ℕ) (e : Error)
    → IsAsFar known (replicate n type) first (replicate (n - i) type) now → i < n → Refuses place (¬ (TakesOff (type ∷ []) (meant known now) (λ _. ⊤))) ⊥ e.kind e.offset
    → Refuses place (¬ (TakesOff (replicate n type) (meant known first) (λ _. ⊤))) ⊥ e.kind e.offset
item_refused known place type first now n i e far lt refuses =
    refuses_on place e.kind e.offset
    (one_refused known (replicate n type) first type (replicate (n - suc i) type) now (subst (λ types. IsAsFar known (replicate n type) first types now) (one_more type n i lt) far))
    (λ none. none) refuses

-- ---- fields, from the last on

pub values_before : (known : KnownTypes) (fields : List FieldType) (field : FieldType)
    → reverse (map (meant_type known) (field_values (fields ++ field ∷ []))) ≡ meant_type known (unpacked_type (storage_type field.element_type)) ∷ reverse (map (meant_type known) (field_values fields))
values_before known fields field =
    ap (λ vs. reverse (map (meant_type known) vs)) (map-append (λ f. unpacked_type (storage_type f.element_type)) fields (field ∷ []))
    ∙ ap reverse (map-append (meant_type known) (field_values fields) (unpacked_type (storage_type field.element_type) ∷ []))
    ∙ reverse-append (map (meant_type known) (field_values fields)) (meant_type known (unpacked_type (storage_type field.element_type)) ∷ [])

pub wanted_before : (P : ValType Index → Type 0) (fields : List FieldType) (field : FieldType) → AllByRecursion P (field_values (fields ++ field ∷ []))
    → AllByRecursion P (field_values fields) × P (unpacked_type (storage_type field.element_type))
wanted_before P [] field all = (tt, all.0)
wanted_before P (f ∷ fs) field all = let others = wanted_before P fs field all.1 in ((all.0, others.0), others.1)
