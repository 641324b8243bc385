-- Functions that constant expressions name are there, and which functions are declared changes nothing of what an expression gives.
use Rattle.std.proofs.Common.{◌≡◌, ◌<◌, ℕ, Bool, true, false, IfOk, IfSome, Err, Ok, Result, List, [], ◌∷◌, length, map, Option, Some, None, option_map, slice_get, refl, sym, ap, subst, ◌∙◌}
use Rattle.std.proofs.lemmas.List.{length-map}
use Rattle.std.proofs.lemmas.Option.{slice_get_within}
use Rattle.wasm_spec.specs.Constants.{ConstantOperator, I32Const, I64Const, F32Const, F64Const, V128Const, RefNull, RefFunc, GlobalGet, I32Add, I32Sub, I32Mul, I64Add, I64Sub, I64Mul, StructNew, StructNewDefault, ArrayNew, ArrayNewDefault, ArrayNewFixed, AnyConvertExtern, ExternConvertAny, RefI31, ConstantExpression}
use Rattle.wasm_spec.specs.Features.{Features, ReferenceTypes, has}
use Rattle.wasm_spec.specs.Syntax.{ElementMode, ActiveElement, PassiveElement, DeclaredElement}
use Rattle.wasm_spec.specs.Trees.{DefType}
use Rattle.wasm_spec.specs.Types.{Abstract, Concrete, ExternalKind, FuncKind, TableKind, MemoryKind, GlobalKind, TagKind, ExternalType, FuncExternal, TableType, ValType, I32, I64, F32, F64, V128, Ref}
use Rattle.wasm_validity.specs.ConstantTyping.{Converts, Does, Effect, IsConstantFor, IsConstantOf, Leaves, Operands, Puts, Runs, TakesOff, effect}
use Rattle.wasm_validity.specs.Context.{Context, exported_function, functions_in, item_at, named_by, named_in}
use Rattle.wasm_validity.specs.Rules.{FitsTable, KeepsElementMode, index_type, value_of}
use Rattle.wasmparser_constants.proofs.SeenLaws.{below_in, below_seen, constant_in, constant_seen, initialiser_begins, initialiser_in, initialiser_seen}
use Rattle.wasmparser_constants.specs.Scopes.{seen}
use Rattle.wasmparser_constants.specs.Steps.{BeginsRightly, Judges}
use Rattle.wasmparser_error.specs.declared.error.Error.{Error}
use Rattle.wasmparser_readers.specs.declared.type_ref.TypeRef.{TypeRef}
use Rattle.wasmparser_module_state.proofs.DeclaredLaws.{both_parts}
use Rattle.wasmparser_module_state.specs.State.{AreThere, item}

-- ---- expressions

taken_then : {P : Operands → Type 0} {Q : Type 0} → ((next : Operands) → P next → Q) → (types : List (ValType DefType)) (operands : Operands) → TakesOff types operands P → Q
taken_then f [] operands t = f operands t
taken_then f (type ∷ types) [] t = absurd t
taken_then f (type ∷ types) (operand ∷ operands) t = taken_then f types operands t.1

does_then : {P : Operands → Type 0} {Q : Type 0} → ((next : Operands) → P next → Q) → (effect : Option Effect) (operands : Operands) → Does effect operands P → Q
does_then f None operands d = absurd d
does_then f (Some (Puts takes type)) operands d = taken_then (λ others p. f (type ∷ others) p) takes operands d
does_then f (Some (Converts from to)) (Ref nullable heap ∷ operands) d = f _ d.1
does_then f (Some (Converts from to)) [] d = absurd d
does_then f (Some (Converts from to)) (I32 ∷ operands) d = absurd d
does_then f (Some (Converts from to)) (I64 ∷ operands) d = absurd d
does_then f (Some (Converts from to)) (F32 ∷ operands) d = absurd d
does_then f (Some (Converts from to)) (F64 ∷ operands) d = absurd d
does_then f (Some (Converts from to)) (V128 ∷ operands) d = absurd d

module _ (features : Features) (cx : Context) where
  function_is_there : (function : ℕ) (operands : Operands) (P : Operands → Type 0) → Does (effect features cx (RefFunc function)) operands P → function < length (functions_in cx)
  function_is_there function operands P d = by_found (slice_get (functions_in cx) function) refl
    where
      nothing_done : (on : Bool) → has features ReferenceTypes ≡ on → slice_get (functions_in cx) function ≡ None → ⊥
      nothing_done true on none = let n = rw (none, on) at d in absurd n
      nothing_done false on none = let n = rw (none, on) at d in absurd n

      by_found : (found : Option ℕ) → slice_get (functions_in cx) function ≡ found → function < length (functions_in cx)
      by_found None none = absurd (nothing_done (has features ReferenceTypes) refl none)
      by_found (Some index) some = slice_get_within (functions_in cx) function index some

  operator_there : (operator : ConstantOperator) (operands : Operands) (P : Operands → Type 0) → Does (effect features cx operator) operands P → AreThere cx (named_by operator)
  operator_there (I32Const value) operands P d = tt
  operator_there (I64Const value) operands P d = tt
  operator_there (F32Const bits) operands P d = tt
  operator_there (F64Const bits) operands P d = tt
  operator_there (V128Const bytes) operands P d = tt
  operator_there (RefNull heap) operands P d = tt
  operator_there (RefFunc function) operands P d = (function_is_there function operands P d, tt)
  operator_there (GlobalGet global) operands P d = tt
  operator_there I32Add operands P d = tt
  operator_there I32Sub operands P d = tt
  operator_there I32Mul operands P d = tt
  operator_there I64Add operands P d = tt
  operator_there I64Sub operands P d = tt
  operator_there I64Mul operands P d = tt
  operator_there (StructNew index) operands P d = tt
  operator_there (StructNewDefault index) operands P d = tt
  operator_there (ArrayNew index) operands P d = tt
  operator_there (ArrayNewDefault index) operands P d = tt
  operator_there (ArrayNewFixed index count) operands P d = tt
  operator_there AnyConvertExtern operands P d = tt
  operator_there ExternConvertAny operands P d = tt
  operator_there RefI31 operands P d = tt

  runs_there : (expression : ConstantExpression) (operands : Operands) (Then : Operands → Type 0) → Runs features cx expression operands Then → AreThere cx (named_in expression)
  runs_there [] operands Then runs = tt
  runs_there (operator ∷ operators) operands Then runs =
      both_parts (λ function. function < length (functions_in cx)) (named_by operator) (named_in operators)
      (operator_there operator operands (λ next. Runs features cx operators next Then) runs)
      (does_then (λ next r. runs_there operators next Then r) (effect features cx operator) operands runs)

  constant_there : (wanted : ValType DefType) (expression : ConstantExpression) → IsConstantOf features cx wanted expression → AreThere cx (named_in expression)
  constant_there wanted expression is = runs_there expression [] (Leaves wanted) is

  initialiser_there : (type : ValType ℕ) (expression : ConstantExpression) → IsConstantFor features cx type expression → AreThere cx (named_in expression)
  initialiser_there I32 expression is = constant_there I32 expression is
  initialiser_there I64 expression is = constant_there I64 expression is
  initialiser_there F32 expression is = constant_there F32 expression is
  initialiser_there F64 expression is = constant_there F64 expression is
  initialiser_there V128 expression is = constant_there V128 expression is
  initialiser_there (Ref nullable (Abstract heap)) expression is = constant_there (Ref nullable (Abstract heap)) expression is
  initialiser_there (Ref nullable (Concrete index)) expression is = by_found (slice_get cx.types index) refl
    where
      by_found : (found : Option DefType) → slice_get cx.types index ≡ found → AreThere cx (named_in expression)
      by_found None at = let none = rw at at is in absurd none
      by_found (Some type) at = let some = rw at at is in constant_there (Ref nullable (Concrete type)) expression some

  -- what a call returned that judges an initialiser by what it sees
  pub named_there : (type : ValType ℕ) (expression : ConstantExpression) (place : ℕ) (result : Result (Unit {0}) Error)
      → Judges place (IsConstantFor features (seen cx) type expression) (BeginsRightly features (seen cx) expression) result → IfOk result (λ _. AreThere cx (named_in expression))
  named_there type expression place (Ok x) judged = initialiser_there type expression (initialiser_in features cx type expression judged)
  named_there type expression place (Err e) judged = tt

  pub begins_there : (type : ValType ℕ) (expression : ConstantExpression) (place : ℕ) (result : Result (Unit {0}) Error)
      → Judges place (IsConstantFor features (seen cx) type expression) (BeginsRightly features (seen cx) expression) result → IfOk result (λ _. BeginsRightly features cx expression)
  begins_there type expression place (Ok x) judged = initialiser_begins features cx type expression (initialiser_in features cx type expression judged)
  begins_there type expression place (Err e) judged = tt

  -- a function that an expression refers to and nothing else
  pub function_there : (type : ValType ℕ) (expression : ConstantExpression) (result : Option ℕ) → IfSome result (λ function. expression ≡ RefFunc function ∷ [])
      → IfSome result (λ _. IsConstantFor features cx type expression) → IfSome result (λ function. AreThere cx (function ∷ []))
  function_there type expression None parts is = tt
  function_there type expression (Some function) parts is = subst (λ parts. AreThere cx (named_in parts)) parts (initialiser_there type expression is)

-- ---- exports

exported_there : (cx : Context) (kind : ExternalKind) (index : ℕ) (found : ExternalType ℕ) → item_at cx kind index ≡ Some found → AreThere cx (exported_function kind index)
exported_there cx FuncKind index found is =
    (subst (λ n. index < n) (length-map (functions_in cx) (λ x. FuncExternal x)) (slice_get_within (map (λ x. FuncExternal x) (functions_in cx)) index found is), tt)
exported_there cx TableKind index found is = tt
exported_there cx MemoryKind index found is = tt
exported_there cx GlobalKind index found is = tt
exported_there cx TagKind index found is = tt

pub export_there : (cx : Context) (kind : ExternalKind) (index : ℕ) (found : Option TypeRef) (type : TypeRef) → option_map item found ≡ item_at cx kind index → found ≡ Some type → AreThere cx (exported_function kind index)
export_there cx kind index found type is some = exported_there cx kind index (item type) (sym is ∙ ap (option_map item) some)

-- ---- contexts that differ in what is declared

module _ (features : Features) (cx : Context) (declared : ℕ → Bool) where
  abbrev other : Context
  other = record cx { declared = declared }

  pub initialiser_also : (type : ValType ℕ) (expression : ConstantExpression) → IsConstantFor features other type expression → IsConstantFor features cx type expression
  initialiser_also type expression is = initialiser_in features cx type expression (initialiser_seen features other type expression is)

  pub initialiser_before : (type : ValType ℕ) (expression : ConstantExpression) → IsConstantFor features cx type expression → IsConstantFor features other type expression
  initialiser_before type expression is = initialiser_in features other type expression (initialiser_seen features cx type expression is)

  fits_also : (items : ValType ℕ) (offset : ConstantExpression) (found : Option (TableType ℕ)) → FitsTable features other items offset found → FitsTable features cx items offset found
  fits_also items offset None fits = fits
  fits_also items offset (Some table) (below, is) = (
    below_in features cx items (value_of table.element_type) (below_seen features other items (value_of table.element_type) below),
    constant_in features cx (index_type table.limits.is_64) offset (constant_seen features other (index_type table.limits.is_64) offset is),
  )

  fits_before : (items : ValType ℕ) (offset : ConstantExpression) (found : Option (TableType ℕ)) → FitsTable features cx items offset found → FitsTable features other items offset found
  fits_before items offset None fits = fits
  fits_before items offset (Some table) (below, is) = (
    below_in features other items (value_of table.element_type) (below_seen features cx items (value_of table.element_type) below),
    constant_in features other (index_type table.limits.is_64) offset (constant_seen features cx (index_type table.limits.is_64) offset is),
  )

  pub mode_also : (type : ValType ℕ) (mode : ElementMode) → KeepsElementMode features other type mode → KeepsElementMode features cx type mode
  mode_also type (ActiveElement table offset) keeps = fits_also type offset _ keeps
  mode_also type PassiveElement keeps = keeps
  mode_also type DeclaredElement keeps = keeps

  pub mode_before : (type : ValType ℕ) (mode : ElementMode) → KeepsElementMode features cx type mode → KeepsElementMode features other type mode
  mode_before type (ActiveElement table offset) keeps = fits_before type offset _ keeps
  mode_before type PassiveElement keeps = keeps
  mode_before type DeclaredElement keeps = keeps

-- all is as before but what is declared
abbrev pub IsAsBefore : Context → Context → Type 0
IsAsBefore old new = new ≡ record old { declared = new.declared }

pub declares_more : (old mid new : Context) (declared : ℕ → Bool) → IsAsBefore old mid → new ≡ record mid { declared = declared } → IsAsBefore old new
declares_more old mid new declared before is =
    is ∙ ap (λ (cx : Context). record cx { declared = declared }) before ∙ ap (λ (set : ℕ → Bool). record old { declared = set }) (sym (ap (λ (cx : Context). cx.declared) is))

pub stays_so : (old mid new : Context) → IsAsBefore old mid → new ≡ mid → IsAsBefore old new
stays_so old mid new before is = is ∙ before ∙ ap (λ (set : ℕ → Bool). record old { declared = set }) (sym (ap (λ (cx : Context). cx.declared) is))
