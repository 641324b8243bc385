-- Segments that are put into tables and memories from the start on.
use Rattle.std.proofs.Common.{◌≡◌, ℕ, zero, suc, Bool, true, false, List, [], ◌∷◌, map, Option, Some, Result, option_map, if◌then◌else◌, slice_get, refl, subst}
use Rattle.wasm_spec.specs.Constants.{ConstantExpression}
use Rattle.wasm_spec.specs.Features.{Features}
use Rattle.wasm_spec.specs.Types.{I32, I64, MemoryType, TableType, ValType}
use Rattle.wasm_validity.specs.ConstantTyping.{IsConstantFor, IsConstantOf}
use Rattle.wasm_validity.specs.Context.{Context}
use Rattle.wasm_validity.specs.Rules.{FitsMemory, FitsTable, IsBelow, index_type, value_of}
use Rattle.wasmparser_constants.proofs.TakingLaws.{judges_on}
use Rattle.wasmparser_constants.specs.Steps as steps
use Rattle.wasmparser_constants.specs.Steps.{BeginsRightly}
use Rattle.wasmparser_error.specs.declared.error.Error.{Error}
use Rattle.wasmparser_module_state.specs.Initialisers.{BeginsAddress, Judges}

pub mapped_item : {A B : Type 0} (f : A → B) (xs : List A) (i : ℕ) → option_map f (slice_get xs i) ≡ slice_get (map f xs) i
mapped_item f [] i = refl
mapped_item f (x ∷ xs) zero = refl
mapped_item f (x ∷ xs) (suc i) = mapped_item f xs i

pub ruleset space_steps = (mapped_item)

module _ (features : Features) (cx : Context) where
  as_index : (is_64 : Bool) (expression : ConstantExpression) → IsConstantFor features cx (if is_64 then I64 else I32) expression → IsConstantOf features cx (index_type is_64) expression
  as_index true expression is = is
  as_index false expression is = is

  of_index : (is_64 : Bool) (expression : ConstantExpression) → IsConstantOf features cx (index_type is_64) expression → IsConstantFor features cx (if is_64 then I64 else I32) expression
  of_index true expression is = is
  of_index false expression is = is

  pub fits_memory : (found : Option MemoryType) (memory : MemoryType) (type : ValType ℕ) (expression : ConstantExpression) (place : ℕ) (result : Result (Unit {0}) Error) → Some memory ≡ found
      → type ≡ (if memory.is_64 then I64 else I32) → steps.Judges place (IsConstantFor features cx type expression) (BeginsRightly features cx expression) result
      → steps.Judges place (FitsMemory features cx expression found) (BeginsAddress features cx expression found) result
  fits_memory found memory type expression place result is typed judged =
      rw (← is) (judges_on place (as_index memory.is_64 expression) (of_index memory.is_64 expression) (λ begins. begins) result (subst (λ t. steps.Judges place (IsConstantFor features cx t expression) (BeginsRightly features cx expression) result) typed judged))

  pub fits_table : (found : Option (TableType ℕ)) (table : TableType ℕ) (items type : ValType ℕ) (expression : ConstantExpression) (place : ℕ) (result : Result (Unit {0}) Error) → Some table ≡ found
      → IsBelow cx items (value_of table.element_type) → type ≡ (if table.limits.is_64 then I64 else I32) → steps.Judges place (IsConstantFor features cx type expression) (BeginsRightly features cx expression) result
      → Judges place (FitsTable features cx items expression found) result
  fits_table found table items type expression place result is below typed judged =
      rw (← is)
      (judges_on place (λ constant. (below, as_index table.limits.is_64 expression constant)) (λ fits. of_index table.limits.is_64 expression fits.1) (λ begins. tt) result
      (subst (λ t. steps.Judges place (IsConstantFor features cx t expression) (BeginsRightly features cx expression) result) typed judged))

  pub fits_no_table : (found : Option (TableType ℕ)) (table : TableType ℕ) (items : ValType ℕ) (expression : ConstantExpression) → Some table ≡ found
      → ¬ (IsBelow cx items (value_of table.element_type)) → ¬ (FitsTable features cx items expression found)
  fits_no_table found table items expression is not fits = let (below, constant) = rw (← is) at fits in not below
