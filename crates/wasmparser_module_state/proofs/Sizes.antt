-- The size of a type that is counted up to its limit.
use Rattle.std.proofs.Common.{◌≡◌, ◌≤◌, ◌<◌, ◌+◌, ℕ, List, Option, Some, None, inl, inr, length, map, sym, subst, arith}
use Rattle.std.proofs.lemmas.List.{length-map}
use Rattle.std.specs.Borrow.{Bor}
use Rattle.std.specs.Option.{option_copied, option_map}
use Rattle.wasm_core_read.proofs.Forms.{ltb_tells, some_is}
use Rattle.wasm_spec.specs.Trees.{DefType}
use Rattle.wasm_spec.specs.TypeReferences.{func_map, val_map}
use Rattle.wasm_spec.specs.Types.{FuncType}
use Rattle.wasm_validity.specs.Context.{size_of_func}
use Rattle.wasm_validity.specs.DefinedTypes.{func_type_at}
use Rattle.wasmparser_module_state.specs.Items.{IsSizeUpTo, IsTypeSize}
use Rattle.wasmparser_types.specs.CompositeTypes.{func_type}
use Rattle.wasmparser_types.specs.Index.{Index}
use Rattle.wasmparser_types.specs.declared.composite_type.FuncType.{FuncType as FuncType'}

pub large_params : {R : Type 0} (type : FuncType R) (params : ℕ) → params ≡ length type.params → 1000000 ≤ params → IsSizeUpTo type 1000000
large_params type params e large = record { exact = λ le. absurd (omega (arith, le)); large = λ le. omega (arith, e, large, le) }

pub large_results : {R : Type 0} (type : FuncType R) (results : ℕ) → results ≡ length type.results → 1000000 ≤ results → IsSizeUpTo type 1000000
large_results type results e large = record { exact = λ le. absurd (omega (arith, le)); large = λ le. omega (arith, e, large, le) }

pub exact_size : {R : Type 0} (type : FuncType R) (size : ℕ) → size ≡ 2 + (length type.params + length type.results) → IsSizeUpTo type size
exact_size type size e = record { exact = λ le. e; large = λ le. omega (arith, e, le) }

pub ruleset size_steps = (large_params, large_results, exact_size)

-- ---- types that indexes name

mapped : {R S : Type 0} (f : R → S) (type : FuncType R) (size : ℕ) → IsSizeUpTo type size → IsSizeUpTo (func_map f type) size
mapped f type size h =
    let same : length (map (val_map f) type.params) + length (map (val_map f) type.results) ≡ length type.params + length type.results =
    omega (arith, length-map type.params (val_map f), length-map type.results (val_map f)) in
    record { exact = λ le. omega (arith, h.exact le, same); large = λ le. h.large (omega (arith, le, same)) }

pub no_type : (types : List DefType) (stands_for : Index → DefType) (index : ℕ) (found : Option (Bor FuncType'))
    → func_type_at types index ≡ option_map (func_map stands_for) (option_map func_type (option_copied found)) → found ≡ None → IsTypeSize (func_type_at types index) None
no_type types stands_for index None h e = rw h tt
no_type types stands_for index (Some f) h e = absurd cc

pub some_type : (types : List DefType) (stands_for : Index → DefType) (index : ℕ) (found : Option (Bor FuncType')) (f : Bor FuncType') (size : ℕ)
    → func_type_at types index ≡ option_map (func_map stands_for) (option_map func_type (option_copied found)) → found ≡ Some f → IsSizeUpTo (func_type f.now) size
    → IsTypeSize (func_type_at types index) (Some size)
some_type types stands_for index None f size h e s = absurd cc
some_type types stands_for index (Some g) f size h e s =
    let same = some_is g f e in
    let t : IsSizeUpTo (func_type g.now) size = subst (λ (x : Bor FuncType'). IsSizeUpTo (func_type x.now) size) (sym same) s in
    rw h (mapped stands_for (func_type g.now) size t)

pub ruleset type_steps = (no_type, some_type)

-- ---- sums

-- a sum within the limit has the exact size
pub exact_sum : (found : Option (FuncType DefType)) (size sum grown : ℕ) → IsTypeSize found (Some size) → grown ≡ sum + size → grown ≤ 999999 → grown ≡ sum + size_of_func found
exact_sum None size sum grown h e le = absurd h
exact_sum (Some type) size sum grown h e le = omega (arith, h.exact (omega (arith, e, le)), e)

-- so has one past it
pub large_sum : (found : Option (FuncType DefType)) (size sum : ℕ) → IsTypeSize found (Some size) → 999999 < sum + size → 999999 < sum + size_of_func found
large_sum None size sum h lt = absurd h
large_sum (Some type) size sum h lt = elim (ltb_tells 999999 (size_of_func (Some type))) [
  | inl (t, past) ↦ omega (arith, past)
  | inr (t, within) ↦ omega (arith, lt, h.exact (h.large within))
]

pub ruleset sum_steps = (exact_sum, large_sum)
