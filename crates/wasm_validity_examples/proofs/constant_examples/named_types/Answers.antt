use Rattle.std.proofs.Common.{rules, ◌≡◌, zero, suc, Bool, true, false, ◌||◌, [], length, Some, option_map, refl, ap}
use Rattle.wasm_spec.specs.Features.{Gc, ReferenceTypes, has}
use Rattle.wasm_spec.specs.Subtyping.{HeapBelow}
use Rattle.wasm_spec.specs.Trees.{type_at, unrolled}
use Rattle.wasm_spec.specs.Types.{Abstract, Concrete, Func, Struct}
use Rattle.wasm_spec_examples.proofs.TypeKinds.{kind_above, kind_below, none_above}
use Rattle.wasm_validity.specs.DefinedTypes.{func_type_of}
use Rattle.wasm_validity_examples.specs.Examples.{with_types}
use Rattle.wasm_validity_examples.proofs.ConstantSubtypes.{itself, first_on}
use Rattle.wasm_validity_examples.proofs.constant_examples.named_types.Goals as goal

either : (b : Bool) → (b || true) ≡ true
either true = refl
either false = refl

pub returns-clause-null : goal.returns-clause-null
returns-clause-null c = λ features references functions. rw references rw functions rw (either (has features Gc)) record { null = λ e. e; heap = kind_below unrolled (type_at (with_types []).types 1) Func Func (record { type = _; is = refl; holds = refl }) refl }

pub returns-clause-own_function : goal.returns-clause-own_function
returns-clause-own_function c = λ features. (λ on. rw (first_on features ReferenceTypes [] on) itself, search (rules))

no_other : HeapBelow unrolled (Concrete (type_at (with_types []).types 2)) (Concrete (type_at (with_types []).types 1)) → ⊥
no_other h = let e : Some zero ≡ Some (suc (suc zero)) = ap (λ type. option_map (λ function. length function.params) (func_type_of type)) (none_above unrolled (type_at (with_types []).types 2) (type_at (with_types []).types 1) _ refl refl h) in absurd cc

pub returns-clause-other_function : goal.returns-clause-other_function
returns-clause-other_function c = search (rules, no_other)

no_structure : HeapBelow unrolled (Concrete (type_at (with_types []).types 1)) (Abstract Struct) → ⊥
no_structure h = let e = kind_above unrolled (type_at (with_types []).types 1) Func Struct (record { type = _; is = refl; holds = refl }) h in absurd cc

pub returns-clause-other_kind : goal.returns-clause-other_kind
returns-clause-other_kind c = search (rules, no_structure)
