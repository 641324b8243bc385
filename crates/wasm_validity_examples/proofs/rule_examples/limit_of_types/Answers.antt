use Rattle.std.proofs.Common.{◌+◌, ◌<◌, ◌≤◌, ℕ, length, replicate, refl, arith, inl, inr}
use Rattle.std.proofs.lemmas.Bool.{lt-ltb, ltb-true}
use Rattle.std.proofs.lemmas.List.{length-replicate}
use Rattle.wasm_spec.specs.Limits.{Types}
use Rattle.wasm_spec.specs.Syntax.{members}
use Rattle.wasm_spec.specs.Trees.{types_after}
use Rattle.wasm_spec.specs.Types.{Group, RecGroup}
use Rattle.wasm_spec.proofs.GroupTrees.{length-types_after}
use Rattle.wasm_validity.specs.Context.{Context, at_first}
use Rattle.wasm_validity.specs.Entries.{OfType}
use Rattle.wasm_validity.specs.Rules.{Passes, measures}
use Rattle.wasm_validity_examples.proofs.rule_examples.limit_of_types.Goals as goal

within : (cx : Context) (group : RecGroup ℕ) → length cx.types + length (members group) ≤ 1000000 → Passes Types (measures cx (OfType group)) → ⊥
within cx group few (inl p) = let e = p.0 in absurd cc
within cx group few (inr (inl p)) = omega (arith, few, ltb-true 1000000 (length (types_after cx.types group)) p.1, length-types_after cx.types group)
within cx group few (inr (inr p)) = p

past : (cx : Context) (group : RecGroup ℕ) → 1000000 < length cx.types + length (members group) → Passes Types (measures cx (OfType group))
past cx group many = inr (inl (refl, lt-ltb 1000000 (length (types_after cx.types group)) (omega (arith, many, length-types_after cx.types group))))

pub returns-clause-most : goal.returns-clause-most
returns-clause-most c = λ cx group e. within cx group (omega (arith, e))

pub returns-clause-more : goal.returns-clause-more
returns-clause-more c = λ cx group e. past cx group (omega (arith, e))

pub returns-clause-most_in_one : goal.returns-clause-most_in_one
returns-clause-most_in_one c = λ n type e. within at_first (Group (replicate n type)) (omega (arith, e, length-replicate n type))

pub returns-clause-more_in_one : goal.returns-clause-more_in_one
returns-clause-more_in_one c = λ n type e. past at_first (Group (replicate n type)) (omega (arith, e, length-replicate n type))
