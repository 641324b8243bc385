use Rattle.std.proofs.Common.{◌≡◌, ◌+◌, ◌<◌, ◌≤◌, ◌⊎◌, ℕ, Bool, true, false, length, if◌then◌else◌, nat_lt, refl, arith, inl, inr}
use Rattle.wasm_spec.specs.Features.{Gc, has}
use Rattle.wasm_spec.specs.Groups.{reference_bound}
use Rattle.wasm_spec.specs.Limits.{total_of_types}
use Rattle.wasm_spec.specs.Syntax.{members}
use Rattle.wasm_spec.specs.Trees.{types_after}
use Rattle.wasm_spec.specs.TypeReferences.{group_refs}
use Rattle.wasm_spec.proofs.GroupTrees.{all_each, length-types_after}
use Rattle.wasm_validity_examples.proofs.rule_examples.types.Goals as goal

bound_of : (b : Bool) (n m : ℕ) → (if b then n + m else n) ≤ n + m
bound_of true n m = omega arith
bound_of false n m = omega arith

few_or : (n : ℕ) (b : Bool) → nat_lt 1000000 n ≡ b → (b ≡ true) ⊎ (n ≤ 1000000)
few_or n true e = inl refl
few_or n false e = search (e, arith)

pub returns-clause-room : goal.returns-clause-room
returns-clause-room c = λ features cx group rules within.
    let few : length (types_after cx.types group) ≤ 1000000 =
    elim (few_or (length (types_after cx.types group)) _ refl) [ inl past ↦ absurd (within (inr (inl (refl, past)))) | inr few ↦ few ] in
    record {
      rules = rules;
      small = all_each (λ n. n < reference_bound features (length cx.types) group) (λ n. n < total_of_types)
          (λ n h. omega (arith, h, few, length-types_after cx.types group, bound_of (has features Gc) (length cx.types) (length (members group)))) (group_refs group) rules.in_range;
    }
