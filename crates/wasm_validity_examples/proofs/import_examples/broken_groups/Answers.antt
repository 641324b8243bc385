use Rattle.std.proofs.Common.{◌++◌, [], ◌∷◌, arith, refl, subst, sym}
use Rattle.wasm_spec.specs.Grammar.{header}
use Rattle.wasm_spec.specs.Syntax.{CompactItems, ImportEntry}
use Rattle.wasm_spec.specs.Types.{MemoryExternal}
use Rattle.wasm_validity.specs.Context.{at_first}
use Rattle.wasm_validity.specs.Entries.{OfImport}
use Rattle.wasm_validity.specs.Fronts.{BeginsWith}
use Rattle.wasm_validity.specs.Rules.{KeepRules}
use Rattle.wasm_validity_examples.specs.Examples.{between}
use Rattle.wasm_validity_examples.proofs.GroupFronts.{nothing, one_import, one_memory}
use Rattle.wasm_validity_examples.proofs.import_examples.broken_groups.Goals as goal

abbrev group : ImportEntry
group = CompactItems (0x6d ∷ []) (record { name = 0x61 ∷ []; type = MemoryExternal (between 2 1) } ∷ [])

pub returns-clause-crossed : goal.returns-clause-crossed
returns-clause-crossed c = λ features rest on. record {
  entries = OfImport group ∷ [];
  begins = rw on (
      one_import 12 (0x01 ∷ 0x6d ∷ 0x00 ∷ 0x7f ∷ 0x01 ∷ 0x01 ∷ 0x61 ∷ 0x02 ∷ 0x01 ∷ 0x02 ∷ 0x01 ∷ []) rest group (omega arith) refl
      (one_memory (0x01 ∷ 0x02 ∷ 0x01 ∷ []) (between 2 1) (0x02 ∷ 0x01 ∷ [], refl, (0x02 ∷ [], 0x01 ∷ [], refl, (omega arith, omega arith, refl), (0x01 ∷ [], [], refl, (omega arith, omega arith, refl), refl)))));
  breaks = λ k. let f = k.0 in absurd cc;
}

pub returns-clause-without : goal.returns-clause-without
returns-clause-without c = λ features rest off b.
    let begins = subst (λ compact. BeginsWith compact (header ++ (0x02 ∷ 0x0c ∷ 0x01 ∷ 0x01 ∷ 0x6d ∷ 0x00 ∷ 0x7f ∷ 0x01 ∷ 0x01 ∷ 0x61 ∷ 0x02 ∷ 0x01 ∷ 0x02 ∷ 0x01 ∷ rest)) b.entries) off b.begins in
    let none = nothing 0x7f 12 (omega arith) (omega arith) (0x01 ∷ 0x01 ∷ 0x61 ∷ 0x02 ∷ 0x01 ∷ 0x02 ∷ 0x01 ∷ rest) b.entries begins in
    b.breaks (subst (λ entries. KeepRules features at_first entries) (sym none) tt)
