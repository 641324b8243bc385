use Rattle.std.proofs.Common.{◌∷◌, refl, subst}
use Rattle.std.proofs.lemmas.List.Concat.{flat_map-append}
use Rattle.wasm_spec.specs.Syntax.{Custom}
use Rattle.wasm_validity.specs.Context.{at_first}
use Rattle.wasm_validity.specs.Entries.{entries_in, entries_of}
use Rattle.wasm_validity.specs.Rules.{KeepLimits}
use Rattle.wasm_validity_examples.proofs.SmallSections.{limits_after}
use Rattle.wasm_validity_examples.proofs.validity_examples.long_names.Goals as goal

pub returns-clause-valid : goal.returns-clause-valid
returns-clause-valid c = λ features a b contents e f. record {
  rules = (tt, (tt, tt));
  limits = (record { numbers = rw e refl; types = λ limit p. p }, (record { numbers = rw f refl; types = λ limit p. p }, tt));
}

pub returns-clause-invalid : goal.returns-clause-invalid
returns-clause-invalid c = λ features before after a contents e v.
    let here = subst (λ l. KeepLimits at_first l) (flat_map-append entries_in before (Custom a contents ∷ after)) v.limits in
    let f = rw e at (limits_after at_first (entries_of before) (entries_of (Custom a contents ∷ after)) here).0.numbers in
    absurd cc
