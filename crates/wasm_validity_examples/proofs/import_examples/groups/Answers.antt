use Rattle.std.proofs.Common.{refl}
use Rattle.wasm_validity_examples.proofs.import_examples.groups.Goals as goal

pub returns-clause-items : goal.returns-clause-items
returns-clause-items c = λ features. record { rules = (refl, tt); limits = (record { numbers = refl; types = λ limit p. p }, tt) }

pub returns-clause-second_item : goal.returns-clause-second_item
returns-clause-second_item c = λ features name type v. let f = v.rules.0 in absurd cc

pub returns-clause-second_name : goal.returns-clause-second_name
returns-clause-second_name c = λ features name type e v. let f = rw e at v.limits.0.numbers in absurd cc

pub returns-clause-empty : goal.returns-clause-empty
returns-clause-empty c = λ features. record { rules = (refl, (refl, tt)); limits = (record { numbers = refl; types = λ limit p. p }, (record { numbers = refl; types = λ limit p. p }, tt)) }

pub returns-clause-module_of_none : goal.returns-clause-module_of_none
returns-clause-module_of_none c = λ features origin e v. let f = rw e at v.limits.0.numbers in absurd cc
