use Rattle.std.proofs.Common.{refl, sym, ◌∙◌}
use Rattle.wasm_spec.specs.Subtyping.{same}
use Rattle.wasm_validity_examples.proofs.validity_examples.kinds_of_entries.Goals as goal

pub returns : goal.returns
returns c = record {
  table = λ features. record { rules = (record { type = refl; filled = refl; initialiser = tt }, tt); limits = (record { numbers = refl; types = λ limit p. p }, tt) };
  global = λ features. record { rules = (record { type = refl; initialiser = tt }, tt); limits = (record { numbers = refl; types = λ limit p. p }, tt) };
  element = λ features. record {
    rules = (record { type = refl; filled = refl; initialiser = tt }, (record { items = tt; mode = (record { null = λ e. refl; heap = same }, tt) }, tt));
    limits = (record { numbers = refl; types = λ limit p. p }, (record { numbers = refl; types = λ limit p. p }, tt));
  };
  «data» = λ features. record { rules = (refl, (tt, tt)); limits = (record { numbers = refl; types = λ limit p. p }, (record { numbers = refl; types = λ limit p. p }, tt)) };
  data_count = λ features on. record { rules = (on, tt); limits = (record { numbers = refl; types = λ limit p. p }, tt) };
  data_count_without = λ features count off v. let f = sym off ∙ v.rules.0 in absurd cc;
}
