use Rattle.std.proofs.Common.{refl, sym, ◌∙◌, arith}
use Rattle.wasm_spec.specs.Subtyping.{same}
use Rattle.wasm_validity_examples.proofs.valid_module_examples.kinds_of_entries.Goals as goal

pub returns : goal.returns
returns c = record {
  table = λ features. record {
    fine = record { rules = (record { type = refl; filled = refl; initialiser = tt }, tt); limits = (record { numbers = refl; types = λ limit p. p }, tt) };
    bodies = λ i h. absurd (omega (arith, h));
  };
  global = λ features. record {
    fine = record { rules = (record { type = refl; initialiser = tt }, tt); limits = (record { numbers = refl; types = λ limit p. p }, tt) };
    bodies = λ i h. absurd (omega (arith, h));
  };
  element = λ features. record {
    fine = record {
      rules = (record { type = refl; filled = refl; initialiser = tt }, (record { items = tt; mode = (record { null = λ e. refl; heap = same }, tt) }, tt));
      limits = (record { numbers = refl; types = λ limit p. p }, (record { numbers = refl; types = λ limit p. p }, tt));
    };
    bodies = λ i h. absurd (omega (arith, h));
  };
  «data» = λ features. record {
    fine = record { rules = (refl, (tt, tt)); limits = (record { numbers = refl; types = λ limit p. p }, (record { numbers = refl; types = λ limit p. p }, tt)) };
    bodies = λ i h. absurd (omega (arith, h));
  };
  data_count = λ features on. record {
    fine = record { rules = (on, tt); limits = (record { numbers = refl; types = λ limit p. p }, tt) };
    bodies = λ i h. absurd (omega (arith, h));
  };
  data_count_without = λ features count off v. let f = sym off ∙ v.fine.rules.0 in absurd cc;
}
