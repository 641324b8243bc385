use Rattle.std.proofs.Common.{arith}
use Rattle.wasm_spec.proofs.laws.order.Goals as goal

pub returns : goal.returns
returns c = record {
  kept = λ groups indexes bodies. (omega arith, (omega arith, (omega arith, tt)));
  custom = λ last name contents sections h. (tt, h);
  late_types = λ groups indexes h. omega (arith, h.1.0);
  late_functions = λ indexes bodies h. omega (arith, h.1.0);
  twice = λ name contents a b h. omega (arith, h.1.1.0);
  no_body = λ compact bytes indexes index m. omega (arith, m.agreeing);
  no_function = λ compact bytes body m. omega (arith, m.agreeing);
}
