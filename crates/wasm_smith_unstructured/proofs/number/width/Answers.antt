use Rattle.std.proofs.Common.{◌≡◌, ◌+◌, ◌*◌, ◌^◌, ◌<◌, ◌≤◌, refl, sym, ◌∙◌, arith}
use Rattle.wasm_smith_unstructured.specs.Draws.{width}
use Rattle.wasm_smith_unstructured.proofs.NumberLaws.{power, some_left, few_left, lower, upper, width_goes_on, width_ends, width_least, below_power}
use Rattle.wasm_smith_unstructured.proofs.number.width.Goals as goal

pub bytes-init : goal.bytes-init
unfolding width
bytes-init c = record { few = omega arith; low = omega arith; high = omega arith; so_far = refl }

pub bytes-preserved : goal.bytes-preserved
bytes-preserved c =
    let some : 256 ^ c.bytes.count ≤ c.args.number = some_left c.bytes.left _ _ c.bytes.invariant.low (omega arith) in
    let few : c.bytes.count < 8 = few_left _ _ (omega arith) some in
    record {
      few = omega arith;
      low = let e = power c.bytes.count in rw e (lower _ _ _ c.bytes.invariant.low);
      high = let e = power c.bytes.count in rw e (upper _ _ _ c.bytes.invariant.high);
      so_far = sym (width_goes_on _ _ few some) ∙ c.bytes.invariant.so_far;
    }

pub returns : goal.returns
returns c =
    let none : c.bytes.left ≡ 0 = omega arith in
    let one : (c.bytes.left + 1) * 256 ^ c.bytes.count ≡ 256 ^ c.bytes.count = rw none (omega arith) in
    let enough : c.args.number < 256 ^ c.bytes.count = omega (arith, one, c.bytes.invariant.high) in
    let exact : c.bytes.count ≡ width c.args.number = sym (width_ends _ _ _ enough) ∙ c.bytes.invariant.so_far in
    record {
      exact = exact;
      enough = enough;
      least = λ k low. rw exact (width_least c.args.number k low);
      few = c.bytes.invariant.few;
      small = rw exact (width_least c.args.number c.args.number (below_power c.args.number));
    }
