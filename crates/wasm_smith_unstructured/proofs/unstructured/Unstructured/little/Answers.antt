use Rattle.std.proofs.Common.{◌^◌, ◌<◌, ◌≤◌, length, arith}
use Rattle.std.proofs.Math.Nat.{pow-le-pow_right}
use Rattle.wasm_smith_unstructured.proofs.unstructured.Unstructured.little.Goals as goal

pub returns-clause-below : goal.returns-clause-below
returns-clause-below c =
    let some : 0 < 256 = omega arith in
    let le : length c.split_at.result.0.now ≤ c.args.len = omega (arith, c.split_at.ensures.front_len, c.min.ensures) in
    let more : 256 ^ length c.split_at.result.0.now ≤ 256 ^ c.args.len = pow-le-pow_right some le in
    omega (arith, more, c.little_number.ensures.below)
