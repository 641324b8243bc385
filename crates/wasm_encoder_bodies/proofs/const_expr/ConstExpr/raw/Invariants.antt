use Rattle.std.proofs.Common.{◌≡◌}
use Rattle.wasm_encoder_bodies.proofs.const_expr.ConstExpr.raw.Given as goal

abbrev pub invariant-loop-byte : goal.invariant-loop-byte
invariant-loop-byte g l = record { kept : l.kept.items ≡ l.yielded }
