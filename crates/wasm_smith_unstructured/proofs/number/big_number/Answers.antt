use Rattle.std.proofs.Common.{◌≡◌, take, sym, arith}
use Rattle.std.proofs.lemmas.List.{take_all}
use Rattle.std.proofs.lemmas.Int.Digits.{number_more}
use Rattle.wasm_smith_unstructured.proofs.NumberLaws.{room, room_64}
use Rattle.wasm_smith_unstructured.proofs.number.big_number.Goals as goal

pub overflow_mul-number : goal.overflow_mul-number
overflow_mul-number c = omega (arith, room_64 c.loop-byte.number 0 c.loop-byte.byte-index c.loop-byte.invariant.low (omega arith) (omega arith))

pub loop-byte-preserved : goal.loop-byte-preserved
loop-byte-preserved c = record {
  so_far = rw (c.from.ensures, c.loop-byte.invariant.so_far) (sym (number_more 256 c.args.bytes.now c.loop-byte.byte-index (omega arith)));
  low = rw c.from.ensures (room _ _ _ c.loop-byte.invariant.low (omega (arith, c.type_inv.bytes c.loop-byte.byte-index)));
}

pub returns : goal.returns
returns c =
    let all : take c.loop-byte.byte-index c.args.bytes.now ≡ c.args.bytes.now = take_all _ _ (omega arith) in
    rw all at c.loop-byte.invariant.so_far
