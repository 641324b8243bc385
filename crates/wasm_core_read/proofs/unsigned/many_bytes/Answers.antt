use Rattle.std.proofs.Common.{◌≡◌, ◌+◌, ◌-◌, ◌*◌, ◌%◌, ◌^◌, ◌<◌, true, ltb, add_comm, arith}
use Rattle.std.proofs.lemmas.Nat.{shl_whole}
use Rattle.std.proofs.lemmas.Bool.{ltb-true}
use Rattle.std.proofs.lemmas.List.{nil_from_length}
use Rattle.wasm_core_read.proofs.UnsignedLaws.{room, room_64, ended, last, too_wide, too_long, more}
use Rattle.wasm_core_read.proofs.unsigned.many_bytes.Goals as goal

pub returns-then-not-has_bits-clause-read : goal.returns-then-not-has_bits-clause-read
returns-then-not-has_bits-clause-read c =
    too_wide _ _ _ _ _ _ _ c.in-Some.ensures.cases.0 c.if-byte-lt128.true (cc) c.loop-byte.invariant.so_far

pub overflow_add-result : goal.overflow_add-result
overflow_add-result c =
    let fits : ltb c.in-Some.byte.now (2 ^ (c.args.bits - c.loop-byte.shift)) ≡ true = cc in
    rw c.from.ensures (omega (arith, room_64 c.loop-byte.value c.in-Some.byte.now c.loop-byte.shift (c.args.bits - c.loop-byte.shift) c.loop-byte.invariant.below (ltb-true _ _ fits) (omega arith)))

pub returns-then-byte-lt128-clause-read : goal.returns-then-byte-lt128-clause-read
returns-then-byte-lt128-clause-read c =
    let fits : ltb c.in-Some.byte.now (2 ^ (c.args.bits - c.loop-byte.shift)) ≡ true = cc in
    let b : c.in-Some.byte.now < 2 ^ (c.args.bits - c.loop-byte.shift) = ltb-true _ _ fits in
    rw (c.from.ensures, shl_whole c.in-Some.byte.now (c.args.bits - c.loop-byte.shift) c.loop-byte.shift 64 b (omega arith))
    (last _ _ _ _ _ _ _ c.in-Some.ensures.cases.0 c.if-byte-lt128.true fits c.loop-byte.invariant.so_far)

pub returns-then-left-le7-clause-read : goal.returns-then-left-le7-clause-read
returns-then-left-le7-clause-read c = too_long _ _ _ _ _ _ _ c.in-Some.ensures.cases.0 c.if-byte-lt128.false c.if-left-le7.true c.loop-byte.invariant.so_far

pub overflow_add-value : goal.overflow_add-value
overflow_add-value c =
    rw c.from-in-Some.ensures (omega (arith, room_64 c.loop-byte.value (c.in-Some.byte.now - 128) c.loop-byte.shift 7 c.loop-byte.invariant.below (omega arith) (omega arith)))

pub loop-byte-preserved : goal.loop-byte-preserved
loop-byte-preserved c =
    let left : c.args.bits - (c.loop-byte.shift + 7) ≡ c.args.bits - c.loop-byte.shift - 7 = omega arith in
    let whole : (c.in-Some.byte.now - 128) * 2 ^ c.loop-byte.shift % 2 ^ 64 ≡ (c.in-Some.byte.now - 128) * 2 ^ c.loop-byte.shift = shl_whole (c.in-Some.byte.now - 128) 7 c.loop-byte.shift 64 (omega arith) (omega arith) in
    record {
      within = omega arith;
      below = rw (c.from-in-Some.ensures, whole, add_comm c.loop-byte.shift 7) (room _ (c.in-Some.byte.now - 128) c.loop-byte.shift 7 c.loop-byte.invariant.below (omega arith));
      shorter = omega (arith, c.in-Some.ensures.cases.1);
      so_far = rw (c.from-in-Some.ensures, whole, left) (more _ _ _ _ _ _ _ c.in-Some.ensures.cases.0 c.if-byte-lt128.false (omega arith) c.loop-byte.invariant.so_far);
    }

pub returns-clause-read : goal.returns-clause-read
returns-clause-read c = ended _ _ _ _ _ (nil_from_length c.loop-byte.rest.now c.in_default.ensures.cases) c.loop-byte.invariant.so_far

pub returns-then-byte-lt128-clause-below : goal.returns-then-byte-lt128-clause-below
returns-then-byte-lt128-clause-below c =
    let fits : ltb c.in-Some.byte.now (2 ^ (c.args.bits - c.loop-byte.shift)) ≡ true = cc in
    let b : c.in-Some.byte.now < 2 ^ (c.args.bits - c.loop-byte.shift) = ltb-true _ _ fits in
    let all : c.args.bits - c.loop-byte.shift + c.loop-byte.shift ≡ c.args.bits = omega arith in
    rw (c.from.ensures, shl_whole c.in-Some.byte.now (c.args.bits - c.loop-byte.shift) c.loop-byte.shift 64 b (omega arith))
    (rw all at (room c.loop-byte.value c.in-Some.byte.now c.loop-byte.shift (c.args.bits - c.loop-byte.shift) c.loop-byte.invariant.below b))
