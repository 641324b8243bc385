use Rattle.std.proofs.Common.{rules, ◌≡◌, ◌+◌, ◌-◌, ◌*◌, ◌%◌, ◌^◌, None, Some, SFits, w64, sym, ◌∙◌, add_comm, arith}
use Rattle.std.proofs.lemmas.Int.{to_z-of_z}
use Rattle.std.proofs.lemmas.List.{nil_from_length}
use Rattle.std.proofs.lemmas.Nat.{shl_whole}
use Rattle.wasm_core_read.proofs.UnsignedLaws.{room, room_64}
use Rattle.wasm_core_read.proofs.SignedLaws.{ended, last, too_long, more}
use Rattle.wasm_core_read.proofs.signed.many_bytes.Goals as goal

pub returns-in-None-clause-read : goal.returns-in-None-clause-read
returns-in-None-clause-read c =
    last _ _ _ _ _ c.in-Some.after.now _ None c.in-Some.ensures.cases.0 c.if-byte-lt128.true (sym c.in-None.is ∙ c.with_last.ensures) c.loop-byte.invariant.so_far

pub returns-in-Some-with_last-clause-read : goal.returns-in-Some-with_last-clause-read
returns-in-Some-with_last-clause-read c =
    let fits : SFits w64 c.in-Some-with_last.value = search rules in
    rw (to_z-of_z w64 c.in-Some-with_last.value fits)
    (last _ _ _ _ _ c.in-Some.after.now _ (Some c.in-Some-with_last.value) c.in-Some.ensures.cases.0 c.if-byte-lt128.true (sym c.in-Some-with_last.is ∙ c.with_last.ensures) c.loop-byte.invariant.so_far)

pub returns-then-left-le7-clause-read : goal.returns-then-left-le7-clause-read
returns-then-left-le7-clause-read c = too_long _ _ _ _ _ _ _ c.in-Some.ensures.cases.0 c.if-byte-lt128.false c.if-left-le7.true c.loop-byte.invariant.so_far

pub overflow_add-low : goal.overflow_add-low
overflow_add-low c = rw c.from.ensures (omega (arith, room_64 c.loop-byte.low (c.in-Some.byte.now - 128) c.loop-byte.shift 7 c.loop-byte.invariant.below (omega arith) (omega arith)))

pub loop-byte-preserved : goal.loop-byte-preserved
loop-byte-preserved c =
    let left : c.args.bits - (c.loop-byte.shift + 7) ≡ c.args.bits - c.loop-byte.shift - 7 = omega arith in
    let whole : (c.in-Some.byte.now - 128) * 2 ^ c.loop-byte.shift % 2 ^ 64 ≡ (c.in-Some.byte.now - 128) * 2 ^ c.loop-byte.shift = shl_whole (c.in-Some.byte.now - 128) 7 c.loop-byte.shift 64 (omega arith) (omega arith) in
    record {
      within = omega arith;
      below = rw (c.from.ensures, whole, add_comm c.loop-byte.shift 7) (room _ (c.in-Some.byte.now - 128) c.loop-byte.shift 7 c.loop-byte.invariant.below (omega arith));
      shorter = omega (arith, c.in-Some.ensures.cases.1);
      so_far = rw (c.from.ensures, whole, left) (more _ _ _ _ _ _ _ c.loop-byte.invariant.below (omega arith) c.in-Some.ensures.cases.0 c.if-byte-lt128.false (omega arith) c.loop-byte.invariant.so_far);
    }

pub returns-clause-read : goal.returns-clause-read
returns-clause-read c = ended _ _ _ _ _ (nil_from_length c.loop-byte.rest.now c.in_default.ensures.cases) c.loop-byte.invariant.so_far
