use Rattle.std.proofs.Common.{◌≡◌, ◌≢◌, ◌<◌, ◌≤◌, ◌+◌, ◌^◌, ℕ, List, ◌++◌, length, length-append, Option, Vec, vec_len, Global, Ok, Err, ◌⊎◌, inl, inr, ap, arith}
use Rattle.std.proofs.KnownBytes.{Consumes-trans, Consumes-kept}
use Rattle.std.proofs.lemmas.Result.{err_from_is_err_and}
use Rattle.std.specs.Io.KnownBytes.{Consumes}
use Rattle.wasm_gen_program.specs.Transfer.{ConsumesUpTo}
use Rattle.wasm_gen_program.specs.declared.error.RunError.{RunError}
use Rattle.wasm_gen_program.specs.declared.error.RunError.TheVariants.{Read, TooLong, Memory}
use Rattle.wasm_gen_program.proofs.ReadLaws.{one_more, last_ends, last_fails, still_within, tired}
use Rattle.wasm_gen_program.proofs.transfer.read_whole.Goals as goal
use Rattle.wasm_gen_program.proofs.transfer.read_whole.Goals.{in-Nothing, in-More+else-len-most}

-- what was read, and then some more
consumed_more : (a b c : Option (List ℕ)) (bytes : List ℕ) (most more all : ℕ) → Consumes a b bytes → length bytes ≤ most
    → ConsumesUpTo b c more → most + more ≤ all → ConsumesUpTo a c all
consumed_more a b c bytes most more all before within last total =
    let last_within = last.2 in
    (bytes ++ last.0, Consumes-trans a b c bytes last.0 before last.1, omega (arith, length-append bytes last.0))

-- an error of a read that did not fail
unless_read : (e : RunError) (P : Type 0) → (e ≡ Read) ⊎ (e ≡ Memory) → (e ≡ Memory → P) → e ≢ Read → P
unless_read e P (inl is) told differs = absurd (differs is)
unless_read e P (inr is) told differs = told is

of_three : (e : RunError) → (e ≡ Read) ⊎ (e ≡ Memory) → (e ≡ Read) ⊎ (e ≡ TooLong) ⊎ (e ≡ Memory)
of_three e (inl is) = inl is
of_three e (inr is) = inr (inr is)

not_too_long : (e : RunError) (P : Type 0) → (e ≡ Read) ⊎ (e ≡ Memory) → e ≡ TooLong → P
not_too_long e P (inl is) long = cc
not_too_long e P (inr is) long = cc

longer : (most n : ℕ) (v : Vec ℕ Global) → n ≡ vec_len v → most < n → most < length v.items
longer most n v is h = omega (arith, v.ok.0)

no_longer : (most n : ℕ) (v : Vec ℕ Global) → n ≡ vec_len v → n ≤ most → length v.items ≤ most
no_longer most n v is h = omega (arith, v.ok.0)

pub returns-in_err-read_turn-clause-whole : goal.returns-in_err-read_turn-clause-whole
returns-in_err-read_turn-clause-whole g c =
    let p = err_from_is_err_and c.from_residual.result c.from_residual.ensures.1 in
    rw p.1 tt

pub returns-in_err-read_turn-clause-within : goal.returns-in_err-read_turn-clause-within
returns-in_err-read_turn-clause-within g c =
    let p = err_from_is_err_and c.from_residual.result c.from_residual.ensures.1 in
    rw p.1 tt

pub returns-in_err-read_turn-clause-ended : goal.returns-in_err-read_turn-clause-ended
returns-in_err-read_turn-clause-ended g c =
    let p = err_from_is_err_and c.from_residual.result c.from_residual.ensures.1 in
    rw p.1 tt

pub returns-in_err-read_turn-clause-kinds : goal.returns-in_err-read_turn-clause-kinds
returns-in_err-read_turn-clause-kinds g c =
    let p = err_from_is_err_and c.from_residual.result c.from_residual.ensures.1 in
    rw (p.1, p.2) (of_three _ c.in_err-read_turn.ensures.kinds)

pub returns-in_err-read_turn-clause-too_long : goal.returns-in_err-read_turn-clause-too_long
returns-in_err-read_turn-clause-too_long g c =
    let p = err_from_is_err_and c.from_residual.result c.from_residual.ensures.1 in
    λ is. not_too_long _ _ c.in_err-read_turn.ensures.kinds (cc (p.1, p.2, is))

pub returns-in_err-read_turn-clause-failed : goal.returns-in_err-read_turn-clause-failed
returns-in_err-read_turn-clause-failed g c =
    let before = c.loop-turn.invariant in
    let p = err_from_is_err_and c.from_residual.result c.from_residual.ensures.1 in
    λ is. last_fails _ _ _ _ _ c.loop-turn-test.true before.counted (c.in_err-read_turn.ensures.failed (cc (p.1, p.2, is)))

pub returns-in_err-read_turn-clause-unfailed : goal.returns-in_err-read_turn-clause-unfailed
returns-in_err-read_turn-clause-unfailed g c =
    let before = c.loop-turn.invariant in
    let p = err_from_is_err_and c.from_residual.result c.from_residual.ensures.1 in
    let told = c.in_err-read_turn.ensures in
    rw (p.1, p.2) (unless_read _ _ told.kinds (λ is. still_within _ _ _ _ _ c.loop-turn-test.true before.counted (told.memory (ap Err is))))

pub returns-in_err-read_turn-clause-bounded : goal.returns-in_err-read_turn-clause-bounded
returns-in_err-read_turn-clause-bounded g c =
    let before = c.loop-turn.invariant in
    let p = err_from_is_err_and c.from_residual.result c.from_residual.ensures.1 in
    let last = c.in_err-read_turn.ensures.bounded in
    rw p.1 (consumed_more _ _ _ _ _ _ (c.args.most + 2 ^ 14) before.consumed before.within last (omega arith))

pub returns-in-End-clause-whole : goal.returns-in-End-clause-whole
returns-in-End-clause-whole g c =
    let last = c.in_ok-read_turn.ensures.end (ap Ok c.in-End.is) in
    (rw last.0 (Consumes-kept _ _ _ _ c.loop-turn.invariant.consumed last.1), last.2)

pub returns-in-End-clause-within : goal.returns-in-End-clause-within
returns-in-End-clause-within g c =
    let last = c.in_ok-read_turn.ensures.end (ap Ok c.in-End.is) in
    rw last.0 c.loop-turn.invariant.within

pub returns-in-End-clause-ended : goal.returns-in-End-clause-ended
returns-in-End-clause-ended g c =
    last_ends _ _ _ _ _ c.loop-turn-test.true c.loop-turn.invariant.counted (c.in_ok-read_turn.ensures.ended (ap Ok c.in-End.is))

pub returns-then-len-most-clause-too_long : goal.returns-then-len-most-clause-too_long
returns-then-len-most-clause-too_long g c =
    let last = c.in_ok-read_turn.ensures.more (ap Ok c.in-More.is) in
    λ _. (
      c.read_turn.new.bytes.items,
      rw last.3 (Consumes-trans _ _ _ _ _ c.loop-turn.invariant.consumed last.1),
      longer _ _ c.read_turn.new.bytes c.len.ensures c.if-len-most.true,
    )

pub returns-then-len-most-clause-unfailed : goal.returns-then-len-most-clause-unfailed
returns-then-len-most-clause-unfailed g c =
    λ _. still_within _ _ _ _ _ c.loop-turn-test.true c.loop-turn.invariant.counted (c.in_ok-read_turn.ensures.goes_on (λ is. cc (c.in-More.is, is)))

pub returns-then-len-most-clause-bounded : goal.returns-then-len-most-clause-bounded
returns-then-len-most-clause-bounded g c =
    let before = c.loop-turn.invariant in
    let last = c.in_ok-read_turn.ensures.more (ap Ok c.in-More.is) in
    consumed_more _ _ _ _ _ _ (c.args.most + 2 ^ 14) before.consumed before.within (last.0, last.1, last.2) (omega arith)

pub loop-turn-preserved : goal.loop-turn-preserved
loop-turn-preserved g c =
    let before = c.loop-turn.invariant in
    let told = c.in_ok-read_turn.ensures in
    elim c.match-branch-2.branch [
      | in-Nothing w ↦
          let last = told.nothing (ap Ok w.in-Nothing.is) in
          record {
            consumed = rw last.0 (Consumes-kept _ _ _ _ before.consumed last.1);
            within = rw last.0 before.within;
            counted = one_more _ _ _ _ before.counted (told.goes_on (λ is. cc (w.in-Nothing.is, is)));
          }
      | in-More+else-len-most w ↦
          let last = told.more (ap Ok w.in-More.is) in
          record {
            consumed = rw last.3 (Consumes-trans _ _ _ _ _ before.consumed last.1);
            within = no_longer _ _ c.read_turn.new.bytes w.len.ensures w.if-len-most.false;
            counted = one_more _ _ _ _ before.counted (told.goes_on (λ is. cc (w.in-More.is, is)));
          }
    ]

pub returns-clause-failed : goal.returns-clause-failed
returns-clause-failed g c = λ _. tired _ _ _ _ c.loop-turn-test.false c.loop-turn.auto._turn-end c.loop-turn.invariant.counted
