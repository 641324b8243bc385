use Rattle.std.proofs.Common.{rules, ◌≡◌, ◌∙◌, ℕ, ◌+◌, ◌-◌, ◌≤◌, List, ◌++◌, length, take, drop, ap, sym, subst, arith, take_all, length-drop}
use Rattle.std.proofs.KnownBytes.{Appends-trans}
use Rattle.std.proofs.Math.Seq.{take-add}
use Rattle.std.specs.Io.KnownBytes.{Appends}
use Rattle.wasm_gen_program.proofs.transfer.write_whole.Goals as goal

-- a front, and then a front of the rest
front_more : (w n : ℕ) (bytes : List ℕ) → w ≤ length bytes
    → take w bytes ++ take n (take (length bytes - w) (drop w bytes)) ≡ take (w + n) bytes
front_more w n bytes h =
    let whole = take_all (length bytes - w) (drop w bytes) (omega (arith, length-drop w bytes)) in
    ap (λ rest. take w bytes ++ take n rest) whole ∙ sym (take-add w n bytes)

pub loop-written-preserved : goal.loop-written-preserved
loop-written-preserved g c =
    let before = c.loop-written.invariant in
    let bound = c.in-Ok.ensures.bound in
    let joined = Appends-trans _ _ _ _ _ before.appended c.in-Ok.ensures.bytes in
    record {
      within = omega (arith, length-drop {A = ℕ});
      appended = subst (Appends _ _) (front_more c.loop-written.written c.in-Ok.n c.args.bytes.now before.within) joined;
      counted = search rules;
    }
