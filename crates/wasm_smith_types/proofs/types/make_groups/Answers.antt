use Rattle.std.proofs.Common.{◌≡◌, ◌≤◌, length, arith, vec_len, refl, sym, ap, ◌∙◌, ℕ, [], Some}
use Rattle.std.proofs.lemmas.Result.{err_from_is_err_and}
use Rattle.std.proofs.lemmas.List.{length-map}
use Rattle.std.specs.Prelude.{slice_get}
use Rattle.wasm_spec.specs.Types.{SubType}
use Rattle.wasm_smith_types.proofs.FittingLaws.{fits_less}
use Rattle.wasm_smith_types.proofs.GroupDraws.{groups_begin, groups_go_on, groups_end}
use Rattle.wasm_smith_types.proofs.GroupedLaws.{sum_more}
use Rattle.wasm_smith_types.proofs.PastLaws.{groups_past, some_more}
use Rattle.wasm_smith_types.specs.Drawing.{total}
use Rattle.wasm_core_types.specs.SubTypes.{sub_type}
use Rattle.wasm_smith_types.specs.Making.{made}
use Rattle.wasm_smith_types.proofs.types.make_groups.Goals as goal

pub returns-clause-least : goal.returns-clause-least
returns-clause-least c = λ le.
    let count : vec_len c.grow.made.types ≡ length c.grow.made.types.items = c.grow.made.types.ok.0 in
    let enough : c.args.min ≤ c.len.result = c.grow-test.ensures.enough refl le in
    omega (arith, enough, count, c.len.ensures, length-map c.grow.made.types.items sub_type)

pub grow-init : goal.grow-init
grow-init c = record {
  few = rw c.new-made.ensures.types (omega arith);
  within = rw c.new-made.ensures.types (omega arith);
  some = rw c.new-made.ensures.sizes tt;
  whole = rw (c.new-made.ensures.sizes, c.new-made.ensures.types) refl;
  candidates = rw c.new-made.ensures.candidates tt;
  done =
      λ features suits. record { valid = rw c.new-made.ensures.sizes tt; members = λ index type is. absurd (nothing_at index type (rw c.new-made.ensures.types at is)) };
  drawn = λ zero_owed. groups_begin c.args.offers.now c.args.max _ c.args.unstructured.now c.new-made.ensures.sizes c.new-made.ensures.candidates;
  taken = omega arith;
  fitting = rw c.new-made.ensures.sizes (c.new-fitting.ensures _);
}
  where
    nothing_at : (index : ℕ) (type : SubType ℕ) → slice_get [] index ≡ Some type → ⊥
    nothing_at index type e = absurd cc

pub grow-preserved : goal.grow-preserved
grow-preserved c =
    let all = c.in_ok-push_next.ensures in
    let count : vec_len c.grow.made.types ≡ length c.grow.made.types.items = c.grow.made.types.ok.0 in
    let n : c.len.result ≡ length (made c.grow.made) = c.len.ensures ∙ count ∙ sym (length-map c.grow.made.types.items sub_type) in
    let same : c.len-count.result ≡ c.len.result = c.len-count.ensures ∙ sym c.len.ensures in
    record {
      few = omega (arith, all.few, n, same, c.grow-test.ensures.room refl);
      within = omega (arith, all.within, n, same, c.grow.invariant.within);
      some = some_more c.grow.made.sizes.items c.push_next.new.self.sizes.items all.group.size all.group.sizes
          (omega (arith, all.more, c.grow.invariant.whole, all.group.whole, ap total all.group.sizes, sum_more c.grow.made.sizes.items all.group.size)) c.grow.invariant.some;
      whole = all.group.whole;
      candidates = all.group.candidates;
      done = λ features suits. all.group.done features suits (c.grow.invariant.done features suits);
      drawn =
          λ zero_owed. groups_go_on c.args.offers.now c.args.max c.len.result _ c.grow.made c.push_next.new.self _ c.grows.new.unstructured _ n c.grow.invariant.whole
          (c.grow-test.ensures.room refl) all.more (rw zero_owed at c.grow-test.ensures.exact)
          (rw same at all.drawn) (c.grow.invariant.drawn zero_owed);
      taken = omega arith;
      fitting = fits_less _ _ _ _ (omega (arith, n, same, all.more)) all.fitting;
    }

pub returns-clause-drawn : goal.returns-clause-drawn
returns-clause-drawn c = λ zero_owed.
    let count : vec_len c.grow.made.types ≡ length c.grow.made.types.items = c.grow.made.types.ok.0 in
    let n : c.len.result ≡ length (made c.grow.made) = c.len.ensures ∙ count ∙ sym (length-map c.grow.made.types.items sub_type) in
    groups_end c.args.offers.now c.args.max c.len.result _ c.grow.made _ c.grows.new.unstructured n c.grow.invariant.whole
    (omega (arith, n, c.grow.invariant.few)) (rw zero_owed at c.grow-test.ensures.exact) (c.grow.invariant.drawn zero_owed)

pub overflow_sub-most : goal.overflow_sub-most
overflow_sub-most c =
    let count : vec_len c.grow.made.types ≡ length c.grow.made.types.items = c.grow.made.types.ok.0 in
    omega (arith, c.len-count.ensures, count, length-map c.grow.made.types.items sub_type, c.grow.invariant.within)

pub returns-in_err-push_next-clause-too_many_drawn : goal.returns-in_err-push_next-clause-too_many_drawn
returns-in_err-push_next-clause-too_many_drawn c =
    let p = err_from_is_err_and c.from_residual.result c.from_residual.ensures.1 in
    let count : vec_len c.grow.made.types ≡ length c.grow.made.types.items = c.grow.made.types.ok.0 in
    let n : c.len-count.result ≡ length (made c.grow.made) = c.len-count.ensures ∙ count ∙ sym (length-map c.grow.made.types.items sub_type) in
    let same : c.len-count.result ≡ c.len.result = c.len-count.ensures ∙ sym c.len.ensures in
    rw (p.1, p.2) (λ is zero_owed.
    groups_past c.args.offers.now c.args.max c.len-count.result _ c.args.most _ c.grow.made _ c.grows.new.unstructured n (omega (arith, n, c.grow.invariant.within)) c.grow.invariant.whole
    (omega (arith, same, c.grow-test.ensures.room refl)) (rw (zero_owed, sym same) at c.grow-test.ensures.exact) (c.in_err-push_next.ensures.too_many is).1
    (c.grow.invariant.drawn zero_owed))
