use Rattle.std.proofs.Common.{◌≡◌, ◌≤◌, ◌+◌, ◌∷◌, [], ◌++◌, map, length, ap, sym, ◌∙◌, arith, vec_len, refl, length-append}
use Rattle.std.proofs.lemmas.List.{length-map, map-append}
use Rattle.wasm_core_types.specs.SubTypes.{sub_type}
use Rattle.wasm_spec.specs.Types as spec
use Rattle.wasm_smith_types.specs.Drawing.{function_type_at, total}
use Rattle.wasm_smith_types.specs.Making.{made}
use Rattle.wasm_smith_types.proofs.GroupedLaws.{sum_more}
use Rattle.wasm_smith_types.proofs.GrowLaws.{grow_step, grow_ends}
use Rattle.wasm_smith_types.proofs.PastLaws.{grow_past, some_more}
use Rattle.wasm_smith_types.proofs.types.make_function_types.Goals as goal

pub grow-preserved : goal.grow-preserved
grow-preserved c =
    let all = c.in_ok-push_function.ensures in
    let count : vec_len c.grow.made.types ≡ length c.grow.made.types.items = c.grow.made.types.ok.0 in
    let n : vec_len c.grow.made.types ≡ length (made c.grow.made) = count ∙ sym (length-map c.grow.made.types.items sub_type) in
    let count' : vec_len c.push_function.new.self.types ≡ length c.push_function.new.self.types.items = c.push_function.new.self.types.ok.0 in
    let m : vec_len c.push_function.new.self.types ≡ length (made c.push_function.new.self) =
    count' ∙ sym (length-map c.push_function.new.self.types.items sub_type) in
    let t = (function_type_at c.args.offers.now c.grows.new.unstructured).0 in
    let longer : length (made c.push_function.new.self) ≡ length (made c.grow.made) + 1 =
    omega (arith, ap length all.added, length-append (made c.grow.made) (t ∷ [])) in
    record {
      few = omega (arith, longer, n, c.len.ensures, c.grow-test.ensures.room refl);
      within = omega (arith, longer, n, c.len-in-grow.ensures, c.if-len-most.false);
      some = some_more c.grow.made.sizes.items c.push_function.new.self.sizes.items all.group.size all.group.sizes
          (omega (arith, longer, c.grow.invariant.whole, all.group.whole, ap total all.group.sizes, sum_more c.grow.made.sizes.items all.group.size)) c.grow.invariant.some;
      whole = all.group.whole;
      candidates = all.group.candidates;
      done = λ features suits. all.group.done features suits (c.grow.invariant.done features suits);
      drawn =
          grow_step (function_type_at c.args.offers.now) (made c.grow.made) (made c.push_function.new.self) c.args.min c.args.max (vec_len c.grow.made.types)
          (vec_len c.push_function.new.self.types) _ c.grows.new.unstructured _ t _ all.added (omega (arith, m, longer, n))
          (rw c.len.ensures at c.grow-test.ensures.exact) (ap (λ u. (t, u)) (sym all.left)) c.grow.invariant.drawn;
      taken = omega arith;
      singles =
          all.groups ∙ ap (λ gs. gs ++ spec.Single t ∷ []) c.grow.invariant.singles ∙ sym (map-append spec.Single (made c.grow.made) (t ∷ []))
          ∙ ap (map spec.Single) (sym all.added);
    }

pub returns-clause-drawn : goal.returns-clause-drawn
returns-clause-drawn c = grow_ends _ _ _ _ _ _ _ _ (rw c.len.ensures at c.grow-test.ensures.exact) c.grow.invariant.drawn

pub returns-then-len-most-clause-too_many_drawn : goal.returns-then-len-most-clause-too_many_drawn
returns-then-len-most-clause-too_many_drawn c = λ same.
    let count : vec_len c.grow.made.types ≡ length c.grow.made.types.items = c.grow.made.types.ok.0 in
    let n : length (made c.grow.made) ≡ vec_len c.grow.made.types = sym (count ∙ sym (length-map c.grow.made.types.items sub_type)) in
    let past : c.args.most ≤ vec_len c.grow.made.types = omega (arith, c.len-in-grow.ensures) in
    grow_past (function_type_at c.args.offers.now) (made c.grow.made) c.args.min c.args.max (vec_len c.grow.made.types) c.args.most _ _ _
    (rw c.len.ensures at c.grow-test.ensures.exact) n past c.grow.invariant.drawn
