use Rattle.std.proofs.Common.{◌≡◌, ◌∷◌, [], ◌++◌, length, sym, ap, ◌∙◌, arith, vec_len}
use Rattle.std.proofs.lemmas.List.{length-map}
use Rattle.wasm_core_types.specs.SubTypes.{sub_type}
use Rattle.wasm_smith_types.specs.Making.{made}
use Rattle.wasm_smith_types.proofs.CloneSteps.{span_fits, copied_more, many_copied, clone_whole, clone_done, copied_all, copied_count}
use Rattle.wasm_smith_types.proofs.types.Types.push_clone.Goals as goal

pub overflow_sub-shift : goal.overflow_sub-shift
overflow_sub-shift c =
    let count : vec_len c.args.self.now.types ≡ length c.args.self.now.types.items = c.args.self.now.types.ok.0 in
    omega
    (arith, c.len.ensures, count, length-map c.args.self.now.types.items sub_type, span_fits c.args.self.now.sizes.items (length (made c.args.self.now)) c.args.span c.requires.whole c.requires.span)

pub overflow_add-span : goal.overflow_add-span
overflow_add-span c = omega (arith, span_fits c.args.self.now.sizes.items (length (made c.args.self.now)) c.args.span c.requires.whole c.requires.span)

pub push_copy-requires-clause-index : goal.push_copy-requires-clause-index
push_copy-requires-clause-index c =
    omega
    (arith, span_fits c.args.self.now.sizes.items (length (made c.args.self.now)) c.args.span c.requires.whole c.requires.span, many_copied _ _ _ (made c.args.self.now) (made c.loop-place.self) c.loop-place.invariant.copied)

pub loop-place-preserved : goal.loop-place-preserved
loop-place-preserved c =
    let one = c.in_ok-push_copy.ensures.added in
    record {
      copied =
          copied_more c.args.span.start _ c.loop-place.place c.args.span.size (made c.args.self.now) (made c.loop-place.self) (made c.push_copy.new.self) one.0
          (span_fits c.args.self.now.sizes.items (length (made c.args.self.now)) c.args.span c.requires.whole c.requires.span) c.loop-place-test.true c.loop-place.invariant.copied one.1 one.2;
      sizes = c.in_ok-push_copy.ensures.sizes ∙ c.loop-place.invariant.sizes;
      candidates = c.in_ok-push_copy.ensures.candidates;
    }

pub returns-clause-whole : goal.returns-clause-whole
returns-clause-whole c =
    let all : c.loop-place.place ≡ c.args.span.size = omega arith in
    clone_whole c.args.self.now.sizes.items (made c.args.self.now) c.args.span.start _ c.args.span.size c.loop-place.place
    (made c.loop-place.self) c.push.new.self.items all c.requires.whole
    (span_fits c.args.self.now.sizes.items (length (made c.args.self.now)) c.args.span c.requires.whole c.requires.span) c.loop-place.invariant.copied
    (c.in_ok-push.ensures.items ∙ ap (λ ns. ns ++ c.args.span.size ∷ []) c.loop-place.invariant.sizes)

pub returns-clause-done : goal.returns-clause-done
returns-clause-done c = λ features on d.
    let all : c.loop-place.place ≡ c.args.span.size = omega arith in
    let count : vec_len c.args.self.now.types ≡ length c.args.self.now.types.items = c.args.self.now.types.ok.0 in
    let n : c.len.result ≡ length (made c.args.self.now) = c.len.ensures ∙ count ∙ sym (length-map c.args.self.now.types.items sub_type) in
    let both = clone_done features c.args.self.now.sizes.items (made c.args.self.now) c.args.span c.len.result c.loop-place.place (made c.loop-place.self) c.push.new.self.items n all c.requires.whole (omega arith) c.requires.span
    c.loop-place.invariant.copied (c.in_ok-push.ensures.items ∙ ap (λ ns. ns ++ c.args.span.size ∷ []) c.loop-place.invariant.sizes) on d.valid d.members in
    record { valid = both.0; members = both.1 }

pub returns-clause-count : goal.returns-clause-count
returns-clause-count c =
    let all : c.loop-place.place ≡ c.args.span.size = omega arith in
    copied_count c.args.span.start _ c.args.span.size c.loop-place.place (made c.args.self.now) (made c.loop-place.self) all
    (span_fits c.args.self.now.sizes.items (length (made c.args.self.now)) c.args.span c.requires.whole c.requires.span) c.loop-place.invariant.copied

pub returns-clause-added : goal.returns-clause-added
returns-clause-added c =
    let all : c.loop-place.place ≡ c.args.span.size = omega arith in
    let count : vec_len c.args.self.now.types ≡ length c.args.self.now.types.items = c.args.self.now.types.ok.0 in
    let n : c.len.result ≡ length (made c.args.self.now) = c.len.ensures ∙ count ∙ sym (length-map c.args.self.now.types.items sub_type) in
    copied_all c.args.span c.len.result c.loop-place.place (made c.args.self.now) (made c.loop-place.self) n all c.loop-place.invariant.copied
