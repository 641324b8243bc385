use Rattle.std.proofs.Common.{◌++◌, ◌+◌, ◌<◌, [], ◌∷◌, drop, length, refl, ap, subst, sym, ◌∙◌, append_assoc, arith}
use Rattle.std.proofs.lemmas.List.{append-nil, drop_all}
use Rattle.std.specs.List.{range_with_len}
use Rattle.wasm_gen_view.specs.TypeNumbers.{places_from}
use Rattle.wasm_gen_view.proofs.KnownGroups.{range_count}
use Rattle.wasm_gen_view.proofs.NumberLaws.{places_step}
use Rattle.wasm_gen_view.proofs.type_numbers.push_places.Goals as goal

pub loop-place-preserved : goal.loop-place-preserved
loop-place-preserved c =
    let place = c.loop-place.place in
    let all = range_with_len 0 c.args.count in
    let left = places_from c.args.group (place + 1) (drop (place + 1) all) in
    let within = subst (λ n. place < n) (sym (range_count 0 c.args.count)) c.loop-place-test.true in
    record {
      kept = ap (λ ps. ps ++ left) c.in_ok-push.ensures.items ∙ append_assoc c.loop-place.places.items (record { group = c.args.group; place = place } ∷ []) left
          ∙ ap (λ ps. c.loop-place.places.items ++ ps) (sym (places_step c.args.group place all within)) ∙ c.loop-place.invariant.kept;
    }

pub returns : goal.returns
returns c =
    let place = c.loop-place.place in
    let all = range_with_len 0 c.args.count in
    let kept = c.loop-place.places.items in
    sym (append-nil kept) ∙ ap (λ xs. kept ++ places_from c.args.group place xs) (sym (drop_all place all (omega (arith, range_count 0 c.args.count, c.loop-place-test.false)))) ∙ c.loop-place.invariant.kept
