use Rattle.std.proofs.Common.{◌+◌, drop, refl, sym, ap, ◌∙◌, arith}
use Rattle.std.proofs.lemmas.List.{drop_all}
use Rattle.wasm_spec.proofs.Places.{get_some}
use Rattle.wasm_smith_externs.proofs.FittingLaws.{one_sized, all_sized_so_far}
use Rattle.wasm_smith_definitions.proofs.IndexLaws.{from_place}
use Rattle.wasm_smith_externs.proofs.candidates.sized_tags.Goals.{in-Some+in_ok-push, in_default}
use Rattle.wasm_smith_externs.proofs.candidates.sized_tags.Goals as goal

pub loop-index-init : goal.loop-index-init
loop-index-init c = rw c.new-items.ensures refl

pub loop-index-preserved : goal.loop-index-preserved
loop-index-preserved c =
    let tags = c.args.spaces.now.tags in
    let i = c.loop-index.index in
    elim c.match-tag.branch [
      | in-Some+in_ok-push w ↦
          one_sized c.args.spaces.now.types i (i + 1) w.in-Some.ty (drop i tags) (drop (i + 1) tags) (record { index = i; size = w.function_size-size.result }) c.loop-index.items c.match-tag.items _
          (from_place tags i w.in-Some.ty (sym c.tag.ensures ∙ w.in-Some.is)) refl
          (ap (λ size. record { index = c.loop-index.index; size = size }) (rw c.types-types.ensures at w.function_size-size.ensures)) (w.items-is ∙ w.in_ok-push.ensures) c.loop-index.invariant
      | in_default w ↦ let at = get_some tags i (omega arith) in absurd (w.in_default.not-Some at.0 (c.tag.ensures ∙ at.1))
    ]

pub returns : goal.returns
returns c =
    let tags = c.args.spaces.now.tags in
    all_sized_so_far c.args.spaces.now.types c.loop-index.index (drop c.loop-index.index tags) c.loop-index.items _ (drop_all c.loop-index.index tags (omega arith)) c.loop-index.invariant
