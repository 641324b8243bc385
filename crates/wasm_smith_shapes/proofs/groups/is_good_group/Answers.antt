use Rattle.std.proofs.Common.{◌<◌, ◌≤◌, ◌^◌, arith, length, map, sym, refl, ap, ◌∙◌}
use Rattle.std.specs.Prelude.{if◌then◌else◌}
use Rattle.std.specs.List.{list_all}
use Rattle.std.proofs.lemmas.List.{length-map}
use Rattle.wasm_core_types.specs.Features.{feature_set}
use Rattle.wasm_core_types.specs.SubTypes.{sub_type}
use Rattle.wasm_spec.specs.Features.{Gc, has}
use Rattle.wasm_spec.specs.Gates.{is_allowed_group}
use Rattle.wasm_smith_validity.specs.ValidGroups.{entry}
use Rattle.wasm_smith_shapes.specs.Forms.{may_have_named_type}
use Rattle.wasm_smith_shapes.proofs.GroupParts.{allowed_back, forms_back, links_back, linked, match_back, one_above, seen_slice, together}
use Rattle.wasm_smith_shapes.proofs.groups.is_good_group.Goals as goal

pub returns-then-not-is_allowed_group : goal.returns-then-not-is_allowed_group
returns-then-not-is_allowed_group c =
    let types = c.args.types.now in
    let ts = map sub_type types in
    let few : length ts < 2 ^ 32 = omega (arith, c.requires.few, length-map types sub_type) in
    let within : c.args.start ≤ length ts = omega (arith, c.requires.start, length-map types sub_type) in
    let bound = c.bound-named.ensures ∙ ap (λ n. if has (feature_set c.args.features) Gc then n else c.args.start) (sym (length-map types sub_type)) in (
      (λ h. absurd cc),
      (λ good.
          let yes = allowed_back (feature_set c.args.features) c.args.purpose ts c.args.start _ within few (one_above types) bound good in
          let told = ap (λ xs. is_allowed_group (feature_set c.args.features) (entry xs)) (seen_slice sub_type c.args.start types) in
          let off = c.if-not-is_allowed_group.ensures ∙ told ∙ yes in
          absurd cc),
    )

pub returns-then-not-may_have_types : goal.returns-then-not-may_have_types
returns-then-not-may_have_types c =
    let types = c.args.types.now in
    let ts = map sub_type types in
    let few : length ts < 2 ^ 32 = omega (arith, c.requires.few, length-map types sub_type) in
    let within : c.args.start ≤ length ts = omega (arith, c.requires.start, length-map types sub_type) in
    let bound = c.bound-named.ensures ∙ ap (λ n. if has (feature_set c.args.features) Gc then n else c.args.start) (sym (length-map types sub_type)) in (
      (λ h. absurd cc),
      (λ good.
          let yes = forms_back (feature_set c.args.features) c.args.purpose ts c.args.start _ within few (one_above types) bound good in
          let told = ap (list_all (may_have_named_type c.args.purpose c.bound-named.result)) (seen_slice sub_type c.args.start types) in
          let off = c.if-not-may_have_types.ensures ∙ told ∙ yes in
          absurd cc),
    )

pub returns-then-not-have_links : goal.returns-then-not-have_links
returns-then-not-have_links c =
    let types = c.args.types.now in
    let ts = map sub_type types in
    let few : length ts < 2 ^ 32 = omega (arith, c.requires.few, length-map types sub_type) in
    let within : c.args.start ≤ length ts = omega (arith, c.requires.start, length-map types sub_type) in
    let bound = c.bound-named.ensures ∙ ap (λ n. if has (feature_set c.args.features) Gc then n else c.args.start) (sym (length-map types sub_type)) in (
      (λ h. absurd cc),
      (λ good.
          let off = c.if-not-have_links.ensures.1 (links_back (feature_set c.args.features) c.args.purpose ts c.args.start _ within few (one_above types) bound good) in
          absurd cc),
    )

pub match_above-requires : goal.match_above-requires
match_above-requires c =
    let types = c.args.types.now in
    let ts = map sub_type types in
    let few : length ts < 2 ^ 32 = omega (arith, c.requires.few, length-map types sub_type) in
    let within : c.args.start ≤ length ts = omega (arith, c.requires.start, length-map types sub_type) in
    let bound = c.bound-named.ensures ∙ ap (λ n. if has (feature_set c.args.features) Gc then n else c.args.start) (sym (length-map types sub_type)) in
    linked (feature_set c.args.features) c.args.purpose ts c.args.start _ within few (one_above types) bound c.requires.rules (c.if-not-have_links.ensures.0 refl)

pub returns : goal.returns
returns c =
    let types = c.args.types.now in
    let ts = map sub_type types in
    let few : length ts < 2 ^ 32 = omega (arith, c.requires.few, length-map types sub_type) in
    let within : c.args.start ≤ length ts = omega (arith, c.requires.start, length-map types sub_type) in
    let bound = c.bound-named.ensures ∙ ap (λ n. if has (feature_set c.args.features) Gc then n else c.args.start) (sym (length-map types sub_type)) in
    let allowed = ap (λ xs. is_allowed_group (feature_set c.args.features) (entry xs)) (sym (seen_slice sub_type c.args.start types)) ∙ sym c.if-not-is_allowed_group.ensures in
    let forms = ap (list_all (may_have_named_type c.args.purpose c.bound-named.result)) (sym (seen_slice sub_type c.args.start types)) ∙ sym c.if-not-may_have_types.ensures in (
      (λ h.
          together (feature_set c.args.features) c.args.purpose ts c.args.start _ within few (one_above types) bound allowed forms (c.if-not-have_links.ensures.0 refl)
          (c.match_above.ensures.0 h)),
      (λ good. c.match_above.ensures.1 (match_back (feature_set c.args.features) c.args.purpose ts c.args.start _ within few (one_above types) bound good)),
    )
