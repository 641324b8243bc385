use Rattle.std.proofs.Common.{map, refl}
use Rattle.wasm_smith_witness.specs.Family.{IsInFamily}
use Rattle.wasm_smith_witness.specs.Groups.{group_of}
use Rattle.wasm_smith_witness.proofs.WitnessLaws.{functions_fit, no_family, seed_spells}
use Rattle.wasm_smith_witness.proofs.witness.spelling.Goals as goal

pub returns-then-not-have_all : goal.returns-then-not-have_all
returns-then-not-have_all c = no_family c.args.config.now (map group_of c.args.groups.now) c.args.funcs.now _ _ c.in_ok-types.ensures c.have_all.ensures c.if-not-have_all.true

pub returns : goal.returns
returns c =
    let family : IsInFamily c.args.config.now (map group_of c.args.groups.now) c.args.funcs.now = record {
      askable = c.if-not-is_askable.ensures.0 refl;
      member = record {
        types_fit = c.if-not-are_member_groups.ensures.0 refl;
        functions_fit = functions_fit _ (map group_of c.args.groups.now) _ _ _ c.in_ok-types.ensures c.have_all.ensures c.if-not-have_all.false c.if-funcs-config.false;
      };
    } in
    (family, seed_spells _ _ _ _ _ _ _ _ family c.in_ok-types.ensures c.new-seed.ensures.items c.in_ok-push_types.ensures c.in_ok-push_no_imports_or_tags.ensures c.in_ok-push_functions.ensures)
