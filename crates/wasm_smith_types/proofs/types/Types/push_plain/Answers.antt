use Rattle.std.proofs.Common.{refl, [], ◌≡◌, ap, subst, not}
use Rattle.wasm_core_types.specs.SubTypes.{composite_type}
use Rattle.wasm_spec.specs.Groups.{ContinuesFunc}
use Rattle.wasm_smith_types.specs.Making.{made}
use Rattle.wasm_smith_types.specs.Drawing.{plain_type_at}
use Rattle.wasm_smith_types.specs.Permitted.{IsPermittedComposite}
use Rattle.wasm_smith_types.proofs.PermittedLaws.{composite_permitted}
use Rattle.wasm_smith_types.proofs.MakingLaws.{plain_height, plain_member, members_with_one, composite_continues}
use Rattle.wasm_smith_types.proofs.types.Types.push_plain.Goals as goal

pub push-requires-clause-height : goal.push-requires-clause-height
push-requires-clause-height c = plain_height (made c.args.self.now) (not c.bool-is_final.result) (composite_type c.in_ok-composite_type.composite_type)

pub returns-clause-valid : goal.returns-clause-valid
returns-clause-valid c =
    let ts = made c.args.self.now in
    let is_final = not c.bool-is_final.result in
    let made_of = c.in_ok-composite_type.ensures.drawn in
    let comp = composite_type c.in_ok-composite_type.composite_type in
    let is = ap (λ (d : _ × _). d.0) made_of in
    record {
      type = record { is_final = is_final; supertypes = _; composite_type = comp };
      added = c.in_ok-push.ensures.added;
      sizes = c.in_ok-push.ensures.sizes;
      candidates = c.in_ok-push.ensures.candidates;
      members = λ features suits old.
          rw c.in_ok-push.ensures.added (members_with_one features c.args.end ts _ old
          (plain_member features c.args.offers.now c.args.end ts is_final comp
          (λ sub_at. subst (ContinuesFunc sub_at) is (composite_continues c.args.offers.now c.args.end _ sub_at))
          (subst (IsPermittedComposite features c.args.end) is (composite_permitted features c.args.offers.now suits c.args.end _))));
    }

pub returns-clause-drawn : goal.returns-clause-drawn
unfolding plain_type_at
returns-clause-drawn c =
    let ts = made c.args.self.now in
    let open_at = c.bool-is_final.ensures.exact in
    let comp_at = c.in_ok-composite_type.ensures.drawn in
    let whole : plain_type_at c.args.offers.now c.args.end c.args.unstructured.now ≡ (record { is_final = not c.bool-is_final.result; supertypes = []; composite_type = composite_type c.in_ok-composite_type.composite_type }, c.composite.new.unstructured) = rw (open_at, comp_at) refl in
    rw whole (record { added = c.in_ok-push.ensures.added; at = refl; asks = c.in_ok-push.ensures.asks refl })
