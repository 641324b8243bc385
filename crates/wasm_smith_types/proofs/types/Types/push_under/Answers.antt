use Rattle.std.proofs.Common.{◌≡◌, ap, sym, subst, not}
use Rattle.wasm_core_types.specs.SubTypes.{sub_type, composite_type}
use Rattle.wasm_spec.specs.Types as spec
use Rattle.wasm_smith_types.specs.Making.{made}
use Rattle.wasm_smith_types.specs.Permitted.{IsPermittedComposite, IsPermittedCopy}
use Rattle.wasm_smith_types.proofs.MakingLaws.{under_height, under_member, members_with_one, seen_at}
use Rattle.wasm_smith_types.proofs.types.Types.push_under.Goals as goal

pub push-requires-clause-height : goal.push-requires-clause-height
push-requires-clause-height c =
    under_height (made c.args.self.now) c.args.candidate c.requires.candidate (not c.bool-is_final.result)
    (composite_type c.in_ok-composite_type.composite_type)

pub returns-clause-valid : goal.returns-clause-valid
returns-clause-valid c =
    let ts = made c.args.self.now in
    let super = c.requires.candidate in
    let is_final = not c.bool-is_final.result in
    let comp = composite_type c.in_ok-composite_type.composite_type in
    let same : sub_type c.index.result.now ≡ super.type =
    seen_at sub_type c.args.self.now.types.items c.args.candidate.index c.index.result.now super.type c.index.ensures super.is in
    let same' = ap (λ (t : spec.SubType _). t.composite_type) same in
    record {
      type = record { is_final = is_final; supertypes = _; composite_type = comp };
      added = c.in_ok-push.ensures.added;
      sizes = c.in_ok-push.ensures.sizes;
      candidates = c.in_ok-push.ensures.candidates;
      members = λ features suits old.
          let permitted = (old c.args.candidate.index super.type super.is).permitted in
          rw c.in_ok-push.ensures.added (members_with_one features c.args.end ts _ old
          (under_member ts c.args.candidate super is_final comp features c.args.end old
          (subst (IsPermittedCopy features c.args.end comp) same' (c.in_ok-composite_type.ensures.permitted features suits (subst (IsPermittedComposite features c.args.end) (sym same') permitted)))));
    }
