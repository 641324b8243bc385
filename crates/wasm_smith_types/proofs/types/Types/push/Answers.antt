use Rattle.std.proofs.Common.{◌≡◌, ◌++◌, ◌∷◌, [], length, sym, ◌∙◌, subst, vec_len}
use Rattle.std.proofs.lemmas.List.{map_push, length-map}
use Rattle.std.proofs.lemmas.Bool.{not-true}
use Rattle.wasm_core_types.specs.SubTypes.{sub_type}
use Rattle.std.specs.Prelude.{slice_get}
use Rattle.wasm_smith_validity.specs.ValidGroups.{HasHeight}
use Rattle.wasm_smith_types.specs.Making.{made}
use Rattle.wasm_smith_types.proofs.MakingLaws.{candidates_with_more, one_more_candidate}
use Rattle.wasm_smith_types.proofs.types.Types.push.Goals as goal

pub returns-in_ok-push-2-clause-candidates : goal.returns-in_ok-push-2-clause-candidates
returns-in_ok-push-2-clause-candidates c =
    let ts = made c.args.self.now in
    let count : vec_len c.args.self.now.types ≡ length c.args.self.now.types.items = c.args.self.now.types.ok.0 in
    let place : c.len-index.result ≡ length ts = c.len-index.ensures ∙ count ∙ sym (length-map c.args.self.now.types.items sub_type) in
    rw (c.in_ok-push-2.ensures.items, c.in_ok-push.ensures.items, map_push sub_type c.args.self.now.types.items c.args.type_)
    (one_more_candidate ts (sub_type c.args.type_) c.args.self.now.candidates.items _ c.requires.candidates
    (subst (HasHeight (slice_get (ts ++ sub_type c.args.type_ ∷ [])) c.args.height) (sym place) c.requires.height) place
    (not-true c.args.type_.is_final c.if-is_open.true) c.if-height-lt-MAX_HEIGHT.true)

pub returns-else-is_open-clause-candidates : goal.returns-else-is_open-clause-candidates
returns-else-is_open-clause-candidates c =
    rw (c.in_ok-push.ensures.items, map_push sub_type c.args.self.now.types.items c.args.type_)
    (candidates_with_more (made c.args.self.now) (sub_type c.args.type_ ∷ []) c.args.self.now.candidates.items c.requires.candidates)
