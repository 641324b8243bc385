use Rattle.std.proofs.Common.{◌++◌, ◌∷◌, [], ◌<◌, map, length, ap, sym, ◌∙◌, arith}
use Rattle.std.proofs.lemmas.Bool.{lt-ltb}
use Rattle.std.proofs.lemmas.List.{map_push, length-map}
use Rattle.wasm_core_types.specs.SubTypes.{sub_type}
use Rattle.wasm_smith_types.specs.Making.{made}
use Rattle.wasm_smith_types.proofs.MakingLaws.{candidates_with_more}
use Rattle.wasm_smith_validity.proofs.WalkLaws.{seen_get}
use Rattle.wasm_smith_types.proofs.types.Types.push_copy.Goals as goal

pub note-requires : goal.note-requires
note-requires c = record {
  candidates = rw (c.in_ok-push.ensures.items, map_push sub_type c.args.self.now.types.items c.in_ok-type_.type_)
      (candidates_with_more (made c.args.self.now) (sub_type c.in_ok-type_.type_ ∷ []) c.args.self.now.candidates.items c.requires.candidates);
}

pub returns-clause-added : goal.returns-clause-added
returns-clause-added c =
    let items = c.args.self.now.types.items in
    let lt : c.args.index < length items = omega (arith, c.requires.index, length-map items sub_type) in
    let is = seen_get sub_type items c.args.index c.index.result.now (sym (lt-ltb c.args.index (length items) lt)) c.index.ensures in (
      sub_type c.index.result.now,
      is,
      ap (λ (v : _). map sub_type v.items) c.in_ok-note.ensures.types ∙ ap (map sub_type) c.in_ok-push.ensures.items
          ∙ map_push sub_type items c.in_ok-type_.type_
          ∙ ap (λ t. made c.args.self.now ++ t ∷ []) c.in_ok-type_.ensures,
    )
