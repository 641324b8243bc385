use Rattle.std.proofs.Common.{◌≡◌, ◌↔◌, IsTrue, ap, inl, inr, slice_get}
use Rattle.wasmparser_types.specs.UnpackedIndex.{index}
use Rattle.wasmparser_type_list.specs.TypeTables.{sub_types, type_by_id}
use Rattle.wasmparser_type_list.proofs.Indexes.{alone, between, no_id}
use Rattle.wasmparser_type_list.proofs.matching.TypeListKnownTypes.index_is_subtype.Goals.{in_default-via-in-Id+in_default, in_default-via-in_default}
use Rattle.wasmparser_type_list.proofs.matching.TypeListKnownTypes.index_is_subtype.Goals as goal

pub returns-in-Id-Id : goal.returns-in-Id-Id
returns-in-Id-Id c = between _ _ _ _ _ _ (ap index c.in-Id-Id.is-0) (ap index c.in-Id-Id.is-1) c.id_is_subtype.ensures

pub returns-in_default : goal.returns-in_default
returns-in_default c =
    let tables = c.args.self.now in
    let equal : IsTrue c.same_index.result ↔ (index c.args.a ≡ index c.args.b) = c.same_index.ensures in
    elim c.in_default.branch [
      | in_default-via-in-Id+in_default w ↦ alone (type_by_id tables) (IsTrue c.same_index.result) (index c.args.a) (index c.args.b) equal (inr (no_id (slice_get (sub_types tables)) c.args.b w.in_default.not-Id-1))
      | in_default-via-in_default w ↦ alone (type_by_id tables) (IsTrue c.same_index.result) (index c.args.a) (index c.args.b) equal (inl (no_id (slice_get (sub_types tables)) c.args.a w.in_default.not-Id-0))
    ]
