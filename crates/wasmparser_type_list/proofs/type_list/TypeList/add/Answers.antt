use Rattle.std.proofs.Common.{◌≡◌, ◌+◌, [], ◌∷◌, ◌++◌, length, map, replicate, arith, ap, ◌∙◌}
use Rattle.std.proofs.lemmas.List.{length-map, map-append}
use Rattle.wasm_spec.specs.TypeReferences.{subs_map}
use Rattle.wasmparser_types.specs.SubTypes.{sub_type}
use Rattle.wasmparser_type_relations.specs.Chains.{chains_after}
use Rattle.wasmparser_type_list.specs.TypeTables.{absolute, sub_types}
use Rattle.wasmparser_type_list.proofs.TableLaws.{rec_groups_count, all_chains, can_be_absolute, same_count, added_chains, same_range}
use Rattle.wasmparser_type_list.proofs.type_list.TypeList.add.Goals as goal

pub make_absolute-requires : goal.make_absolute-requires
make_absolute-requires c =
    can_be_absolute (length c.args.self.now.types) c.len-first.result (map sub_type c.args.types.items) (c.len-first.ensures ∙ ap (λ t. length t.types) c.self.view_is)
    (omega (arith, c.requires.room, length-map c.args.types.items sub_type)) c.requires.within

pub group_chains-requires : goal.group_chains-requires
group_chains-requires c =
    let old = ap (λ t. length t.chains) c.self.view_is in
    let count = same_count (absolute c.len-first.result) c.make_absolute.new.types.items c.args.types.items c.make_absolute.ensures in
    record { count = omega (arith, old, all_chains c.args.self.now c.requires.agree, ap length c.deref.ensures.value, count, c.requires.room) }

pub append_reserved-requires-2-clause-count : goal.append_reserved-requires-2-clause-count
append_reserved-requires-2-clause-count c =
    let old = ap length c.in_ok-reserve.ensures.rec_groups ∙ ap (λ t. length t.rec_groups) c.self.view_is in
    omega (arith, old, rec_groups_count c.args.self.now c.requires.agree, c.in_ok-rec_groups.ensures.len, c.in_ok-rec_groups.rec_groups.ok.0, c.len-count.ensures, c.args.types.ok.0, c.requires.room)

pub append_reserved-requires-3-clause-room : goal.append_reserved-requires-3-clause-room
append_reserved-requires-3-clause-room c =
    let added = added_chains c.self.inside.core_type_to_chain.items c.in_ok-chains.chains.items (map sub_type c.deref.result.now) c.in_ok-chains.ensures in
    let count = same_count (absolute c.len-first.result) c.make_absolute.new.types.items c.args.types.items c.make_absolute.ensures in
    omega (arith, added, length-map c.deref.result.now sub_type, ap length c.deref.ensures.value, count, c.in_ok-reserve.ensures.room.2, c.len-count.ensures, c.args.types.ok.0)

pub append_reserved-requires-3-clause-count : goal.append_reserved-requires-3-clause-count
append_reserved-requires-3-clause-count c =
    let old = ap length c.in_ok-reserve.ensures.chains ∙ ap (λ t. length t.chains) c.self.view_is in
    let added = added_chains c.self.inside.core_type_to_chain.items c.in_ok-chains.chains.items (map sub_type c.deref.result.now) c.in_ok-chains.ensures in
    let count = same_count (absolute c.len-first.result) c.make_absolute.new.types.items c.args.types.items c.make_absolute.ensures in
    omega (arith, old, all_chains c.args.self.now c.requires.agree, added, length-map c.deref.result.now sub_type, ap length c.deref.ensures.value, count, c.requires.room)

pub returns-clause-added : goal.returns-clause-added
returns-clause-added c =
    let old = c.args.self.now in
    let first_is : c.len-first.result ≡ length old.types = c.len-first.ensures ∙ ap (λ t. length t.types) c.self.view_is in
    let group = map sub_type c.args.types.items in
    let absolutes : map sub_type c.make_absolute.new.types.items ≡ subs_map (absolute (length old.types)) group =
    c.make_absolute.ensures ∙ ap (λ n. subs_map (absolute n) group) first_is in
    let types_are : c.append_reserved.new.self.items ≡ old.types ++ c.make_absolute.new.types.items =
    c.append_reserved.ensures ∙ ap (λ q. q ++ c.make_absolute.new.types.items) (c.in_ok-reserve.ensures.types ∙ ap (λ t. t.types) c.self.view_is) in
    let id = c.in_ok-id.id in
    let count_is : c.len-count.result ≡ length group = omega (arith, c.len-count.ensures, c.args.types.ok.0, length-map c.args.types.items sub_type) in
    let last_is : c.from_index-end.result ≡ length old.types + length group = omega (arith, c.from_index-end.ensures, first_is, count_is) in
    record {
      number_is = c.in_ok-id.ensures.next;
      kept = (c.make_absolute.new.types.items, types_are);
      types = ap (map sub_type) types_are ∙ map-append sub_type old.types c.make_absolute.new.types.items ∙ ap (λ q. sub_types old ++ q) absolutes;
      rec_groups = c.append_reserved-2.ensures
          ∙ ap (λ q. q ++ c.in_ok-rec_groups.rec_groups.items) (c.in_ok-reserve.ensures.rec_groups ∙ ap (λ t. t.rec_groups) c.self.view_is)
          ∙ ap (λ q. old.rec_groups ++ q) (c.in_ok-rec_groups.ensures.items_if_clones_equal (λ y e. e) ∙ ap (λ n. replicate n id) count_is);
      chains = c.append_reserved-3.ensures ∙ ap (λ q. q ++ c.in_ok-chains.chains.items) c.in_ok-reserve.ensures.chains
          ∙ c.in_ok-chains.ensures ∙ ap (λ t. chains_after t.chains (map sub_type c.deref.result.now)) c.self.view_is
          ∙ ap (λ q. chains_after old.chains (map sub_type q)) c.deref.ensures.value ∙ ap (chains_after old.chains) absolutes;
      groups = c.push_reserved.ensures.pushed
          ∙ ap (λ q. q ++ record { start = c.from_index.result; end = c.from_index-end.result } ∷ []) (c.in_ok-reserve.ensures.groups ∙ ap (λ t. t.groups) c.self.view_is)
          ∙ ap (λ r. old.groups ++ r ∷ []) (same_range c.from_index.result c.from_index-end.result (length old.types) (length group) (c.from_index.ensures ∙ first_is) last_is);
    }
