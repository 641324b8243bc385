use Rattle.std.proofs.Common.{◌≡◌, ◌+◌, ◌≤◌, ◌∙◌, length, ap, sym, subst, arith, true}
use Rattle.std.proofs.lemmas.Bool.{leb-true}
use Rattle.std.proofs.lemmas.List.{length-map}
use Rattle.wasmparser_types.specs.RecGroups.{members, rec_group}
use Rattle.wasmparser_types.specs.SubTypes.{sub_type}
use Rattle.wasmparser_type_list.specs.TypeTables.{Adds, AreWithin, IsKeyOf, max_types}
use Rattle.wasmparser_type_list.proofs.Agreement.{adds_as, found_is_known, key_holds, known_group_is, nothing, still_agree}
use Rattle.wasmparser_type_list.proofs.type_list.TypeList.intern_with_room.Goals as goal

pub returns-clause-agree : goal.returns-clause-agree
returns-clause-agree c =
    let old = c.args.self.now in
    let new = c.add.new.self in
    let group = members (rec_group c.args.rec_group) in
    let adds = subst (λ g. Adds old new g c.in_ok-id.id) c.in_ok-types.ensures.types c.in_ok-id.ensures.added in
    let key_is = subst (λ g. IsKeyOf c.args.needs_type_canonicalization g c.in_ok-key.key) c.types.ensures c.in_ok-key.ensures in
    let room : length old.types + length group ≤ max_types = leb-true (length old.types + length group) max_types c.requires.room in
    still_agree old new group c.in_ok-id.id c.requires.agree adds c.requires.within c.in_ok-key.key (key_holds c.args.needs_type_canonicalization group c.in_ok-key.key key_is) c.in_ok-id.ensures.entered room

pub returns-clause-interned : goal.returns-clause-interned
returns-clause-interned c =
    let old = c.args.self.now in
    let new = c.add.new.self in
    let group = members (rec_group c.args.rec_group) in
    let adds = subst (λ g. Adds old new g c.in_ok-id.id) c.in_ok-types.ensures.types c.in_ok-id.ensures.added in
    let key_is = subst (λ g. IsKeyOf c.args.needs_type_canonicalization g c.in_ok-key.key) c.types.ensures c.in_ok-key.ensures in
    adds_as old new group c.in_ok-id.id c.args.needs_type_canonicalization c.in_ok-key.key adds key_is c.in_ok-id.ensures.entered (sym c.find.ensures ∙ nothing c.find.result c.in_default.not-Some) c.requires.grows

pub add-requires-clause-within : goal.add-requires-clause-within
add-requires-clause-within c = subst (AreWithin (length c.args.self.now.types)) (sym c.in_ok-types.ensures.types) c.requires.within

pub returns-in-Some-clause-known : goal.returns-in-Some-clause-known
returns-in-Some-clause-known c =
    let group = members (rec_group c.args.rec_group) in
    let canonical = c.args.needs_type_canonicalization in
    let key_is = subst (λ g. IsKeyOf canonical g c.in_ok-key.key) c.types.ensures c.in_ok-key.ensures in
    known_group_is c.args.self.now group c.in-Some.id c.requires.agree
    (found_is_known c.args.self.now.known canonical group c.in_ok-key.key c.in-Some.id key_is (sym c.find.ensures ∙ c.in-Some.is))
