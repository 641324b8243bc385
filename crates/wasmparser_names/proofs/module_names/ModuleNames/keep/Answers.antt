use Rattle.std.proofs.Common.{◌≡◌, ◌++◌, ◌∷◌, [], Some, map, length, sym, ap, subst, ◌∙◌, rules}
use Rattle.std.specs.List.{IsDistinct, list_any}
use Rattle.std.specs.Map.{lookup}
use Rattle.std.specs.Prelude.{bytes_eq, nat_eq, slice_get, false}
use Rattle.std.specs.String.{string_bytes}
use Rattle.wasmparser_names.proofs.ModuleNames.{kept_last, last_hashed, last_place, still_distinct, still_hashed}
use Rattle.wasmparser_names.specs.ModuleNames.{AreHashed, Names}
use Rattle.wasmparser_names.proofs.module_names.ModuleNames.keep.Goals as goal

abbrev At : Type 0
At = goal.After-push_reserved

names_are : (c : At) → map string_bytes c.push_reserved.new.self.items ≡ map string_bytes c.self.inside.names.items ++ c.args.name.now ∷ []
names_are c =
    ap (λ items. map string_bytes items) (c.push_reserved.ensures.items ∙ ap (λ items. items ++ c.in_ok-kept.kept ∷ []) c.in_ok-reserve.ensures.items)
    ∙ kept_last c.self.inside.names.items c.in_ok-kept.kept c.args.name.now c.in_ok-kept.ensures.ok

is_new : (c : At) → list_any (bytes_eq c.args.name.now) (map string_bytes c.self.inside.names.items) ≡ false
is_new c = subst (λ (it : Names). list_any (bytes_eq c.args.name.now) it.names ≡ false) (sym c.self.view_is) c.requires

distinct : (c : At) → IsDistinct bytes_eq (map string_bytes c.push_reserved.new.self.items)
distinct c = subst (IsDistinct bytes_eq) (sym (names_are c)) (still_distinct c.args.name.now (map string_bytes c.self.inside.names.items) c.self.invariant.0 (is_new c))

pub invariant_of-self-2 : goal.invariant_of-self-2
invariant_of-self-2 c =
    let hasher = c.self.inside.hasher in
    let numbers = c.insert.new.self.entries in
    let found = subst (λ hash. lookup (nat_eq hash) numbers ≡ Some c.len-number.result) c.hash_of.ensures c.in_ok-insert.ensures.updates.1 in (
      distinct c,
      subst (AreHashed hasher numbers) (sym (names_are c)) (last_hashed hasher numbers c.args.name.now c.len-number.result found (map string_bytes c.self.inside.names.items)
          (still_hashed hasher c.self.inside.numbers.entries c.hash_of.result c.len-number.result numbers c.in_ok-insert.ensures.updates.0 (map string_bytes c.self.inside.names.items) c.self.invariant.1)),
    )

pub returns-clause-found : goal.returns-clause-found
returns-clause-found c =
    let is : c.len-number.result ≡ length c.self.inside.names.items = search rules in
    ap (λ names. slice_get names c.len-number.result) (names_are c)
    ∙ ap (slice_get (map string_bytes c.self.inside.names.items ++ c.args.name.now ∷ [])) is ∙ last_place c.self.inside.names.items c.args.name.now

pub returns-clause-distinct : goal.returns-clause-distinct
returns-clause-distinct c = distinct c
