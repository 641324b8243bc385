use Rattle.std.proofs.Common.{◌≡◌, ◌∙◌, Some, ap, inl, inr, sym}
use Rattle.std.specs.Option.{option_copied}
use Rattle.wasmparser_types.specs.SubTypes.{sub_type}
use Rattle.wasmparser_type_list.proofs.KeptReferences.{matches_by_id, no_match}
use Rattle.wasmparser_type_list.proofs.TableLaws.{stands_for}
use Rattle.wasmparser_type_list.proofs.type_list.TypeList.matches.Goals as goal

pub returns-in-Some-Some : goal.returns-in-Some-Some
returns-in-Some-Some c =
    let tables = c.args.self.now in
    let at_a = sym (stands_for tables c.args.a _ (ap option_copied (sym c.in-Some-Some.is-0) ∙ c.get.ensures)) in
    let at_b = sym (stands_for tables c.args.b _ (ap option_copied (sym c.in-Some-Some.is-1) ∙ c.get-2.ensures)) in
    let same_a : c.in-Some-Some.lower.now ≡ c.map-a.result.inner.now = search in
    let same_b : c.in-Some-Some.upper.now ≡ c.map-b.result.inner.now = search in
    matches_by_id tables c.requires.agree _ c.args.a c.args.b c.map-a.result.rec_group_id c.map-b.result.rec_group_id
    (sub_type c.map-a.result.inner.now) (sub_type c.map-b.result.inner.now)
    (at_a ∙ ap (λ it. Some (sub_type it)) same_a) (at_b ∙ ap (λ it. Some (sub_type it)) same_b) c.matches.ensures

pub returns-in_default : goal.returns-in_default
returns-in_default c =
    let tables = c.args.self.now in
    let none = sym (stands_for tables c.args.b _ (ap option_copied (sym c.in_default.is-1) ∙ c.get-2.ensures)) in (
      (λ h. absurd cc),
      (λ m. absurd (no_match tables c.requires.agree c.args.a c.args.b (inr none) m)),
    )

pub returns-in_default-2 : goal.returns-in_default-2
returns-in_default-2 c =
    let tables = c.args.self.now in
    let none = sym (stands_for tables c.args.a _ (ap option_copied (sym c.in_default.is-0) ∙ c.get.ensures)) in (
      (λ h. absurd cc),
      (λ m. absurd (no_match tables c.requires.agree c.args.a c.args.b (inl none) m)),
    )
