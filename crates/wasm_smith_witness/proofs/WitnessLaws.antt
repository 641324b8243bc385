-- A seed that is written of a list of the family is a spelling of it.
use Rattle.std.proofs.Common.{◌≡◌, ℕ, ◌≤◌, ◌<◌, ◌^◌, Bool, true, false, List, [], ◌++◌, length, refl, sym, ap, ◌∙◌, append_assoc, arith}
use Rattle.std.specs.Prelude.{is_some}
use Rattle.std.specs.List.{list_all}
use Rattle.wasm_spec.specs.Types.{SubType}
use Rattle.wasm_smith_config.specs.declared.config.Config.{Config}
use Rattle.wasm_smith_witness.specs.Family.{AreMemberFunctions, IsAskable, IsInFamily, IsMember, types_of}
use Rattle.wasm_smith_witness.specs.Asking.{asks_for_import, asks_for_tag}
use Rattle.wasm_smith_witness.specs.Functions.{AreKept, import_is_asked, place_in, place_word, tag_is_asked}
use Rattle.wasm_smith_witness.specs.Spelling.{Spells}
use Rattle.wasm_smith_witness.specs.Words.{each_word, index_word, module_word, no_word, types_word}
use Rattle.wasm_smith_witness.specs.declared.functions.FunctionTypes.{FunctionTypes}
use Rattle.wasm_smith_witness.proofs.MemberLaws.{types_small}
use Rattle.wasm_smith_witness.proofs.SpellLaws.{member_types_spell, no_spells}
use Rattle.wasm_smith_witness.proofs.AskingLaws.{import_known, tag_known}
use Rattle.wasm_smith_witness.proofs.FunctionLaws.{all_known, functions_spell, words_known}

joined : (a b d e : List ℕ) → (a ++ (b ++ d)) ++ e ≡ a ++ (b ++ (d ++ e))
joined a b d e = simp append_assoc

module_spells : (c : Config) (groups : List (List (SubType ℕ))) (funcs : List ℕ) → IsAskable c → IsMember c groups funcs → Spells c groups funcs (module_word c groups funcs)
module_spells c groups funcs asked m =
    let small : c.max_types ≤ 2 ^ 31 = types_small c asked in
    let few : length (types_of groups) < 2 ^ 32 = omega (arith, small, m.types_fit.few) in
    record {
      front = types_word c groups;
      imports = no_word (asks_for_import c (types_of groups));
      tags = no_word (asks_for_tag c (types_of groups));
      back = each_word (index_word (types_of groups)) funcs;
      parts = refl;
      spells_groups = member_types_spell c groups (omega (arith, small)) m.types_fit;
      spells_imports = no_spells (asks_for_import c (types_of groups));
      spells_tags = no_spells (asks_for_tag c (types_of groups));
      spells_funcs = functions_spell (types_of groups) c.max_funcs funcs few m.functions_fit.each m.functions_fit.few;
    }

pub member_spelled : (c : Config) (groups : List (List (SubType ℕ))) (funcs : List ℕ) → IsAskable c → IsMember c groups funcs → (s : List ℕ) × Spells c groups funcs s
member_spelled c groups funcs asked member = (module_word c groups funcs, module_spells c groups funcs asked member)

pub seed_spells : (c : Config) (groups : List (List (SubType ℕ))) (funcs none one two seed : List ℕ) (known : FunctionTypes) → IsInFamily c groups funcs → AreKept known [] (types_of groups) → none ≡ []
    → one ≡ none ++ types_word c groups → two ≡ one ++ (no_word (import_is_asked c known) ++ no_word (tag_is_asked c known))
    → seed ≡ two ++ each_word (λ index. place_word known (place_in known index)) funcs → Spells c groups funcs seed
seed_spells c groups funcs none one two seed known family kept empty first second third =
    let imports : import_is_asked c known ≡ asks_for_import c (types_of groups) = import_known c known (types_of groups) kept in
    let tags : tag_is_asked c known ≡ asks_for_tag c (types_of groups) = tag_known c known (types_of groups) kept in
    let words : each_word (λ index. place_word known (place_in known index)) funcs ≡ each_word (index_word (types_of groups)) funcs = words_known known (types_of groups) kept funcs family.member.functions_fit.each in
    let written : seed ≡ module_word c groups funcs = seed_written imports tags words in
    rw written (module_spells c groups funcs family.askable family.member)
  where
    seed_written : import_is_asked c known ≡ asks_for_import c (types_of groups) → tag_is_asked c known ≡ asks_for_tag c (types_of groups)
        → each_word (λ index. place_word known (place_in known index)) funcs ≡ each_word (index_word (types_of groups)) funcs → seed ≡ module_word c groups funcs
    seed_written imports tags words =
        third
        ∙ ap (λ w. w ++ each_word (λ index. place_word known (place_in known index)) funcs) (second ∙ ap (λ w. w ++ (no_word (import_is_asked c known) ++ no_word (tag_is_asked c known))) (first ∙ ap (λ w. w ++ types_word c groups) empty))
        ∙ ap (λ w. (types_word c groups ++ (no_word (import_is_asked c known) ++ no_word (tag_is_asked c known))) ++ w) words
        ∙ ap (λ b. (types_word c groups ++ (no_word b ++ no_word (tag_is_asked c known))) ++ each_word (index_word (types_of groups)) funcs) imports
        ∙ ap (λ b. (types_word c groups ++ (no_word (asks_for_import c (types_of groups)) ++ no_word b)) ++ each_word (index_word (types_of groups)) funcs) tags
        ∙ joined (types_word c groups) (no_word (asks_for_import c (types_of groups))) (no_word (asks_for_tag c (types_of groups))) (each_word (index_word (types_of groups)) funcs)

-- ---- what the tests tell

pub functions_fit : (c : Config) (groups : List (List (SubType ℕ))) (funcs : List ℕ) (known : FunctionTypes) (all : Bool) → AreKept known [] (types_of groups) → all ≡ list_all (λ index. is_some (place_in known index)) funcs → all ≡ true
    → length funcs ≤ c.max_funcs → AreMemberFunctions c (types_of groups) funcs
functions_fit c groups funcs known all kept is on few = record { each = sym (all_known known (types_of groups) kept funcs) ∙ sym is ∙ on; few = few }

pub no_family : (c : Config) (groups : List (List (SubType ℕ))) (funcs : List ℕ) (known : FunctionTypes) (all : Bool) → AreKept known [] (types_of groups) → all ≡ list_all (λ index. is_some (place_in known index)) funcs → all ≡ false
    → IsInFamily c groups funcs → ⊥
no_family c groups funcs known all kept is off family =
    let both : false ≡ true = sym off ∙ is ∙ all_known known (types_of groups) kept funcs ∙ family.member.functions_fit.each in
    absurd cc
