-- The first bad key of a table, entry by entry.
use Rattle.std.proofs.Common.{◌≡◌, ◌||◌, is_none, List, [], ◌∷◌, true, false, Some, None, string_bytes, ap, ◌∙◌}
use Rattle.toml.specs.View.{members_view, view}
use Rattle.toml.proofs.Views.{Entry}
use Rattle.wasm_gen_config.specs.Fields.{takes}
use Rattle.wasm_gen_config.specs.Settings.{first_bad, takes_other}

-- an entry that is bad
pub bad_here : (all rest : List Entry) (e : Entry) → all ≡ e ∷ rest → (is_none (takes (string_bytes e.0)) || takes_other (takes (string_bytes e.0)) (view e.1)) ≡ true
    → first_bad (members_view all) ≡ Some (string_bytes e.0, takes (string_bytes e.0))
unfolding first_bad
bad_here all rest e is bad = ap (λ es. first_bad (members_view es)) is ∙ rw bad

-- an entry that isn't
pub bad_later : (all rest : List Entry) (e : Entry) → all ≡ e ∷ rest → (is_none (takes (string_bytes e.0)) || takes_other (takes (string_bytes e.0)) (view e.1)) ≡ false
    → first_bad (members_view all) ≡ first_bad (members_view rest)
unfolding first_bad
bad_later all rest e is good = ap (λ es. first_bad (members_view es)) is ∙ rw good

-- no entry
pub bad_none : (all : List Entry) → all ≡ [] → first_bad (members_view all) ≡ None
unfolding first_bad
bad_none all is = ap (λ es. first_bad (members_view es)) is
