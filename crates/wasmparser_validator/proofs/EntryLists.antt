-- Rules and limits of entries, where some stand before others.
use Rattle.std.proofs.Common.{◌≡◌, inr, List, [], ◌∷◌, ◌++◌, refl, subst}
use Rattle.wasm_spec.specs.Features.{Features}
use Rattle.wasm_spec.specs.Limits.{Limit}
use Rattle.wasm_spec.specs.Trees.{DefType}
use Rattle.wasm_validity.specs.Context.{Context, after, after_all}
use Rattle.wasm_validity.specs.Entries.{Entry}
use Rattle.wasm_validity.specs.Rules.{KeepRules, KeepLimits, PassLimit}
use Rattle.wasmparser_module_state.specs.History.{EnterAll, OneFindsNoRoom}
use Rattle.wasmparser_module_state.specs.Judging.{OneRunsOut}

pub after_both : (cx : Context) (es fs : List Entry) → after_all cx (es ++ fs) ≡ after_all (after_all cx es) fs
after_both cx [] fs = refl
after_both cx (e ∷ es) fs = after_both (after cx e) es fs

pub keep_both : (features : Features) (cx : Context) (es fs : List Entry) → KeepRules features cx es → KeepRules features (after_all cx es) fs → KeepRules features cx (es ++ fs)
keep_both features cx [] fs h k = k
keep_both features cx (e ∷ es) fs h k = (h.0, keep_both features (after cx e) es fs h.1 k)

pub keep_others : (features : Features) (cx : Context) (es fs : List Entry) → KeepRules features cx (es ++ fs) → KeepRules features (after_all cx es) fs
keep_others features cx [] fs h = h
keep_others features cx (e ∷ es) fs h = keep_others features (after cx e) es fs h.1

pub within_both : (cx : Context) (es fs : List Entry) → KeepLimits cx es → KeepLimits (after_all cx es) fs → KeepLimits cx (es ++ fs)
within_both cx [] fs h k = k
within_both cx (e ∷ es) fs h k = (h.0, within_both (after cx e) es fs h.1 k)

pub past_others : (limit : Limit) (cx : Context) (es fs : List Entry) → PassLimit limit (after_all cx es) fs → PassLimit limit cx (es ++ fs)
past_others limit cx [] fs h = h
past_others limit cx (e ∷ es) fs h = inr (inr (past_others limit (after cx e) es fs h))

pub enter_both : (features : Features) (cx : Context) (held mid new : List DefType) (es fs : List Entry) → EnterAll features cx held es mid → EnterAll features (after_all cx es) mid fs new
    → EnterAll features cx held (es ++ fs) new
enter_both features cx held mid new [] fs h k = subst (λ q. EnterAll features cx q fs new) h k
enter_both features cx held mid new (e ∷ es) fs h k = (h.0, h.1, enter_both features (after cx e) h.0 mid new es fs h.2 k)

-- where memory runs out for one of the later entries, it does for one of all
pub runs_out_both : (features : Features) (cx : Context) (es fs : List Entry) → KeepRules features cx es → KeepLimits cx es → OneRunsOut features (after_all cx es) fs → OneRunsOut features cx (es ++ fs)
runs_out_both features cx [] fs rules limits h = h
runs_out_both features cx (e ∷ es) fs rules limits h = inr (rules.0, limits.0, runs_out_both features (after cx e) es fs rules.1 limits.1 h)

-- where there is no room for one of the later entries, there is none for one of all
pub no_room_both : (features : Features) (cx : Context) (held mid : List DefType) (es fs : List Entry) → KeepRules features cx es → KeepLimits cx es → EnterAll features cx held es mid
    → OneFindsNoRoom features (after_all cx es) mid fs → OneFindsNoRoom features cx held (es ++ fs)
no_room_both features cx held mid [] fs rules limits h none = subst (λ q. OneFindsNoRoom features cx q fs) h none
no_room_both features cx held mid (e ∷ es) fs rules limits h none = inr (rules.0, limits.0, h.0, h.1, no_room_both features (after cx e) h.0 mid es fs rules.1 limits.1 h.2 none)
