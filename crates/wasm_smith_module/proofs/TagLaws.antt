-- Tags are drawn before functions, tables and memories, but stand behind them in a module: the rules on these don't look at tags, and those on tags look at
-- types alone.
use Rattle.std.proofs.Common.{◌≡◌, ℕ, ◌&&◌, List, [], ◌∷◌, ◌++◌, map, refl, ap, sym, ◌∙◌, subst, append_assoc}
use Rattle.std.proofs.lemmas.Bool.{and_parts}
use Rattle.std.proofs.lemmas.List.{append-nil}
use Rattle.wasm_spec.specs.Features.{Features, Exceptions, has}
use Rattle.wasm_spec.specs.Syntax.{Table}
use Rattle.wasm_spec.specs.Types.{MemoryType}
use Rattle.wasm_validity.specs.Entries.{Entry}
use Rattle.wasm_smith_config.specs.Config.{AreFeaturesOf}
use Rattle.wasm_smith_config.specs.declared.config.Config.{Config}
use Rattle.wasm_smith_externs.specs.Wanted.{of_function, of_tag}
use Rattle.wasm_smith_definitions.specs.Kinds.{of_memory, of_table}
use Rattle.wasm_smith_definitions.specs.Steps.{IsStep}
use Rattle.wasm_smith_definitions.proofs.FrameLaws.{kept}
use Rattle.wasm_smith_definitions.proofs.StepLaws.{keep_append, known_append}
use Rattle.wasm_smith_validity.specs.Rules.{KeepAll, KeepsRule, may_be_thrown}
use Rattle.wasm_smith_validity.specs.Spaces.{Spaces, func_type_at, spaces_after, spaces_after_all}
use Rattle.wasm_smith_validity.proofs.MadeSections.{of_tags}

-- ---- entries, one after the other

-- The entries keep their rules under the features of a configuration, and the spaces grow by them alone.
pub record Leads (c : Config) (old new : Spaces) (entries : List Entry) : Type 0 where
  pub keep : (features : Features) → AreFeaturesOf c features → KeepAll features old entries
  pub known : new ≡ spaces_after_all old entries

pub leads_by : {A : Type 0} (c : Config) (entry : A → Entry) (old new : Spaces) (xs : List A) → IsStep c entry old new xs → Leads c old new (map entry xs)
leads_by c entry old new xs h = record { keep = h.keep; known = h.known }

pub leads_on : (c : Config) (old mid new : Spaces) (xs ys : List Entry) → Leads c old mid xs → Leads c mid new ys → Leads c old new (xs ++ ys)
leads_on c old mid new xs ys h g = record {
  keep = λ features f. keep_append features old xs ys (h.keep features f) (subst (λ k. KeepAll features k ys) h.known (g.keep features f));
  known = g.known ∙ ap (λ k. spaces_after_all k ys) h.known ∙ sym (known_append old xs ys);
}

-- ---- kinds that don't look at tags

abbrev with_tags : List ℕ → Spaces → Spaces
with_tags tags k = record k { tags = tags }

record IgnoresTags {A : Type 0} (entry : A → Entry) : Type 0 where
  rule : (features : Features) (k : Spaces) (tags : List ℕ) (x : A) → KeepsRule features (with_tags tags k) (entry x) → KeepsRule features k (entry x)
  after : (k : Spaces) (tags : List ℕ) (x : A) → spaces_after (with_tags tags k) (entry x) ≡ with_tags tags (spaces_after k (entry x))

functions_ignore : IgnoresTags of_function
functions_ignore = record { rule = λ features k tags x h. h; after = λ k tags x. refl }

tables_ignore : IgnoresTags of_table
tables_ignore = record { rule = λ features k tags x h. record { type = h.type; filled = h.filled; initialiser = h.initialiser }; after = λ k tags x. refl }

memories_ignore : IgnoresTags of_memory
memories_ignore = record { rule = λ features k tags x h. h; after = λ k tags x. refl }

keep_without : {A : Type 0} (entry : A → Entry) → IgnoresTags entry → (features : Features) (k : Spaces) (tags : List ℕ) (xs : List A) → KeepAll features (with_tags tags k) (map entry xs)
    → KeepAll features k (map entry xs)
keep_without entry i features k tags [] h = tt
keep_without entry i features k tags (x ∷ xs) h = (
  i.rule features k tags x h.0,
  keep_without entry i features (spaces_after k (entry x)) tags xs (subst (λ known. KeepAll features known (map entry xs)) (i.after k tags x) h.1),
)

after_without : {A : Type 0} (entry : A → Entry) → IgnoresTags entry → (k : Spaces) (tags : List ℕ) (xs : List A) → spaces_after_all (with_tags tags k) (map entry xs) ≡ with_tags tags (spaces_after_all k (map entry xs))
after_without entry i k tags [] = refl
after_without entry i k tags (x ∷ xs) =
    ap (λ known. spaces_after_all known (map entry xs)) (i.after k tags x) ∙ after_without entry i (spaces_after k (entry x)) tags xs

-- a step in spaces with tags, as one in the spaces that have none of these
leads_without : {A : Type 0} (c : Config) (entry : A → Entry) → IgnoresTags entry → (k old new : Spaces) (tags : List ℕ) (xs : List A) → old ≡ with_tags tags k → IsStep c entry old new xs
    → Leads c k (spaces_after_all k (map entry xs)) (map entry xs)
leads_without c entry i k old new tags xs e h = record {
  keep = λ features f. keep_without entry i features k tags xs (subst (λ known. KeepAll features known (map entry xs)) e (h.keep features f));
  known = refl;
}

new_without : {A : Type 0} (c : Config) (entry : A → Entry) → IgnoresTags entry → (k old new : Spaces) (tags : List ℕ) (xs : List A) → old ≡ with_tags tags k → IsStep c entry old new xs
    → new ≡ with_tags tags (spaces_after_all k (map entry xs))
new_without c entry i k old new tags xs e h = h.known ∙ ap (λ known. spaces_after_all known (map entry xs)) e ∙ after_without entry i k tags xs

-- ---- tags

after_tags : (k : Spaces) (ts : List ℕ) → spaces_after_all k (map of_tag ts) ≡ with_tags (k.tags ++ ts) k
after_tags k [] = ap (λ tags. with_tags tags k) (sym (append-nil k.tags))
after_tags k (t ∷ ts) = after_tags (with_tags (k.tags ++ t ∷ []) k) ts ∙ ap (λ tags. with_tags tags k) (append_assoc k.tags (t ∷ []) ts)

tags_elsewhere : (features : Features) (k other : Spaces) → other.types ≡ k.types → (ts : List ℕ) → KeepAll features k (map of_tag ts) → KeepAll features other (map of_tag ts)
tags_elsewhere features k other types [] h = tt
tags_elsewhere features k other types (t ∷ ts) h = (
  ap (λ it. has features Exceptions && may_be_thrown features (func_type_at it t)) types ∙ h.0,
  tags_elsewhere features (spaces_after k (of_tag t)) (spaces_after other (of_tag t)) types ts h.1,
)

leads_tags : (c : Config) (k other old new : Spaces) (ts : List ℕ) → other.types ≡ k.types → other.tags ≡ k.tags → new ≡ with_tags (k.tags ++ ts) other → IsStep c of_tag k old ts → Leads c other new (of_tags ts)
leads_tags c k other old new [] types tags e h = record { keep = λ features f. tt; known = e ∙ ap (λ all. with_tags all other) (append-nil k.tags ∙ sym tags) }
leads_tags c k other old new (t ∷ ts) types tags e h = record {
  keep = λ features f.
      let all = tags_elsewhere features k other types (t ∷ ts) (h.keep features f) in
      ((and_parts (has features Exceptions) (may_be_thrown features (func_type_at other.types t)) all.0).0, all);
  known = e ∙ ap (λ all. with_tags (all ++ t ∷ ts) other) (sym tags) ∙ sym (after_tags other (t ∷ ts));
}

-- ---- tags behind memories

pub moved_tags : (c : Config) (k tagged with_funcs with_tables with_memories new : Spaces) (tags funcs : List ℕ) (tables : List Table) (memories : List MemoryType) (rest : List Entry)
    → IsStep c of_tag k tagged tags → IsStep c of_function tagged with_funcs funcs → IsStep c of_table with_funcs with_tables tables → IsStep c of_memory with_tables with_memories memories
    → Leads c with_memories new rest
    → Leads c k new (map of_function funcs ++ (map of_table tables ++ (map of_memory memories ++ (of_tags tags ++ rest))))
moved_tags c k tagged with_funcs with_tables with_memories new tags funcs tables memories rest t f b m others =
    let all = k.tags ++ tags in
    let a = spaces_after_all k (map of_function funcs) in
    let d = spaces_after_all a (map of_table tables) in
    let e = spaces_after_all d (map of_memory memories) in
    let tagged_is : tagged ≡ with_tags all k = t.known ∙ after_tags k tags in
    let funcs_is = new_without c of_function functions_ignore k tagged with_funcs all funcs tagged_is f in
    let tables_is = new_without c of_table tables_ignore a with_funcs with_tables all tables funcs_is b in
    let memories_is = new_without c of_memory memories_ignore d with_tables with_memories all memories tables_is m in
    let types : e.types ≡ k.types = kept (λ s. s.types) of_memory (λ s x. refl) d memories ∙ kept (λ s. s.types) of_table (λ s x. refl) a tables ∙ kept (λ s. s.types) of_function (λ s x. refl) k funcs in
    let same : e.tags ≡ k.tags = kept (λ s. s.tags) of_memory (λ s x. refl) d memories ∙ kept (λ s. s.tags) of_table (λ s x. refl) a tables ∙ kept (λ s. s.tags) of_function (λ s x. refl) k funcs in
    leads_on c k a new (map of_function funcs) _ (leads_without c of_function functions_ignore k tagged with_funcs all funcs tagged_is f)
    (leads_on c a d new (map of_table tables) _ (leads_without c of_table tables_ignore a with_funcs with_tables all tables funcs_is b)
    (leads_on c d e new (map of_memory memories) _ (leads_without c of_memory memories_ignore d with_tables with_memories all memories tables_is m)
    (leads_on c e with_memories new (of_tags tags) rest (leads_tags c k e tagged with_memories tags types same memories_is t) others)))
