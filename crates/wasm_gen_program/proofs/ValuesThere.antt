-- Each argument that was found has a value, where nothing is wrong with the words of a command that has no commands of its own.
use Rattle.std.proofs.Common.{◌≡◌, ◌<◌, ℕ, zero, suc, Bool, true, false, List, [], ◌∷◌, ◌++◌, length, drop, cond, Option, Some, None, refl, arith, subst, sym}
use Rattle.std.proofs.lemmas.List.{length-append}
use Rattle.std.specs.Prelude.{⊤, ◌&&◌, if◌then◌else◌, is_some, find, fold, slice_get, encode_utf8, option_and_then}
use Rattle.std.specs.Option.{option_map_or}
use Rattle.std.specs.Str.{bytes_eq, chars}
use Rattle.clap.specs.Faults.{bundle_fault, bundle_step_fault, flag_word_fault, flags_fault, level_fault, check_fault, long_fault, option_fault, positional_fault, react_fault, settle_fault, short_fault, step_fault, turn_fault, use_fault, walk_fault, word_fault, defaults_fault}
use Rattle.clap.specs.Kinds.{Kinds, or_else}
use Rattle.clap.specs.Lexer.{long_of, short_of}
use Rattle.clap.specs.Simple.{Shape}
use Rattle.clap.specs.Takes.{is_given}
use Rattle.clap.specs.Facts.{explicit_source}
use Rattle.clap.specs.Walk.{Held, Outcome, Row, Rule, Step, Text, Waiting, Walk, action_of, after_flag, after_step, arg_by_id, arg_by_index, arg_by_long, arg_by_short, at_row, attached_value, bundle, bundle_met, bundle_step, default_rows, done, first_of, flag_met, has_row, idle, is_pending, long_met, long_or_other, more_values, next, nothing_held, option, option_met, option_word, plain, plain_word, positional, pushed, reacted, reading_by, refused, rows_after, settled, settled_rows, short_met, short_or_plain, subcommand, takes_several, takes_values, to_positional, trailing, used, used_as, used_by_id, value, values_or_missing, waits, walk, walk_from, walked, walked_from, with_default, with_values, without, word_met}
use Rattle.clap.specs.declared.builder.action.ArgAction.{ArgAction}
use Rattle.clap.specs.declared.builder.action.ArgAction.TheVariants.{Set, Append, SetTrue, SetFalse, Count, Help, HelpShort, HelpLong, Version}
use Rattle.clap.specs.declared.builder.value_parser.Reading.{Reading}
use Rattle.clap.specs.declared.error.kind.ErrorKind.TheVariants as kind
use Rattle.clap.specs.declared.parser.matches.ValueSource.{ValueSource}
use Rattle.clap.specs.declared.parser.matches.ValueSource.TheVariants.{CommandLine, DefaultValue}

-- each row has a value
abbrev pub AreThere : List Row → Type 0
AreThere [] = ⊤
AreThere (r ∷ rows) = (0 < length r.values) × AreThere rows

append_there : (xs ys : List Row) → AreThere xs → AreThere ys → AreThere (xs ++ ys)
append_there [] ys p q = q
append_there (x ∷ xs) ys p q = (p.0, append_there xs ys p.1 q)

either_there : (b : Bool) (xs ys : List Row) → AreThere xs → AreThere ys → AreThere (if b then xs else ys)
either_there true xs ys p q = p
either_there false xs ys p q = q

module _ (id : Text) (change : Row → List Row) (missing : List Row) (changed : (r : Row) → 0 < length r.values → AreThere (change r)) (new : AreThere missing) where
  at_row_there : (rows : List Row) → AreThere rows → AreThere (at_row id change missing rows)
  at_row_there [] p = new
  at_row_there (r ∷ rows) p =
      either_there (bytes_eq r.id id) (change r ++ rows) (r ∷ at_row id change missing rows) (append_there (change r) rows (changed r p.0) p.1) (p.0, at_row_there rows p.1)

without_there : (id : Text) (rows : List Row) → AreThere rows → AreThere (without id rows)
without_there id rows p = at_row_there id (λ _. []) [] (λ r h. tt) tt rows p

module _ (id : Text) (how : Reading) (s : ValueSource) (v : Text) (vs : List Text) where
  values_there : (rows : List Row) → AreThere rows → AreThere (with_values id how s (v ∷ vs) rows)
  values_there rows p =
      at_row_there id (more_values s (v ∷ vs)) (record { id = id; values = v ∷ vs; count = None; source = Some s; reading = how } ∷ [])
      (λ r h. (rw (length-append r.values (v ∷ vs)) (omega arith), tt)) (omega arith, tt) rows p

used_as_there : (action : ArgAction) (id : Text) (how : Reading) (v : Text) (vs : List Text) (rows : List Row) → AreThere rows → AreThere (used_as action id how (v ∷ vs) rows)
used_as_there Set id how v vs rows p = values_there id how CommandLine v vs (without id rows) (without_there id rows p)
used_as_there SetTrue id how v vs rows p = values_there id how CommandLine v vs (without id rows) (without_there id rows p)
used_as_there SetFalse id how v vs rows p = values_there id how CommandLine v vs (without id rows) (without_there id rows p)
used_as_there Append id how v vs rows p = values_there id how CommandLine v vs rows p
used_as_there Count id how v vs rows p = values_there id how CommandLine v vs (without id rows) (without_there id rows p)
used_as_there Help id how v vs rows p = p
used_as_there HelpShort id how v vs rows p = p
used_as_there HelpLong id how v vs rows p = p
used_as_there Version id how v vs rows p = p

used_there : (a : Rule) (values : List Text) (rows : List Row) → 0 < length (values_or_missing a values) → AreThere rows → AreThere (used a values rows)
used_there a values rows has p = go (values_or_missing a values) has
  where
    go : (vs : List Text) → 0 < length vs → AreThere (used_as (action_of a) a.id (reading_by a) vs rows)
    go [] has = absurd (omega arith)
    go (v ∷ vs) has = used_as_there (action_of a) a.id (reading_by a) v vs rows p

-- an argument that is used without a fault has a value
abbrev pub Fits : Rule → Type 0
Fits a = (again : Bool) (values : List Text) (rows : List Row) → use_fault again a values rows ≡ [] → 0 < length (values_or_missing a values)

abbrev pub AllFit : List Rule → Type 0
AllFit [] = ⊤
AllFit (a ∷ c) = Fits a × AllFit c

abbrev OnRule : Option Rule → Type 0
OnRule None = ⊤
OnRule (Some a) = Fits a

either_rule : (b : Bool) (x y : Option Rule) → OnRule x → OnRule y → OnRule (cond b x y)
either_rule true x y p q = p
either_rule false x y p q = q

found_fits : (test : Rule → Bool) (c : List Rule) → AllFit c → OnRule (find test c)
found_fits test [] all = tt
found_fits test (a ∷ c) all = either_rule (test a) (Some a) (find test c) all.0 (found_fits test c all.1)

pub first_nil : (a b : Kinds) → or_else a b ≡ [] → a ≡ []
first_nil [] b e = refl
first_nil (k ∷ ks) b e = absurd cc

pub second_nil : (a b : Kinds) → or_else a b ≡ [] → b ≡ []
second_nil [] b e = e
second_nil (k ∷ ks) b e = absurd cc

plain_rows : (c : List Rule) (waiting : Waiting) (word : Text) (h : Held) → (plain_word c waiting word h).0.rows ≡ h.rows
plain_rows c idle word h = refl
plain_rows c positional word h = refl
plain_rows c (option id) word h = go (arg_by_id c id)
  where
    go : (o : Option Rule) → (option_word o id word h).0.rows ≡ h.rows
    go None = refl
    go (Some a) = refl

flag_rows : (c : List Rule) (waiting : Waiting) (word : Text) (h : Held) (out : Outcome) → (after_flag c waiting word h out).0.rows ≡ h.rows
flag_rows c waiting word h done = refl
flag_rows c waiting word h (waits id) = refl
flag_rows c waiting word h plain = plain_rows c waiting word h
flag_rows c waiting word h refused = plain_rows c waiting word h

module _ (c : List Rule) (again : Bool) (all : AllFit c) where
  settled_there : (pending : Option (Text × List Text)) (rows : List Row) → AreThere rows
      → option_map_or (λ p. option_map_or (λ a. use_fault again a p.1 rows) (arg_by_id c p.0) []) pending [] ≡ [] → AreThere (settled_rows c pending rows)
  settled_there None rows p e = p
  settled_there (Some (id, values)) rows p e = go (arg_by_id c id) (found_fits _ c all) e
    where
      go : (o : Option Rule) → OnRule o → option_map_or (λ a. use_fault again a values rows) o [] ≡ [] → AreThere (used_by_id o values rows)
      go None fits e = p
      go (Some a) fits e = used_there a values rows (fits again values rows e) p

  reacted_there : (a : Rule) → Fits a → (values : List Text) (h : Held) → AreThere h.rows → react_fault c again a values h ≡ [] → AreThere (reacted c a values h).rows
  reacted_there a fits values h p e =
      used_there a values (settled c h).rows (fits again values (settled c h).rows (second_nil _ _ e)) (settled_there h.pending h.rows p (first_nil _ _ e))

  option_there : (a : Rule) → Fits a → (v : Option Text) (h : Held) → AreThere h.rows → option_fault c again a v h ≡ [] → AreThere (option_met c a v h).0.rows
  option_there a fits None h p e = settled_there h.pending h.rows p e
  option_there a fits (Some v) h p e = reacted_there a fits (v ∷ []) h p e

  long_there : (o : Option Rule) → OnRule o → (v : Option Text) (h : Held) → AreThere h.rows → long_fault c again o v h ≡ [] → AreThere (long_met c o v h).0.rows
  long_there None fits v h p e = p
  long_there (Some a) fits v h p e = go (takes_values a) v e
    where
      go : (b : Bool) (v : Option Text)
          → (if b then option_fault c again a v h else (if is_some v then kind.TooManyValues ∷ [] else react_fault c again a [] h)) ≡ []
          → AreThere (if b then option_met c a v h else flag_met c a v h).0.rows
      go true v e = option_there a fits v h p e
      go false None e = reacted_there a fits [] h p e
      go false (Some v) e = p

  module _ (rest : Text) (h : Held) (met : Held → Held × Outcome) (fault : Held → Kinds) (step : (g : Held) → AreThere g.rows → fault g ≡ [] → AreThere (met g).0.rows) where
    short_there : (o : Option Rule) → OnRule o → AreThere h.rows → short_fault c again o rest h fault ≡ [] → AreThere (short_met c o rest h met).0.rows
    short_there None fits p e = p
    short_there (Some a) fits p e = go (takes_values a) e
      where
        go : (b : Bool) → (if b then option_fault c again a (attached_value rest) h else or_else (react_fault c again a [] h) (fault (reacted c a [] h))) ≡ []
            → AreThere (if b then option_met c a (attached_value rest) h else met (reacted c a [] h)).0.rows
        go true e = option_there a fits (attached_value rest) h p e
        go false e = step (reacted c a [] h) (reacted_there a fits [] h p (first_nil _ _ e)) (second_nil _ _ e)

  module _ (met : Text → ℕ → Outcome → Held → Held × Outcome) (fault : Text → ℕ → Held → Kinds)
      (step : (flags : Text) (skip : ℕ) (so_far : Outcome) (g : Held) → AreThere g.rows → fault flags skip g ≡ [] → AreThere (met flags skip so_far g).0.rows) where
    step_there : (x : Option ℕ) (flags : Text) (skip : ℕ) (so_far : Outcome) (h : Held) → AreThere h.rows
        → bundle_step_fault c again x flags skip h fault ≡ [] → AreThere (bundle_step c x flags skip so_far h met).0.rows
    step_there None flags skip so_far h p e = p
    step_there (Some x) flags zero so_far h p e =
        short_there (drop (length (encode_utf8 x)) flags) h (met (drop (length (encode_utf8 x)) flags) 0 done) (fault (drop (length (encode_utf8 x)) flags) 0)
        (step (drop (length (encode_utf8 x)) flags) 0 done) (arg_by_short c x) (found_fits _ c all) p e
    step_there (Some x) flags (suc skip) so_far h p e = step (drop (length (encode_utf8 x)) flags) skip so_far h p e

  bundle_there : (k : ℕ) (flags : Text) (skip : ℕ) (so_far : Outcome) (h : Held) → AreThere h.rows → flags_fault c again k flags skip h ≡ [] → AreThere (bundle_met c k flags skip so_far h).0.rows
  unfolding bundle_met flags_fault
  bundle_there zero flags skip so_far h p e = p
  bundle_there (suc k) flags skip so_far h p e =
      step_there (bundle_met c k) (flags_fault c again k) (λ f s o g. bundle_there k f s o g) (slice_get (chars flags) 0) flags skip so_far h p e

  flagged_there : (waiting : Waiting) (word : Text) (h : Held) (out : Outcome) → AreThere h.rows → AreThere (after_flag c waiting word h out).0.rows
  flagged_there waiting word h out p = subst AreThere (sym (flag_rows c waiting word h out)) p

  short_word_there : (waiting : Waiting) (word : Text) (o : Option Text) (h : Held) → AreThere h.rows → option_map_or (λ flags. bundle_fault c again flags h) o [] ≡ []
      → AreThere (short_or_plain c waiting word o h).0.rows
  short_word_there waiting word None h p e = subst AreThere (sym (plain_rows c waiting word h)) p
  short_word_there waiting word (Some flags) h p e =
      flagged_there waiting word (bundle c flags h).0 (bundle c flags h).1 (bundle_there (length flags) flags h.skip plain (record h { skip = 0 }) p e)

  flag_word_there : (waiting : Waiting) (word : Text) (o : Option (Text × Option Text)) (h : Held) → AreThere h.rows → flag_word_fault c again o word h ≡ []
      → AreThere (long_or_other c waiting word o h).0.rows
  flag_word_there waiting word None h p e = short_word_there waiting word (short_of word) h p e
  flag_word_there waiting word (Some (name, v)) h p e =
      flagged_there waiting word (long_met c (arg_by_long c name) v h).0 (long_met c (arg_by_long c name) v h).1 (long_there (arg_by_long c name) (found_fits _ c all) v h p e)

  other_there : (waiting : Waiting) (position : ℕ) (word : Text) (b : Bool) (h : Held) → AreThere h.rows
      → (if b then [] else flag_word_fault c again (long_of word) word h) ≡ []
      → AreThere (if b then (h, trailing position) else long_or_other c waiting word (long_of word) h).0.rows
  other_there waiting position word true h p e = p
  other_there waiting position word false h p e = flag_word_there waiting word (long_of word) h p e

  positional_there : (o : Option Rule) (word : Text) (w : Walk) (h : Held) → AreThere h.rows → option_map_or (λ a. positional_fault c again a h) o (kind.UnknownArgument ∷ []) ≡ []
      → AreThere (to_positional c o word w h).held.rows
  positional_there None word w h p e = p
  positional_there (Some a) word w h p e = go (is_pending a h.pending && takes_several a) e
    where
      go : (b : Bool) → (if b then [] else settle_fault c again h) ≡ [] → AreThere (pushed a.id word (if b then h else settled c h)).rows
      go true e = p
      go false e = settled_there h.pending h.rows p e

-- a command that has no commands of its own
module _ (s : Shape) (is_leaf : s.is_leaf ≡ true) (all : AllFit s.rules) where
  word_there : (is_trailing : Bool) (waiting : Waiting) (position : ℕ) (word : Text) (h : Held) → AreThere h.rows → word_fault s [] is_trailing waiting word h ≡ []
      → AreThere (word_met s.rules [] is_trailing waiting position word h).0.rows
  word_there true waiting position word h p e = p
  word_there false idle position word h p e = other_there s.rules s.args_override_self all idle position word (bytes_eq word (45 ∷ 45 ∷ [])) h p e
  word_there false positional position word h p e = other_there s.rules s.args_override_self all positional position word (bytes_eq word (45 ∷ 45 ∷ [])) h p e
  word_there false (option id) position word h p e = other_there s.rules s.args_override_self all (option id) position word (bytes_eq word (45 ∷ 45 ∷ [])) h p e

  step_is_there : (word : Text) (w : Walk) (h : Held) (step : Step) → AreThere h.rows → step_fault s w.position h step ≡ [] → AreThere (after_step s.rules word w h step).held.rows
  step_is_there word w h (next waiting) p e = p
  step_is_there word w h (trailing position) p e = p
  step_is_there word w h (subcommand name) p e = p
  step_is_there word w h value p e = positional_there s.rules s.args_override_self all (arg_by_index s.rules w.position) word w h p (rw is_leaf at e)

  turn_there : (w : Walk) (word : Text) → AreThere w.held.rows → turn_fault s [] w word ≡ [] → AreThere (walked s.rules [] w word).held.rows
  unfolding walked
  turn_there w word p e = go w.stopped e
    where
      go : (stop : Option (Text × List Text))
          → (if is_some stop then [] else or_else (word_fault s [] w.is_trailing w.waiting word w.held)
          (step_fault s w.position (word_met s.rules [] w.is_trailing w.waiting w.position word w.held).0 (word_met s.rules [] w.is_trailing w.waiting w.position word w.held).1)) ≡ []
          → AreThere (walked_from s.rules [] stop w word).held.rows
      go (Some stop) e = p
      go None e =
          let met = word_met s.rules [] w.is_trailing w.waiting w.position word w.held in
          step_is_there word w met.0 met.1 (word_there w.is_trailing w.waiting w.position word w.held p (first_nil _ _ e)) (second_nil _ _ e)

  walk_there : (words : List Text) (w : Walk) → AreThere w.held.rows → walk_fault s [] w words ≡ [] → AreThere (fold (walked s.rules []) w words).held.rows
  unfolding walk_fault
  walk_there [] w p e = p
  walk_there (word ∷ words) w p e = walk_there words (walked s.rules [] w word) (turn_there w word p (first_nil _ _ e)) (second_nil _ _ e)

default_there : (a : Rule) (values : List Text) (rows : List Row) → AreThere rows → AreThere (default_rows a.id (reading_by a) values rows)
default_there a [] rows p = p
default_there a (v ∷ vs) rows p = values_there a.id (reading_by a) DefaultValue v vs rows p

defaults_there : (c : List Rule) (rows : List Row) → AreThere rows → AreThere (fold with_default rows c)
defaults_there [] rows p = p
defaults_there (a ∷ c) rows p =
    defaults_there c (with_default rows a) (either_there (has_row a.id rows) rows (default_rows a.id (reading_by a) a.defaults rows) p (default_there a a.defaults rows p))

-- where nothing is wrong with the words of such a command, each argument that was found has a value, and what is checked last holds
module _ (s : Shape) (is_leaf : s.is_leaf ≡ true) (all : AllFit s.rules) (words : List Text) (right : level_fault s [] nothing_held words false [] ≡ []) where
  pub all_there : AreThere (rows_after s.rules [] words)
  all_there =
      let end = (walk s.rules [] nothing_held words).held in
      defaults_there s.rules (settled s.rules end).rows
      (settled_there s.rules s.args_override_self all end.pending end.rows
      (walk_there s is_leaf all words (walk_from nothing_held) tt (first_nil _ _ right))
      (first_nil _ _ (second_nil (walk_fault s [] (walk_from nothing_held) words) _ right)))

  pub last_check : check_fault s (rows_after s.rules [] words) false ≡ []
  last_check =
      let end = (walk s.rules [] nothing_held words).held in
      second_nil (defaults_fault (settled s.rules end).rows s.rules) _
      (second_nil (settle_fault s.rules s.args_override_self end) _ (second_nil (walk_fault s [] (walk_from nothing_held) words) _ right))

-- a row that is found
abbrev OnRow : Option Row → Type 0
OnRow None = ⊤
OnRow (Some r) = 0 < length r.values

found_there : (test : Row → Bool) (rows : List Row) → AreThere rows → OnRow (find test rows)
found_there test [] p = tt
found_there test (r ∷ rows) p = go (test r) (found_there test rows p.1)
  where
    go : (b : Bool) → OnRow (find test rows) → OnRow (cond b (Some r) (find test rows))
    go true others = p.0
    go false others = others

first_is : (values : List Text) → 0 < length values → (P : Type 0) → slice_get values 0 ≡ None → P
first_is [] has P none = absurd (omega arith)
first_is (v ∷ values) has P none = absurd cc

-- an argument that is given has a first value
pub given_has_value : (id : Text) (rows : List Row) → AreThere rows → is_given id rows ≡ true → first_of id rows ≡ None → ⊥
given_has_value id rows p given none = go (find (λ r. bytes_eq r.id id) rows) (found_there _ rows p) given none
  where
    go : (o : Option Row) → OnRow o → option_map_or (λ r. explicit_source r.source) o false ≡ true → option_and_then (λ r. slice_get r.values 0) o ≡ None → ⊥
    go None there given none = absurd cc
    go (Some r) there given none = first_is r.values there ⊥ none
