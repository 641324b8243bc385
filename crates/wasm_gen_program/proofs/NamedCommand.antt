-- Words in which nothing is wrong name a command, with the file that it takes.
use Rattle.std.proofs.Common.{◌≡◌, ◌⊎◌, inl, inr, ◌<◌, ℕ, zero, suc, Bool, true, false, List, [], ◌∷◌, length, cond, codes, Option, Some, None, refl, arith, subst, sym, option_map}
use Rattle.std.proofs.lemmas.Slice.Eq.{bytes_eq-Decides}
use Rattle.std.specs.Prelude.{⊤, ◌&&◌, ◌||◌, not, if◌then◌else◌, is_some, find, fold}
use Rattle.std.specs.Option.{option_map_or}
use Rattle.std.specs.Str.{bytes_eq}
use Rattle.clap.specs.Facts.{unwrap_or_range}
use Rattle.clap.specs.Faults.{action_fault, check_fault, entered_fault, fault_of, level_fault, other_fault, settle_fault, defaults_fault, step_fault, turn_fault, walk_fault, word_fault}
use Rattle.clap.specs.Kinds.{check_kinds, or_else, range_kinds}
use Rattle.clap.specs.Lexer.{long_of, short_of}
use Rattle.clap.specs.Simple.{App, Shape, argument_words, built, entered, label_of, names_of, new_rule, rows_at, subcommand_of}
use Rattle.clap.specs.Walk.{Held, Names, Outcome, Row, Rule, Step, Text, Waiting, Walk, action_of, after_flag, after_step, answers_to, arg_by_index, arg_by_long, bundle, done, finished, idle, long_met, long_or_other, most_values, next, nothing_held, option, plain, plain_word, positional, refused, rows_after, settled, short_or_plain, subcommand, subcommand_met, subcommand_or_other, to_positional, trailing, value, values_or_missing, waits, walk, walk_from, walked, walked_from, word_met}
use Rattle.clap.specs.declared.builder.action.ArgAction.TheVariants.{Help}
use Rattle.clap.specs.declared.error.kind.ErrorKind.TheVariants as kind
use Rattle.wasm_gen_program.specs.Asked.{CanBeAsked}
use Rattle.wasm_gen_program.specs.CommandLine.{program}
use Rattle.wasm_gen_program.proofs.ValuesThere.{AllFit, Fits, all_there, first_nil, given_has_value, last_check, second_nil}

-- ---- a command that is met is not `help`

abbrev OnStop : Option (Text × List Text) → Type 0
OnStop None = ⊤
OnStop (Some stop) = bytes_eq stop.0 (codes "help") ≡ false

abbrev OnStep : Step → Type 0
OnStep (next waiting) = ⊤
OnStep (trailing position) = ⊤
OnStep (subcommand name) = bytes_eq name (codes "help") ≡ false
OnStep value = ⊤

plain_step : (c : List Rule) (waiting : Waiting) (word : Text) (h : Held) → OnStep (plain_word c waiting word h).1
plain_step c idle word h = tt
plain_step c positional word h = tt
plain_step c (option id) word h = tt

flag_step : (c : List Rule) (waiting : Waiting) (word : Text) (h : Held) (out : Outcome) → OnStep (after_flag c waiting word h out).1
flag_step c waiting word h done = tt
flag_step c waiting word h (waits id) = tt
flag_step c waiting word h plain = plain_step c waiting word h
flag_step c waiting word h refused = plain_step c waiting word h

short_step : (c : List Rule) (waiting : Waiting) (word : Text) (o : Option Text) (h : Held) → OnStep (short_or_plain c waiting word o h).1
short_step c waiting word None h = plain_step c waiting word h
short_step c waiting word (Some flags) h = flag_step c waiting word (bundle c flags h).0 (bundle c flags h).1

long_step : (c : List Rule) (waiting : Waiting) (word : Text) (o : Option (Text × Option Text)) (h : Held) → OnStep (long_or_other c waiting word o h).1
long_step c waiting word None h = short_step c waiting word (short_of word) h
long_step c waiting word (Some (name, v)) h = flag_step c waiting word (long_met c (arg_by_long c name) v h).0 (long_met c (arg_by_long c name) v h).1

dash_step : (c : List Rule) (waiting : Waiting) (position : ℕ) (word : Text) (h : Held) (b : Bool)
    → OnStep (if b then (h, trailing position) else long_or_other c waiting word (long_of word) h).1
dash_step c waiting position word h true = tt
dash_step c waiting position word h false = long_step c waiting word (long_of word) h

not_help : (b : Bool) → (if b && not false then kind.DisplayHelp ∷ kind.InvalidSubcommand ∷ [] else []) ≡ [] → b ≡ false
not_help true e = absurd cc
not_help false e = refl

after_stop : (c : List Rule) (word : Text) (w : Walk) (h : Held) (step : Step) → OnStop w.stopped → OnStep step → OnStop (after_step c word w h step).stopped
after_stop c word w h (next waiting) stop is = stop
after_stop c word w h (trailing position) stop is = stop
after_stop c word w h (subcommand name) stop is = is
after_stop c word w h value stop is = go (arg_by_index c w.position)
  where
    go : (o : Option Rule) → OnStop (to_positional c o word w h).stopped
    go None = stop
    go (Some a) = tt

module _ (s : Shape) (names : Names) (has_help : s.disable_help_subcommand ≡ false) where
  met_step : (o : Option Text) (waiting : Waiting) (position : ℕ) (word : Text) (h : Held) → other_fault s o word h ≡ [] → OnStep (subcommand_or_other s.rules o waiting position word h).1
  met_step None waiting position word h e = dash_step s.rules waiting position word h (bytes_eq word (45 ∷ 45 ∷ []))
  met_step (Some name) waiting position word h e = not_help (bytes_eq name (codes "help")) (rw has_help at e)

  word_step : (is_trailing : Bool) (waiting : Waiting) (position : ℕ) (word : Text) (h : Held) → word_fault s names is_trailing waiting word h ≡ []
      → OnStep (word_met s.rules names is_trailing waiting position word h).1
  word_step true waiting position word h e = tt
  word_step false waiting position word h e = met_step (subcommand_met names waiting word) waiting position word h e

  turn_stop : (w : Walk) (word : Text) → OnStop w.stopped → turn_fault s names w word ≡ [] → OnStop (walked s.rules names w word).stopped
  unfolding walked
  turn_stop w word stop e = go w.stopped stop e
    where
      go : (it : Option (Text × List Text)) → OnStop it
          → (if is_some it then [] else or_else (word_fault s names w.is_trailing w.waiting word w.held)
          (step_fault s w.position (word_met s.rules names w.is_trailing w.waiting w.position word w.held).0 (word_met s.rules names w.is_trailing w.waiting w.position word w.held).1)) ≡ []
          → OnStop (walked_from s.rules names it w word).stopped
      go (Some it) is e = is
      go None is e =
          let met = word_met s.rules names w.is_trailing w.waiting w.position word w.held in
          after_stop s.rules word w met.0 met.1 stop (word_step w.is_trailing w.waiting w.position word w.held (first_nil _ _ e))

  walk_stop : (words : List Text) (w : Walk) → OnStop w.stopped → walk_fault s names w words ≡ [] → OnStop (fold (walked s.rules names) w words).stopped
  unfolding walk_fault
  walk_stop [] w stop e = stop
  walk_stop (word ∷ words) w stop e = walk_stop words (walked s.rules names w word) (turn_stop w word stop (first_nil _ _ e)) (second_nil _ _ e)

-- ---- a command that is found is one of the program's

abbrev IsIn : Shape → List Shape → Type 0
IsIn s [] = ⊥
IsIn s (x ∷ xs) = (s ≡ x) ⊎ IsIn s xs

abbrev OnFound : (Shape → Bool) → List Shape → Option Shape → Type 0
OnFound test xs None = ⊤
OnFound test xs (Some s) = IsIn s xs × (test s ≡ true)

one_longer : (test : Shape → Bool) (x : Shape) (xs : List Shape) (o : Option Shape) → OnFound test xs o → OnFound test (x ∷ xs) o
one_longer test x xs None p = tt
one_longer test x xs (Some s) p = (inr p.0, p.1)

found_in : (test : Shape → Bool) (xs : List Shape) → OnFound test xs (find test xs)
found_in test [] = tt
found_in test (x ∷ xs) = go (test x) refl (found_in test xs)
  where
    go : (b : Bool) → test x ≡ b → OnFound test xs (find test xs) → OnFound test (x ∷ xs) (cond b (Some x) (find test xs))
    go true is others = (inl refl, is)
    go false is others = one_longer test x xs (find test xs) others

-- ---- arguments

fits_value : (a : Rule) → (unwrap_or_range a.range).start_inclusive ≡ 1 → Fits a
fits_value a one again [] rows e = let bad = rw one at e in absurd cc
fits_value a one again (v ∷ vs) rows e = omega arith

fits_missing : (a : Rule) → 0 < length a.missing → Fits a
fits_missing a has again [] rows e = has
fits_missing a has again (v ∷ vs) rows e = omega arith

fits_help : (a : Rule) → action_of a ≡ Help → Fits a
fits_help a is again values rows e =
    let last : action_fault (action_of a) again a (values_or_missing a values) rows ≡ [] =
    second_nil (range_kinds (unwrap_or_range a.range).start_inclusive (most_values a) (length values)) (action_fault (action_of a) again a (values_or_missing a values) rows) e in
    let bad : kind.DisplayHelp ∷ [] ≡ [] = subst (λ x. action_fault x again a (values_or_missing a values) rows ≡ []) is last in
    absurd cc

is_required : (given : Bool) → check_kinds false false (not given || false) ≡ [] → given ≡ true
is_required true e = refl
is_required false e = absurd cc

command_required : (b c : Bool) → check_kinds b true c ≡ [] → ⊥
command_required true c e = absurd cc
command_required false c e = absurd cc

is_help : (word : Text) → (bytes_eq (codes "help") word || false) ≡ true → bytes_eq word (codes "help") ≡ false → ⊥
is_help word answers not_so = go (bytes_eq (codes "help") word) refl answers
  where
    go : (b : Bool) → bytes_eq (codes "help") word ≡ b → (b || false) ≡ true → ⊥
    go true is answers =
        let same : codes "help" ≡ word = (bytes_eq-Decides (codes "help") word).0 is in
        let bad : bytes_eq (codes "help") (codes "help") ≡ false = subst (λ w. bytes_eq w (codes "help") ≡ false) (sym same) not_so in
        absurd cc
    go false is answers = absurd cc

-- ---- the program

abbrev whole : App
whole = built program

abbrev at_place : List Shape → ℕ → Shape
at_place [] n = whole.top
at_place (s ∷ subs) zero = s
at_place (s ∷ subs) (suc n) = at_place subs n

abbrev rule_at : List Rule → ℕ → Rule
rule_at [] n = new_rule []
rule_at (a ∷ rules) zero = a
rule_at (a ∷ rules) (suc n) = rule_at rules n

generate_fits : AllFit (at_place whole.subs 0).rules
generate_fits =
    let rules = (at_place whole.subs 0).rules in
    (fits_value (rule_at rules 0) refl, (fits_missing (rule_at rules 1) (omega arith), (fits_value (rule_at rules 2) refl, (fits_help (rule_at rules 3) refl, tt))))

report_fits : AllFit (at_place whole.subs 2).rules
report_fits =
    let rules = (at_place whole.subs 2).rules in
    (fits_value (rule_at rules 0) refl, (fits_help (rule_at rules 1) refl, tt))

module _ (name : Text) (words : List Text) (not_so : bytes_eq name (codes "help") ≡ false) where
  -- a command that is met by this name, with nothing wrong in the words after it, asks for something
  abbrev Leads : Shape → Type 0
  Leads s = answers_to name (label_of s) ≡ true → level_fault s [] nothing_held words false [] ≡ [] → CanBeAsked (Some (rows_at s words))

  abbrev AllLead : List Shape → Type 0
  AllLead [] = ⊤
  AllLead (s ∷ subs) = Leads s × AllLead subs

  generate_leads : Leads (at_place whole.subs 0)
  generate_leads answers right =
      let s = at_place whole.subs 0 in
      inl (given_has_value (codes "SEED") (rows_after s.rules [] words) (all_there s refl generate_fits words right) (is_required _ (last_check s refl generate_fits words right)))

  report_leads : Leads (at_place whole.subs 2)
  report_leads answers right =
      let s = at_place whole.subs 2 in
      inr (inl (given_has_value (codes "FILE") (rows_after s.rules [] words) (all_there s refl report_fits words right) (is_required _ (last_check s refl report_fits words right))))

  all_lead : AllLead whole.subs
  all_lead = (generate_leads, ((λ answers right. inr (inr refl)), (report_leads, ((λ answers right. absurd (is_help name answers not_so)), tt))))

  led : (s : Shape) (subs : List Shape) → AllLead subs → IsIn s subs → Leads s
  led s [] all is = absurd is
  led s (x ∷ subs) all is = elim is [
    | inl same ↦ subst Leads (sym same) all.0
    | inr later ↦ led s subs all.1 later
  ]

one_is_required : (rows : List Row) → check_fault whole.top rows false ≡ [] → ⊥
one_is_required rows checked = command_required _ false checked

named : (stop : Option (Text × List Text)) (rows : List Row) → OnStop stop → entered_fault whole stop ≡ [] → check_fault whole.top rows (is_some (entered whole stop)) ≡ [] → CanBeAsked (entered whole stop)
named None rows is right checked = absurd (one_is_required rows checked)
named (Some (name, words)) rows is right checked =
    go (find (λ s. answers_to name (label_of s)) whole.subs) (found_in (λ s. answers_to name (label_of s)) whole.subs) right checked
  where
    go : (o : Option Shape) → OnFound (λ s. answers_to name (label_of s)) whole.subs o → option_map_or (λ s. level_fault s [] nothing_held words false []) o [] ≡ []
        → check_fault whole.top rows (is_some (option_map (λ s. rows_at s words) o)) ≡ [] → CanBeAsked (option_map (λ s. rows_at s words) o)
    go None found right checked = absurd (one_is_required rows checked)
    go (Some s) found right checked = led name words is s whole.subs (all_lead name words is) found.0 found.1 right

-- where nothing is wrong with words, something is asked for by what they name
pub can_be_asked : (words : List Text) (met : Option (Text × List Row)) → fault_of program words ≡ [] → met ≡ subcommand_of program words → CanBeAsked met
can_be_asked words met right is =
    let ws = argument_words program words in
    let end = walk whole.top.rules (names_of whole) nothing_held ws in
    let entered_right = second_nil (walk_fault whole.top (names_of whole) (walk_from nothing_held) ws) _ right in
    let settled_right = second_nil (entered_fault whole end.stopped) _ entered_right in
    let defaults_right = second_nil (settle_fault whole.top.rules whole.top.args_override_self end.held) _ settled_right in
    subst CanBeAsked (sym is)
    (named end.stopped (finished whole.top.rules end.held) (walk_stop whole.top (names_of whole) refl ws (walk_from nothing_held) tt (first_nil _ _ right))
    (first_nil _ _ entered_right)
    (second_nil (defaults_fault (settled whole.top.rules end.held).rows whole.top.rules) _ defaults_right))
