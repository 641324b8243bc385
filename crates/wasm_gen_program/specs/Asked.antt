-- The meaning of words.
use Rattle.std.specs.Prelude.{◌≡◌, ◌≢◌, ◌⊎◌, ⊤, Bool, false, option_map, List, [], Option, Some, None, codes, map, option_and_then, unwrap_or, if◌then◌else◌}
use Rattle.std.specs.Str.{bytes_eq}
use Rattle.clap.specs.Words.{IsAmong, Row, Text, all_of, fault_of, first_of, subcommand_of}
use Rattle.clap.specs.declared.error.kind.ErrorKind.TheVariants as kind
use Rattle.wasm_gen_program.specs.CommandLine.{program}
use Rattle.wasm_gen_program.specs.declared.asked.Asked.{Asked}
use Rattle.wasm_gen_program.specs.declared.asked.Asked.TheVariants.{Generate, Check, Report, Help}
use Rattle.wasm_gen_program.specs.declared.asked.WordsError.{WordsError}
use Rattle.wasm_gen_program.specs.declared.asked.WordsError.TheVariants.{Wrong, Memory}

-- what is found for an argument of this command, where the words name it: they name a command, with what is found for it
abbrev pub found_for : {A : Type 0} → Text → (List Row → Option A) → Option (Text × List Row) → Option A
found_for command find_in met = option_and_then (λ it. if bytes_eq it.0 command then find_in it.1 else None) met

-- the command that the words name
abbrev pub command_of : Option (Text × List Row) → Option Text
command_of = option_map (λ it. it.0)

-- the file that the seed is in, where a module is to be made
abbrev pub seed_of : Option (Text × List Row) → Option Text
seed_of = found_for (codes "generate") (first_of (codes "SEED"))

-- the file that its configuration is in, where one is named
abbrev pub config_of : Option (Text × List Row) → Option Text
config_of = found_for (codes "generate") (first_of (codes "config"))

-- true if this command is to explain a bad configuration, or a refused module
abbrev pub explains : Text → Option (Text × List Row) → Bool
explains command met = unwrap_or (option_map (bytes_eq (codes "true")) (found_for command (first_of (codes "explain")) met)) false

-- the files that are to be validated
abbrev pub files_of : Option (Text × List Row) → List Text
files_of met = unwrap_or (found_for (codes "check") (all_of (codes "FILE")) met) []

-- the file that the module is in, where one is to be shown
abbrev pub reported_of : Option (Text × List Row) → Option Text
reported_of = found_for (codes "report") (first_of (codes "FILE"))

-- what is asked for by the command that the words name, with what is found for it
abbrev pub Asks : Option (Text × List Row) → Asked → Type 0
Asks met (Generate asked) = (seed_of met ≡ Some asked.seed.now) × (config_of met ≡ option_map (λ name. name.now) asked.config) × (explains (codes "generate") met ≡ asked.explain)
Asks met (Check asked) = (command_of met ≡ Some (codes "check")) × (map (λ name. name.now) asked.files.items ≡ files_of met) × (explains (codes "check") met ≡ asked.explain)
Asks met (Report name) = reported_of met ≡ Some name.now
Asks met (Help text) = ⊥

-- something is asked for, other than help
abbrev pub CanBeAsked : Option (Text × List Row) → Type 0
CanBeAsked met = (seed_of met ≢ None) ⊎ (reported_of met ≢ None) ⊎ (command_of met ≡ Some (codes "check"))

-- what words ask for: help, where clap may answer with help; or, where nothing is wrong with them, what the command that they name does. Of words that begin
-- with `help`, clap's contract leaves open whether they ask for help or name a wrong command. (No words ask for the version, as the program has none.)
abbrev pub AskFor : List Text → Asked → Type 0
AskFor words (Help text) = IsAmong kind.DisplayHelp (fault_of program words) ⊎ IsAmong kind.DisplayVersion (fault_of program words)
AskFor words asked = (fault_of program words ≡ []) × Asks (subcommand_of program words) asked

-- help is asked for
abbrev pub IsHelp : Asked → Type 0
IsHelp (Help text) = ⊤
IsHelp asked = ⊥

-- clap may find something wrong with the words, other than that they ask for help
abbrev pub AreWrong : List Text → Type 0
AreWrong words = (k : _) × IsAmong k (fault_of program words) × (k ≢ kind.DisplayHelp) × (k ≢ kind.DisplayVersion)

-- why words may be refused; nothing is said of memory
abbrev pub AreRefused : List Text → WordsError → Type 0
AreRefused words (Wrong text) = AreWrong words
AreRefused words Memory = ⊤
