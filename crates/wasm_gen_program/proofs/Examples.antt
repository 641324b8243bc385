-- The commands that some words ask for.
use Rattle.std.proofs.Common.{◌≡◌, List, [], ◌∷◌, Some, None, true, false, codes, refl}
use Rattle.clap.proofs.OnLiterals.{clap_on_literals}
use Rattle.clap.specs.Words.{Text, fault_of, subcommand_of}
use Rattle.clap.specs.declared.error.kind.ErrorKind.TheVariants as kind
use Rattle.wasm_gen_program.specs.Asked.{command_of, explains, files_of, reported_of, seed_of}
use Rattle.wasm_gen_program.specs.CommandLine.{program}

-- the program's name, which comes first
abbrev words : List Text → List Text
words rest = codes "wasm_gen" ∷ rest

files_in_order : files_of (subcommand_of program (words (codes "check" ∷ codes "b" ∷ codes "a" ∷ codes "b" ∷ []))) ≡ codes "b" ∷ codes "a" ∷ codes "b" ∷ []
unfolding clap_on_literals
files_in_order = refl

no_seed_to_check : seed_of (subcommand_of program (words (codes "check" ∷ codes "a" ∷ []))) ≡ None
unfolding clap_on_literals
no_seed_to_check = refl

a_seed : seed_of (subcommand_of program (words (codes "generate" ∷ codes "a" ∷ []))) ≡ Some (codes "a")
unfolding clap_on_literals
a_seed = refl

nothing_wrong : fault_of program (words (codes "check" ∷ codes "a" ∷ codes "b" ∷ [])) ≡ []
unfolding clap_on_literals
nothing_wrong = refl

help_asked_for : fault_of program (words (codes "--help" ∷ [])) ≡ kind.DisplayHelp ∷ []
unfolding clap_on_literals
help_asked_for = refl

no_command : fault_of program (words []) ≡ kind.DisplayHelpOnMissingArgumentOrSubcommand ∷ []
unfolding clap_on_literals
no_command = refl

-- (either may be reported)
unknown_command : fault_of program (words (codes "judge" ∷ [])) ≡ kind.UnknownArgument ∷ kind.InvalidSubcommand ∷ []
unfolding clap_on_literals
unknown_command = refl

no_file : fault_of program (words (codes "check" ∷ [])) ≡ kind.MissingRequiredArgument ∷ []
unfolding clap_on_literals
no_file = refl

two_seeds : fault_of program (words (codes "generate" ∷ codes "a" ∷ codes "b" ∷ [])) ≡ kind.UnknownArgument ∷ []
unfolding clap_on_literals
two_seeds = refl

unknown_flag : fault_of program (words (codes "check" ∷ codes "--fast" ∷ codes "a" ∷ [])) ≡ kind.UnknownArgument ∷ []
unfolding clap_on_literals
unknown_flag = refl

no_seed : fault_of program (words (codes "generate" ∷ [])) ≡ kind.MissingRequiredArgument ∷ []
unfolding clap_on_literals
no_seed = refl

-- (clap's contract leaves open which it is; a test holds it to help)
help_as_a_command : fault_of program (words (codes "help" ∷ codes "check" ∷ [])) ≡ kind.DisplayHelp ∷ kind.InvalidSubcommand ∷ []
unfolding clap_on_literals
help_as_a_command = refl

named_as_a_flag : files_of (subcommand_of program (words (codes "check" ∷ codes "--" ∷ codes "-a" ∷ []))) ≡ codes "-a" ∷ []
unfolding clap_on_literals
named_as_a_flag = refl

named_as_a_command : seed_of (subcommand_of program (words (codes "generate" ∷ codes "check" ∷ []))) ≡ Some (codes "check")
unfolding clap_on_literals
named_as_a_command = refl

a_report : reported_of (subcommand_of program (words (codes "report" ∷ codes "a" ∷ []))) ≡ Some (codes "a")
unfolding clap_on_literals
a_report = refl

no_report_of_check : reported_of (subcommand_of program (words (codes "check" ∷ codes "a" ∷ []))) ≡ None
unfolding clap_on_literals
no_report_of_check = refl

two_reports : fault_of program (words (codes "report" ∷ codes "a" ∷ codes "b" ∷ [])) ≡ kind.UnknownArgument ∷ []
unfolding clap_on_literals
two_reports = refl

no_report : fault_of program (words (codes "report" ∷ [])) ≡ kind.MissingRequiredArgument ∷ []
unfolding clap_on_literals
no_report = refl

check_is_named : command_of (subcommand_of program (words (codes "check" ∷ codes "a" ∷ []))) ≡ Some (codes "check")
unfolding clap_on_literals
check_is_named = refl

more_is_asked_for : explains (codes "check") (subcommand_of program (words (codes "check" ∷ codes "a" ∷ codes "--explain" ∷ []))) ≡ true
unfolding clap_on_literals
more_is_asked_for = refl

more_is_not_asked_for : explains (codes "check") (subcommand_of program (words (codes "check" ∷ codes "a" ∷ []))) ≡ false
unfolding clap_on_literals
more_is_not_asked_for = refl
