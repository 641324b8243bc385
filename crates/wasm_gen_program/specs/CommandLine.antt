-- The command line that the program takes, as clap sees it.
use Rattle.std.specs.Prelude.{true, Some, codes}
use Rattle.clap.specs.Lexer.{usize_max}
use Rattle.clap.specs.Words.{App, Rule, new_app, new_rule, with_rule, with_subcommand}
use Rattle.clap.specs.declared.builder.action.ArgAction.TheVariants.{Append, SetTrue}

-- the files that `check` validates, of which there is one at least
abbrev pub files : Rule
files = record (new_rule (codes "FILE")) {
  action = Some Append;
  range = Some (record { start_inclusive = 1; end_inclusive = usize_max });
  required = true;
}

-- the file that `generate` takes its seed from
abbrev pub seed : Rule
seed = record (new_rule (codes "SEED")) { required = true }

-- the file that `generate` takes its configuration from
abbrev pub config : Rule
config = record (new_rule (codes "config")) { long = Some (codes "config"); value_names = 1 }

-- the flag by which `generate` explains a bad configuration, and `check` a refused module
abbrev pub explain : Rule
explain = record (new_rule (codes "explain")) { long = Some (codes "explain"); action = Some SetTrue }

-- the file that `report` shows the module of
abbrev pub file : Rule
file = record (new_rule (codes "FILE")) { required = true }

abbrev pub check : App
check = with_rule (with_rule (new_app (codes "check")) explain) files

abbrev pub report : App
report = with_rule (new_app (codes "report")) file

abbrev pub generate : App
generate = with_rule (with_rule (with_rule (new_app (codes "generate")) config) explain) seed

-- the program, which asks for one of its commands and shows help where there are no words, before these are added
abbrev pub alone : App
alone = let new = new_app (codes "wasm_gen") in record new { top = record new.top { subcommand_required = true; arg_required_else_help = true } }

abbrev pub program : App
program = with_subcommand (with_subcommand (with_subcommand alone generate.top) check.top) report.top
