use Rattle.std.proofs.Common.{◌∙◌, sym, refl}
use Rattle.clap.proofs.WalkLemmas.{first_value-rows}
use Rattle.clap.specs.Words.{first_of, found_of}
use Rattle.wasm_gen_program.proofs.Found.{found_where_met}
use Rattle.wasm_gen_program.proofs.asked.value_of.Goals as goal

pub returns : goal.returns
returns c =
    c.get_str.ensures ∙ first_value-rows (found_of c.in_ok-subcommand_matches.field-0.now) c.args.id.now
    ∙ sym (found_where_met (first_of c.args.id.now) c.args.command.now _ _ _ (c.in_ok-subcommand_matches.ensures.found.0 refl) c.in_ok-subcommand_matches.ensures.rows)
