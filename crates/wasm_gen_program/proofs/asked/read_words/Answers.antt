use Rattle.std.proofs.Common.{map, refl}
use Rattle.std.specs.String.{string_bytes}
use Rattle.clap.specs.Words.{kind_of}
use Rattle.wasm_gen_program.proofs.Faults.{asks_for_help, is_refused}
use Rattle.wasm_gen_program.proofs.NamedCommand.{can_be_asked}
use Rattle.wasm_gen_program.proofs.asked.read_words.Goals as goal

pub asked_by-requires : goal.asked_by-requires
asked_by-requires c = can_be_asked (map string_bytes c.args.words.now) _ c.in-Ok.ensures.refused (c.in-Ok.ensures.found refl).1

pub returns-in-Err-clause-asked : goal.returns-in-Err-clause-asked
returns-in-Err-clause-asked c =
    asks_for_help (map string_bytes c.args.words.now) (kind_of c.in-Err.error) c.in-Err.ensures.refused c.text_of.result c.text_of.ensures.help

pub returns-in-Err-clause-refused : goal.returns-in-Err-clause-refused
returns-in-Err-clause-refused c =
    is_refused (map string_bytes c.args.words.now) (kind_of c.in-Err.error) c.in-Err.ensures.refused c.text_of.result c.text_of.ensures.wrong c.text_of.ensures.memory
