use Rattle.wasmparser_payloads.proofs.BeginLaws.{reached_begins, given_begins, front_is_begun, said_is_begun}
use Rattle.wasmparser_payloads.proofs.Steps.{after_start}
use Rattle.wasmparser_payloads.proofs.entry_laws.pieces_begin_the_bytes.Goals as goal

pub returns : goal.returns
returns c = record { pieces = reached_begins; before = given_begins; front = front_is_begun; said = said_is_begun; started = λ s new p e. after_start s p new e }
