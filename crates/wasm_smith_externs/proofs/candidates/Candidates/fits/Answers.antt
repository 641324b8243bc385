use Rattle.wasm_smith_validity.specs.Spaces.{functions_of}
use Rattle.wasm_smith_externs.proofs.FittingLaws.{not_empty}
use Rattle.wasm_smith_externs.proofs.candidates.Candidates.fits.Goals as goal

pub returns-in-Func : goal.returns-in-Func
returns-in-Func c =
    let spaces = c.args.spaces.now in
    rw c.in-Func.is (not_empty spaces.types c.args.self.now.left (functions_of spaces) c.args.self.now.functions c.requires.of_functions c.is_empty.result c.is_empty.ensures)

pub returns-in-Tag : goal.returns-in-Tag
returns-in-Tag c =
    let spaces = c.args.spaces.now in
    rw c.in-Tag.is (not_empty spaces.types c.args.self.now.left spaces.tags c.args.self.now.tags c.requires.of_tags c.is_empty-in-Tag.result c.is_empty-in-Tag.ensures)
