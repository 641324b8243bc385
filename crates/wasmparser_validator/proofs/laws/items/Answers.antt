use Rattle.wasmparser_validator.proofs.ItemsById.{items_are}
use Rattle.wasmparser_validator.proofs.laws.items.Goals as goal

pub returns : goal.returns
returns c = λ features cx written ids interned sub_types test are known. items_are features cx written ids interned sub_types are known test
