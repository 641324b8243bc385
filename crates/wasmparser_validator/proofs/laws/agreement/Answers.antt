use Rattle.wasmparser_validator.proofs.Agreement.{agrees}
use Rattle.wasmparser_validator.proofs.laws.agreement.Goals as goal

pub returns : goal.returns
returns c = λ features cx written ids interned sub_types test known tells. agrees features cx ids interned sub_types known test tells written
