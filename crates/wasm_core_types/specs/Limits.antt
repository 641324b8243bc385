-- The limits of the code as those of the specification, and what they are called.
use Rattle.std.specs.Prelude.{ℕ, List, codes}
use Rattle.wasm_spec.specs.Limits as spec
use Rattle.wasm_core_types.specs.declared.limits.Limit.{Limit}
use Rattle.wasm_core_types.specs.declared.limits.Limit.TheVariants as limits

-- the limit that a value of the code is
abbrev pub limit : Limit → spec.Limit
limit limits.Types = spec.Types
limit limits.Groups = spec.Groups
limit limits.Imports = spec.Imports
limit limits.Functions = spec.Functions
limit limits.Globals = spec.Globals
limit limits.Tags = spec.Tags
limit limits.Exports = spec.Exports
limit limits.Tables = spec.Tables
limit limits.Memories = spec.Memories
limit limits.ElementSegments = spec.ElementSegments
limit limits.DataSegments = spec.DataSegments
limit limits.SegmentEntries = spec.SegmentEntries
limit limits.Params = spec.Params
limit limits.Results = spec.Results
limit limits.Fields = spec.Fields
limit limits.Locals = spec.Locals
limit limits.BodySize = spec.BodySize
limit limits.Name = spec.Name
limit limits.TypeSize = spec.TypeSize
limit limits.Depth = spec.Depth
limit limits.Length = spec.Length

-- a limit is called as its case is
abbrev pub limit_name : Limit → List ℕ
limit_name limits.Types = codes "Types"
limit_name limits.Groups = codes "Groups"
limit_name limits.Imports = codes "Imports"
limit_name limits.Functions = codes "Functions"
limit_name limits.Globals = codes "Globals"
limit_name limits.Tags = codes "Tags"
limit_name limits.Exports = codes "Exports"
limit_name limits.Tables = codes "Tables"
limit_name limits.Memories = codes "Memories"
limit_name limits.ElementSegments = codes "ElementSegments"
limit_name limits.DataSegments = codes "DataSegments"
limit_name limits.SegmentEntries = codes "SegmentEntries"
limit_name limits.Params = codes "Params"
limit_name limits.Results = codes "Results"
limit_name limits.Fields = codes "Fields"
limit_name limits.Locals = codes "Locals"
limit_name limits.BodySize = codes "BodySize"
limit_name limits.Name = codes "Name"
limit_name limits.TypeSize = codes "TypeSize"
limit_name limits.Depth = codes "Depth"
limit_name limits.Length = codes "Length"
