-- Limits: numbers past which a module is refused. The appendix "Implementation Limitations" of the Core Specification 3.0 lets an
-- implementation have most of them. The numbers are this project's, but for the length, which is the greatest u32.
use Rattle.std.specs.Prelude.{ℕ, ◌<◌}

pub data Limit : Type 0 where
  -- types, those of all groups counted
  Types : Limit
  -- entries of a type section
  Groups : Limit
  -- entries of an import section
  Imports : Limit
  -- functions, imported ones counted
  Functions : Limit
  -- globals, imported ones counted
  Globals : Limit
  -- tags, imported ones counted
  Tags : Limit
  -- exports
  Exports : Limit
  -- tables, imported ones counted
  Tables : Limit
  -- memories, imported ones counted
  Memories : Limit
  -- element segments
  ElementSegments : Limit
  -- data segments
  DataSegments : Limit
  -- items of one element segment
  SegmentEntries : Limit
  -- parameters of a function type
  Params : Limit
  -- results of a function type
  Results : Limit
  -- fields of a structure type
  Fields : Limit
  -- locals of a function, its parameters counted
  Locals : Limit
  -- bytes of an entry of a code section without its size: locals and expression
  BodySize : Limit
  -- bytes of the name of an import, an export or a custom section
  Name : Limit
  -- a measure of the types of all imports and exports together
  TypeSize : Limit
  -- supertypes above a type
  Depth : Limit
  -- what the format can state as a count, a size or a length
  Length : Limit

-- the greatest number that a limit lets through
abbrev pub most : Limit → ℕ
most Types = 1000000
most Groups = 1000000
most Imports = 1000000
most Functions = 1000000
most Globals = 1000000
most Tags = 1000000
most Exports = 1000000
most Tables = 100
most Memories = 100
most ElementSegments = 100000
most DataSegments = 100000
most SegmentEntries = 10000000
most Params = 1000
most Results = 1000
most Fields = 10000
most Locals = 50000
most BodySize = 7654321
most Name = 100000
most TypeSize = 999999
most Depth = 63
most Length = 4294967295

-- a limit is passed by a greater number
abbrev pub IsPassedBy : Limit → ℕ → Type 0
IsPassedBy limit n = most limit < n

-- A number of another kind: the most types that one validator holds over all of its modules.
abbrev pub total_of_types : ℕ
total_of_types = 1048576
