-- The cases of limits in the code, under the name of this crate.
pub use Rattle.wasm_core_types.specs.declared.limits.Limit.TheVariants.{Types, Groups, Imports, Functions, Globals, Tags, Exports, Tables, Memories, ElementSegments, DataSegments, SegmentEntries, Params, Results, Fields, Locals, BodySize, Name, TypeSize, Depth, Length}
