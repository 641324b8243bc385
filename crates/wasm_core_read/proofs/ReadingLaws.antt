-- The reading laws that the crates above cite, in one place.
pub use Rattle.wasm_core_read.proofs.BytesLaws.{all_bytes, bytes_length}
pub use Rattle.wasm_core_read.proofs.Forms.{parts_are, bind_some, some_is, joined, rest_bytes}
pub use Rattle.wasm_core_read.proofs.Forms.{unsigned_found, unsigned_again}
pub use Rattle.wasm_core_read.proofs.FrontLaws.{slice_bytes, goes_further}
pub use Rattle.wasm_core_read.proofs.ListLaws.{with_front, list_loop}
pub use Rattle.wasm_core_read.proofs.ModuleForms.{reads_frame, frame_bytes, frame_shorter}
pub use Rattle.wasm_core_read.proofs.ContentForms.{content_again, fills_content, content_id, groups_count, functions_count, bodies_count}
pub use Rattle.wasm_core_read.proofs.ModuleForms.{module_one}
pub use Rattle.wasm_core_read.proofs.NumberForms.{signed_found, signed_again}
pub use Rattle.wasm_core_read.proofs.TypeForms.{reads_val_type}
pub use Rattle.wasm_core_read.proofs.WayForms.{reads_tested}
