-- The locals that are kept of a body, the first ones one by one and the declared ones after them as runs of equal ones.
use Rattle.std.specs.Prelude.{◌≡◌, ◌+◌, ◌<◌, ◌≤◌, ℕ, List, [], ◌∷◌, length, map, replicate}
use Rattle.std.specs.List.{flat_map}
use Rattle.wasm_bodies.specs.BodyContext as bodies
use Rattle.wasm_spec.specs.Limits as limits
use Rattle.wasmparser_types.specs.Index.{Index}
use Rattle.wasmparser_types.specs.ValTypes.{val_type}
use Rattle.wasmparser_bodies.specs.KeptLocals.{KeptLocals}
use Rattle.wasmparser_bodies.specs.declared.locals.Local.{Local}
use Rattle.wasmparser_bodies.specs.declared.locals.Run.{Run}
use Rattle.wasmparser_bodies.specs.declared.locals.Locals.TheInside.{Inside}

abbrev pub local_seen : Local → bodies.Local Index
local_seen local = record { is_set = local.is_set; type = val_type local.value_type }

-- the locals of runs, and all that are kept
abbrev pub locals_in : List Run → List (bodies.Local Index)
locals_in runs = flat_map (λ run. replicate run.count (local_seen run.local)) runs

abbrev pub kept_of : List Local → ℕ → List Run → KeptLocals
kept_of first later runs = record { first = map local_seen first; later = later; declared = locals_in runs }

abbrev pub kept_inside : Inside → KeptLocals
kept_inside s = kept_of s.first.items s.later s.runs.items

-- after so many locals, each run knows how many there are up to its last one, and up to the last of all
abbrev pub AreJoined : ℕ → List Run → ℕ → Type 0
AreJoined start [] end = start ≡ end
AreJoined start (run ∷ runs) end = (run.end ≡ start + run.count) × AreJoined run.end runs end

-- So many locals: the first 64, and parameters that aren't kept and runs where there are more.
pub record AreLaidOut (first : List Local) (later : ℕ) (runs : List Run) (count : ℕ) : Type 0 where
  pub few : length first ≤ 64
  pub full : 0 < later + length runs → length first ≡ 64
  pub joined : AreJoined (length first + later) runs count

pub record AreWithinLimit (s : Inside) : Type 0 where
  pub laid_out : AreLaidOut s.first.items s.later s.runs.items s.count
  pub within : s.count ≤ limits.most limits.Locals
  pub later_within : s.later ≤ limits.most limits.Locals
