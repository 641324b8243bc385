use Rattle.wasm_bodies_laws.specs.References.{WantedBy}
use Rattle.wasm_bodies_laws.proofs.HeldOptions.{held_at}
use Rattle.wasm_bodies_laws.proofs.MappedMachines.{run_is}
use Rattle.wasm_bodies_laws.proofs.WantedFrames.{labels_wanted, run_wanted}
use Rattle.wasm_bodies_laws.specs.Machine.{run}
use Rattle.wasm_bodies_laws.proofs.reference_laws.mapped_machines.Goals as goal

pub returns : goal.returns
returns c start = record {
  runs = λ is_wanted f cx below agree wanted operators m all. run_is (WantedBy is_wanted) f cx below agree wanted operators m all;
  frames = λ is_wanted cx wanted operators m n all e. held_at _ (run cx operators m) n (run_wanted (WantedBy is_wanted) cx wanted operators m all) e;
  labels = λ is_wanted features items wanted frames all. labels_wanted (WantedBy is_wanted) features items wanted frames all;
}
