use Rattle.wasm_bodies.proofs.MoreFeatures.{body_up}
use Rattle.wasm_bodies.proofs.laws.more_features.Goals as goal

pub returns : goal.returns
returns c = record { stays = λ fewer more items type bytes up. body_up fewer more up items type bytes }
