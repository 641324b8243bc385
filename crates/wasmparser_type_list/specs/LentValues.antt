-- What becomes of a held value that was lent.
use Rattle.std.specs.Prelude.{◌≡◌, ⊤, Bool, if◌then◌else◌}
use Rattle.std.specs.Borrow.{Fml, Lends, MutBor, RattleType, follows_so}
use mathlib.Core.Option.{none}
use Rattle.wasmparser_type_list.specs.HeldValues.{Held, owned, shared_from_now}
use Rattle.wasmparser_type_list.specs.declared.maybe_owned.Holder.{Holder}
use Rattle.wasmparser_type_list.specs.declared.maybe_owned.Holder.TheVariants.{Owned}
use Rattle.wasmparser_type_list.specs.contracts.maybe_owned.Holder.{the_row as holder_row}
use Rattle.wasmparser_type_list.specs.contracts.maybe_owned.MaybeOwned.{the_row as kept_row}

abbrev pub LendsOwned : (T : RattleType) → MutBor (Holder T.Denot) → MutBor T.Denot → Fml
LendsOwned T holder lent = Lends (holder_row T) T holder lent Owned

abbrev pub LendsHeld : (T : RattleType) → MutBor (Held T.Denot) → MutBor T.Denot → Fml
LendsHeld T kept lent = Lends (kept_row T) T kept lent owned

abbrev pub EndsShared : (T : RattleType) → MutBor (Held T.Denot) → Bool → Fml
EndsShared T kept is_ok = follows_so (kept_row T) (kept_row T) kept.ghost_name none (λ _ _. ⊤) (λ end. end ≡ (if is_ok then shared_from_now kept.now else kept.now))
