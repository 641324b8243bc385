-- Arguments of the lemmas in `ChainsOf..`: those of the chaining call, and how its last clause follows from that of the call that it makes.
--     Argument n       an argument of a type with one machine value, at the `n` lifetimes after the builder's
--     At n             the place of one of these lifetimes:  first, second
--     by_u32, by_i32, .., by_str a, by_slice a X, by_ref a X, by_lent_ref a b X       a number, `&str`, `&[X]`, `&X`, `&X<'b>`
--     by_value L, by_lent a L      a type that has the laws `L`: one without a lifetime, which may own memory; one with a lifetime.   by_row  any
--     by_optional L, by_optional_u32, by_optional_str a       an `Option` of one
--     lent_outlives       what the signature of a call with a `&X<'b>` alone says of its lifetimes
--     IsSilent X       nothing is said at exit of what is left of such an argument
--     same_full, same_reason       of a last clause `(result ≡ Err TooLong) ↔ ..`;  `IfErr result ..`
use Rattle.std.proofs.Common.{◌≡◌, ℕ, List, [], ◌∷◌, refl, subst}
use mir.Syntax.{Ty, Lifetime, named, erased}
use mir.Val.{Val, has_ty, WT}
use lib.Dec.{T}
use types.Logic.{Logic}
use seplogic.Ra.Ura.{Ura}
use contract.Lifetimes.{Lfts, Outlives}
use Prim.Native.Nat.{suc}
use base.Fml.{Lft}
use denote.Ref.{NamedLft, ShrRef, shr_Lawful}
use denote.Slice.{ShrSlice, shr_slice_Lawful}
use denote.Exit.{yes, Last, left}
use denote.RattleType.{RattleType}
use denote.Laws.{Typed, Is, Lawful}
use denote.Param.Laws.{Laws, of_field}
use denote.Param.{layout}
use denote.Param.Shared.{copy_shared}
use denote.Struct.Field.{Field, u32-field, i32-field, i64-field, i128-field}
use denote.Struct.Laws.{FLaws, u32-laws, i32-laws, i64-laws, i128-laws, u32-copy}
use denote.Text.{Str}
use borrow.Table.Str.{str_laws}
use denote.Signature.{Slot, plain}
use denote.Triple.Walked.{Goes, stay_dropped}
use denote.Param.Mute.{blank}
use mathlib.Core.Logic.{◌↔◌}
use Rattle.std.proofs.alloc.Calls.{Goes-blank}
use Rattle.std.specs.contracts.option.Option.{the_row as OptionOf}
use Rattle.std.proofs.option.Option.TheLaws.{the_row_laws as option_laws}
use Rattle.std.specs.Prelude.{Result, Ok, Err, IfErr}
use Rattle.wasm_core_write.specs.declared.encode_error.EncodeError.TheVariants.{TooLong}
use Rattle.wasm_core_write.proofs.Chains.{Error, Done, with_ok, same_error}

-- a chaining call is refused as too long where the call that it makes is
pub same_full : {B : Type 0} (y : B) {Q : Type 0} (u : Done) → ((u ≡ Err TooLong) ↔ Q) → ((with_ok y u ≡ Err TooLong) ↔ Q)
same_full y u h = same_error tt y TooLong u h

-- the same of what is said at `Err` alone
pub same_reason : {A B : Type 0} (P : Error → Type 0) (y : B) (u : Result A Error) → IfErr u P → IfErr (with_ok y u) P
same_reason P y (Ok x) h = h
same_reason P y (Err e) h = h

-- a lifetime: as the code names it in a signature, and the lifetime itself
pub record At (n : ℕ) : Type 0 where
  pub mir : Lifetime
  pub lft : Lfts n → Lft

abbrev pub first : {n : ℕ} → At (suc n)
first = record { mir = named 1; lft = λ κs. κs.0 }

abbrev pub second : {n : ℕ} → At (suc (suc n))
second = record { mir = named 2; lft = λ κs. κs.1.0 }

-- what a contract says of an argument at exit, which is nothing
abbrev pub IsSilent : RattleType → Type 0
IsSilent X = (x : X.Denot) (w : Last (X.exit yes) x) → T (blank (left (X.exit yes) x w))

pub record Argument (n : ℕ) : Type 2 where
  pub row : Lfts n → RattleType
  pub type : Ty
  pub typed : {M : Type 1} {𝓤 : Ura M} (𝓛 : Logic 𝓤) (κs : Lfts n) (x : (row κs).Denot) (vs : List Val) → Is (row κs) x vs → Typed (type ∷ []) vs
  pub goes : {M : Type 1} {𝓤 : Ura M} (𝓛 : Logic 𝓤) → Goes 𝓛 (suc n) (plain (λ κs. row κs.1)) yes (stay_dropped (plain (λ κs. row κs.1)) yes)
  -- the type of a local that the code may move it to
  pub moved : Ty
  pub moves : (v : Val) → T (has_ty type v) × WT v → T (has_ty moved v) × WT v

abbrev pub slot_of : {n : ℕ} → Argument n → Slot (suc n)
slot_of x = plain (λ κs. x.row κs.1)

abbrev lawful : {n : ℕ} (X : Lfts n → RattleType) (τ : Ty) → ((M : Type 1) (𝓤 : Ura M) (𝓛 : Logic 𝓤) (κs : Lfts n) → Lawful 𝓛 (X κs))
    → ((κs : Lfts n) → (X κs).mir ≡ τ ∷ []) → ((κs : Lfts n) → IsSilent (X κs)) → Argument n
lawful X τ L one still = record {
  row = X;
  type = τ;
  typed = λ {M} {𝓤} 𝓛 κs x vs is. subst (λ (τs : List Ty). Typed τs vs) (one κs) ((L M 𝓤 𝓛 κs).typed x vs is);
  goes = λ 𝓛. Goes-blank 𝓛 (suc _) (plain (λ κs. X κs.1)) yes (λ κs. still κs.1);
  moved = τ;
  moves = λ v t. t;
}

abbrev pub by_row : {n : ℕ} (X : Lfts n → RattleType) (τ : Ty) → ((κs : Lfts n) → Laws (X κs)) → ((κs : Lfts n) → (X κs).mir ≡ τ ∷ [])
    → ((κs : Lfts n) → IsSilent (X κs)) → Argument n
by_row X τ L one still = lawful X τ (λ M 𝓤 𝓛 κs. (L κs).lawful 𝓛) one still

abbrev pub by_value : {n : ℕ} {X : RattleType} → Laws X → IsSilent X → Argument n
by_value {n} {X} L still = by_row (λ _. X) (layout X) (λ _. L) (λ _. L.one) (λ _. still)

abbrev by_int : {n : ℕ} (F : Field) → FLaws F → F.row.mir ≡ layout F.row ∷ [] → IsSilent F.row → Argument n
by_int F L one still = lawful (λ _. F.row) (layout F.row) (λ M 𝓤 𝓛 κs. L.lawful 𝓛) (λ _. one) (λ _. still)

abbrev pub by_u32 : {n : ℕ} → Argument n
by_u32 = by_int u32-field u32-laws refl (λ x w. tt)

abbrev pub by_i32 : {n : ℕ} → Argument n
by_i32 = by_int i32-field i32-laws refl (λ x w. tt)

abbrev pub by_i64 : {n : ℕ} → Argument n
by_i64 = by_int i64-field i64-laws refl (λ x w. tt)

abbrev pub by_i128 : {n : ℕ} → Argument n
by_i128 = by_int i128-field i128-laws refl (λ x w. tt)

abbrev pub by_optional : {n : ℕ} {X : RattleType} → Laws X → IsSilent (OptionOf X) → Argument n
by_optional {n} {X} L still = by_value (option_laws X L) still

abbrev pub by_optional_u32 : {n : ℕ} → Argument n
by_optional_u32 = by_optional (of_field u32-field u32-laws refl (copy_shared u32-field u32-copy)) (λ x w. tt)

abbrev pub by_str : {n : ℕ} → At n → Argument n
by_str a = by_row (λ κs. Str a.mir (a.lft κs)) (layout (Str a.mir [])) (λ κs. str_laws (record { mir = a.mir; lft = a.lft κs })) (λ κs. refl) (λ κs x w. tt)

abbrev pub by_slice : {n : ℕ} → At n → RattleType → Argument n
by_slice a X = lawful (λ κs. ShrSlice a.mir (a.lft κs) X) (layout (ShrSlice a.mir [] X))
    (λ M 𝓤 𝓛 κs. shr_slice_Lawful 𝓛 a.mir (a.lft κs) X) (λ κs. refl) (λ κs x w. tt)

abbrev pub by_ref : {n : ℕ} → At n → RattleType → Argument n
by_ref a X = lawful (λ κs. ShrRef a.mir (a.lft κs) X) (layout (ShrRef a.mir [] X))
    (λ M 𝓤 𝓛 κs. shr_Lawful 𝓛 a.mir (a.lft κs) X) (λ κs. refl) (λ κs x w. tt)

-- a `&X<'b>` is one for no longer than its `'b`, where these are the call's two lifetimes
abbrev pub lent_outlives : List (Outlives 3)
lent_outlives = record { long = 2; long_ok = tt; short = named 1; short_ok = tt } ∷ []

-- a type with a lifetime, at one of the call's
abbrev lent_at : {n : ℕ} → (NamedLft → RattleType) → At n → Lfts n → RattleType
lent_at X a κs = X (record { mir = a.mir; lft = a.lft κs })

-- the same as the code has it, where only the lifetime's name matters
abbrev named_at : {n : ℕ} → (NamedLft → RattleType) → At n → RattleType
named_at X a = X (record { mir = a.mir; lft = [] })

abbrev pub by_lent_ref : {n : ℕ} (a b : At n) (X : NamedLft → RattleType)
    → ((κs : Lfts n) → (ShrRef a.mir (a.lft κs) (lent_at X b κs)).mir ≡ layout (ShrRef a.mir [] (named_at X b)) ∷ []) → Argument n
by_lent_ref a b X one = lawful (λ κs. ShrRef a.mir (a.lft κs) (lent_at X b κs)) (layout (ShrRef a.mir [] (named_at X b)))
    (λ M 𝓤 𝓛 κs. shr_Lawful 𝓛 a.mir (a.lft κs) (lent_at X b κs)) one (λ κs x w. tt)

-- by value: the code moves it to a local whose type names no lifetime
abbrev pub by_lent : {n : ℕ} (a : At n) {X : NamedLft → RattleType} → ((b : NamedLft) → Laws (X b)) → ((κs : Lfts n) → (lent_at X a κs).mir ≡ layout (named_at X a) ∷ [])
    → ((b : NamedLft) → IsSilent (X b))
    → ((v : Val) → T (has_ty (layout (named_at X a)) v) × WT v → T (has_ty (layout (X (record { mir = erased; lft = [] }))) v) × WT v) → Argument n
by_lent a {X} L one still moves = record (by_row (lent_at X a) (layout (named_at X a)) (λ κs. L (record { mir = a.mir; lft = a.lft κs })) one
    (λ κs. still (record { mir = a.mir; lft = a.lft κs }))) {
      moved = layout (X (record { mir = erased; lft = [] }));
      moves = moves;
    }

abbrev pub by_optional_str : {n : ℕ} → At n → Argument n
by_optional_str a = by_lent a (λ b. option_laws (Str b.mir b.lft) (str_laws b)) (λ κs. refl) (λ b x w. tt) (λ v t. t)
