-- How the walk of a chaining call goes on from what the call that it makes answered.
--     alone            values of one MIR type are one value, of that type
--     good, good_refused      an error's machine value, and that of an `Err` of it, are of their types
--     by_result        a proof's step: the two cases of the answer, with what is said of it, and its machine value
--     same_error       a `Result` with another value at `Ok` is that error where the first one is
--     says, five_facts     a proof's step: five facts are shown, and the rest of the goal is left
use mathlib.Core.Path.{◌≡◌, refl, ap, ◌∙◌}
use mathlib.Core.List.{List, [], ◌∷◌, ◌++◌}
use mathlib.Core.Logic.{◌↔◌}
use lib.Dec.{T, lit<}
use seplogic.Ra.Ura.{Ura}
use mir.Syntax.{Ty, ty_unit, ty_enum, tcons, tnil, ttcons, ttnil}
use mir.Val.{Val, vunit, vcons, vnil, of_list, has_ty, WT}
use types.Logic.{Logic}
use base.Logic.{SProp, ent, sep, emp, via}
use contract.Monad.{fact, fact_i}
use types.Kit.{Goal, Seq, Item, Step, step, prop, raw, ‵, ◌$◌, ◌∵◌, !, qed, use0, done, fpick, fsplit, feq_l, rewrite, move, drop}
use types.Match.{live}
use denote.RattleType.{RattleType}
use denote.Builtin.{unit}
use denote.Laws.{Is, Typed, shows}
use denote.Steps.{peeks, only}
use Rattle.std.specs.Prelude.{Result, Ok, Err}
use Rattle.std.specs.contracts.result.Result as RS
use Rattle.wasm_core_write.specs.declared.encode_error.EncodeError.TheVariants as error
use Rattle.wasm_core_write.specs.contracts.encode_error.EncodeError.{the_row as error_row}
use Rattle.wasm_core_write.proofs.encode_error.EncodeError.TheLaws.{lowers, lowered, mir as error_ty}

abbrev pub Error : Type 0
Error = error.the_data

abbrev pub Done : Type 0
Done = Result (Unit {0}) Error

abbrev pub done_row : RattleType
done_row = RS.the_row unit error_row

abbrev pub refused : Error → Val
refused e = live 1 (vcons (lowered e) vnil)

pub alone : (τ : Ty) (vs : List Val) → Typed (τ ∷ []) vs → (v : Val) × ((vs ≡ v ∷ []) × (T (has_ty τ v) × WT v))
alone τ [] t = absurd t
alone τ (v ∷ []) t = (v, (refl, t.0))
alone τ (v ∷ w ∷ vs) t = absurd t.1

pub good : (e : Error) → T (has_ty error_ty (lowered e)) × WT (lowered e)
good error.Memory = (tt, (record { fits = lit< tt }, tt))
good error.TooLong = (tt, (record { fits = lit< tt }, tt))

-- of a `Result`, whatever its first type is
pub good_refused : (e : Error) → T (has_ty (ty_enum [] (ttcons (tcons ty_unit tnil) (ttcons (tcons error_ty tnil) ttnil))) (refused e)) × WT (refused e)
good_refused error.Memory = (tt, (record { fits = lit< tt }, ((record { fits = lit< tt }, tt), tt)))
good_refused error.TooLong = (tt, (record { fits = lit< tt }, ((record { fits = lit< tt }, tt), tt)))

abbrev pub with_ok : {A B : Type 0} → B → Result A Error → Result B Error
with_ok y (Ok x) = Ok y
with_ok y (Err e) = Err e

pub same_error : {A B : Type 0} (x : A) (y : B) (e : Error) {Q : Type 0} (u : Result A Error) → ((u ≡ Err e) ↔ Q) → ((with_ok y u ≡ Err e) ↔ Q)
same_error x y e (Ok z) h = ((λ is. h.0 (ap (with_ok z) is)), (λ q. ap (with_ok y) (h.1 q)))
same_error x y e (Err z) h = ((λ is. h.0 (ap (with_ok x) is)), (λ q. ap (with_ok y) (h.1 q)))

module _ {M : Type 1} {𝓤 : Ura M} {𝓛 : Logic 𝓤} {K : Type 0} {Γ : List (Item 𝓤)} {G : Goal 𝓤 𝓛.H} where
  pub by_result : K → (F : Done → Type 0) (u : Done) → F u → (v : Val)
      → ((x : Unit {0}) → F (Ok x) → v ≡ live 0 (vcons vunit vnil) → Seq K 𝓛 Γ G)
      → ((e : Error) → F (Err e) → v ≡ refused e → Seq K 𝓛 (‵ (error_row.own_val e (lowered e ∷ [])) ∷ Γ) G)
      → Seq K 𝓛 (‵ (done_row.own_val u (v ∷ [])) ∷ Γ) G
  by_result t F (Ok x) f v ok err =
      fpick t (λ us. fsplit t $ feq_l t (λ e. fpick t (λ vss. fsplit t $ feq_l t (λ e'. fsplit t $ feq_l t (λ e''. drop t $
      ok x f (ap only e ∙ ap (λ (ws : List Val). live 0 (of_list ws)) (e' ∙ ap (λ (ws : List Val). ws ++ []) e'')))))))
  by_result t F (Err x) f v ok err =
      fpick t (λ us. fsplit t $ feq_l t (λ e. fpick t (λ vss. fsplit t $ feq_l t (λ e'. fsplit t $
      peeks t error_row (Is error_row) (shows 𝓛 error_row) x vss.0 (λ is. let e'' = lowers.val_is x vss.0 is in
      rewrite t 0 (λ (ws : List Val). ‵ (error_row.own_val x ws)) e'' refl $ move t (1 ∷ []) $ drop t $
      err x f (ap only e ∙ ap (λ (ws : List Val). live 1 (of_list ws)) (e' ∙ ap (λ (ws : List Val). ws ++ []) e'')))))))

-- facts one after the other hold of nothing
and_fact : {M : Type 1} {𝓤 : Ura M} (𝓛 : Logic 𝓤) (φ : Type 0) (F : SProp 𝓤) → φ → ent 𝓤 (emp 𝓤) F → ent 𝓤 (emp 𝓤) (sep 𝓤 (fact 𝓤 φ) F)
and_fact {𝓤 = 𝓤} 𝓛 φ F x f = qed 𝓛 [] ∵ use0 𝓛 (raw F) f $ use0 𝓛 (raw (fact 𝓤 φ)) (fact_i 𝓤 φ (emp 𝓤) x) $ done !

-- a proof's step: what holds of nothing is shown, and the rest of the goal is left
pub says : {M : Type 1} {𝓤 : Ura M} {𝓛 : Logic 𝓤} {K : Type 0} {Γ : List (Item 𝓤)} {P : SProp 𝓤} → K → (F : SProp 𝓤) → ent 𝓤 (emp 𝓤) F → Step K 𝓛 Γ (prop P) Γ (prop (sep 𝓤 P F))
says {𝓤 = 𝓤} {𝓛 = 𝓛} {P = P} t F f = step (λ s. record { prf = via 𝓤 P s.prf (qed 𝓛 (raw P ∷ []) ∵ use0 𝓛 (raw F) f $ move ! (1 ∷ []) $ done !) })

pub five_facts : {M : Type 1} {𝓤 : Ura M} (𝓛 : Logic 𝓤) (φ ψ χ υ ω : Type 0) → φ × ψ × χ × υ × ω
    → ent 𝓤 (emp 𝓤) (sep 𝓤 (fact 𝓤 φ) (sep 𝓤 (fact 𝓤 ψ) (sep 𝓤 (fact 𝓤 χ) (sep 𝓤 (fact 𝓤 υ) (fact 𝓤 ω)))))
five_facts {𝓤 = 𝓤} 𝓛 φ ψ χ υ ω x =
    and_fact 𝓛 φ _ x.0 (and_fact 𝓛 ψ _ x.1 (and_fact 𝓛 χ _ x.2 (and_fact 𝓛 υ _ x.3 (fact_i 𝓤 ω (emp 𝓤) x.4))))
