-- `section` lends the module to `push`, and hands on the reference itself, or lets it rest where it was.
use Rattle.std.proofs.Common.{◌≡◌, ℕ, ◌+◌, ◌^◌, ◌<◌, ◌≤◌, List, [], ◌∷◌, ◌++◌, length, refl, sym, subst, lit<, MutBor}
use Rattle.std.proofs.raw_atomic.Walks.{proved_at}
use mathlib.Core.Logic.{◌↔◌}
use base.Fraction.{full_share}
use base.Logic.{SProp, ent, emp, id⊢}
use base.Fml.{ftrue, flft, fres}
use mir.Syntax.{Body, Fn, named, a_type, dcons, dnil}
use mir.MapTy.{inst_fn}
use mir.Val.{Val, vptr, of_list}
use prog.Wp.{Env, Wp, WpFn, after_seq, at_return}
use contract.Monad.{fact, fact_i}
use contract.BorrowLft.{◌⊑◌}
use contract.Running.{tables}
use types.Kit.{Post as After, any_q, ‵, raw, ◌⊛◌, some, later, at_ret, ◌$◌, ◌∵◌, !, qed, done, move, keep, use0, use1, use2, use3, split, join, fsplit, fsplit3, fjoin, pick, await, drop, rewrite, suffices, frame}
use types.Run.{enter, of_opd, lit, addr, stop, fld, no_more, and_then, first, switches_on, exec, returns}
use types.ByLocal.{alloc_all, pass_all, free_all, look_at, get, get_in, get_tag, through, sets, sets_last, lands_as, env}
use types.Part.{whole, agg}
use types.Match.{live, vrt, in_variant}
use types.Tokens.{lft_new, lft_end}
use denote.Exit.{yes, no}
use denote.Param.{param, bounded}
use denote.Follow.{follows, follows_by}
use denote.Lend.{lends_again, comes_back, LentAgain}
use denote.RattleType.{RattleType}
use denote.Ref.{MutRef, ShrRef}
use denote.Builtin.{RefOf}
use denote.Signature.{plain, mut_ref_to}
use denote.Steps.{nothing, heard}
use denote.Triple.Call.{calls_at}
use denote.Triple.Clauses.{lasts}
use denote.Triple.Spec.{triple_of}
use denote.Triple.Table.{framed}
use denote.Triple.Walked.{Stays, stay_dropped, walk_of, Goes-dropped, Goes-spent_ref, ends_at}
use borrow.Follows.Kept.{follows_itself}
use Rattle.std.specs.Prelude.{Ok, Err, IfOk, IfErr}
use Rattle.std.specs.contracts.result.Result as RS
use Rattle.std.proofs.VecSteps.Shapes.{after, head, arm_body}
use Rattle.std.proofs.ResultValues.{ok_of, err_of}
use Rattle.wasm_core_write.specs.declared.encode_error.EncodeError.TheVariants as EncodeError
use Rattle.wasm_core_write.specs.contracts.encode_error.EncodeError.{the_row as error_row}
use Rattle.wasm_core_write.proofs.encode_error.EncodeError.TheLaws.{lowered}
use Rattle.wasm_core_write.specs.contracts.module.Module.{the_row as R}
use Rattle.wasm_core_write.proofs.Chains.{Done, done_row, refused, good, good_refused, same_error, by_result, says, five_facts}
use Rattle.wasm_core_write.specs.contracts.module.Module.section as f
use Rattle.wasm_core_write.proofs.module.Module.section.Statement.{statement}
use Rattle.wasm_core_write.proofs.module.Module.section.Code as code
use Rattle.wasm_core_write.specs.contracts.module.Module.push as g
use Rattle.wasm_core_write.proofs.module.Module.push.Met.{met}

abbrev Out : List ℕ → RattleType
Out κ = RS.the_row (MutRef (named 0) κ R) error_row

pub section_spec : {M : Type 1} → statement M
unfolding follows_by
section_spec 𝓤 𝓛 𝓜 𝓡 wired S L sg sd eg ed sections encodes =
    let P : RattleType = param 0 S in let args = bounded (a_type ∷ []) (S, tt) (dcons sd (dcons ed dnil)) in let fn : Fn = inst_fn args code.function in let En₀ = f.ended S sg sd eg ed in
    let hs : Stays En₀.signature.params En₀.kept = (stay_dropped (mut_ref_to (0 ∷ []) tt (plain (λ _. R))) no, (stay_dropped (RefOf (1 ∷ []) tt (plain (λ _. P)) (λ _. tt)) yes, tt)) in
    let c = f.clauses S sg sd eg ed 𝓛 𝓜.mem 𝓡.returns in let 𝓣 = tables 𝓤 𝓛.H 𝓜 𝓡 𝓡.env in let W = walk_of 𝓛 En₀ hs c in
    proved_at 𝓛 En₀ hs c 𝓜 𝓡 (Goes-spent_ref 𝓛 3 (0 ∷ []) tt (plain (λ _. R)), (Goes-dropped 𝓛 3 (RefOf (1 ∷ []) tt (plain (λ _. P)) (λ _. tt)) yes (λ κs x w. refl), tt))
    (f.Key.name args) fn (code.unfolded 𝓤 𝓛.H 𝓜 𝓡 wired (S, tt) sd ed) (λ y are.
    let κ = y.0.0.0 in let q = y.0.1.0 in let κ₁ = y.0.0.1.0 in let q₁ = y.0.1.1.0 in let κ₂ = y.0.0.1.1.0 in let q₂ = y.0.1.1.1.0 in
    let r = y.0.3.0 in let x = y.0.3.1.0 in let b = r.ref_ptr.0 in let o = r.ref_ptr.1 in
    let next : List ℕ = r.now.bytes ++ sg.number x.now ∷ eg.encoding x.now in let IsFull : Type 0 = 2 ^ 32 ≤ eg.longest x.now in
    let NoRoom : Type 0 = r.now.capacity < length r.now.bytes + 1 + length (eg.encoding x.now) in
    let X : RattleType = ShrRef (named 1) κ₁ P in let xv : Val = vptr x.ref_ptr.0 x.ref_ptr.1 in let vs : List Val = vptr b o ∷ [] in
    let others = ‵ (flft κ₁ q₁) ⊛ ‵ (flft κ₂ q₂) ⊛ ‵ ftrue in
    let Ref = λ (κ' : List ℕ) (s : MutBor R.Denot) (us : List Val). (MutRef (named 0) κ' R).own_val s us in
    let Post : Val → SProp 𝓤 = W.post y in let Run : List Val → SProp 𝓤 = λ us. WpFn 𝓤 𝓛.H 𝓣.C 𝓣.Λ fn us Post in
    qed 𝓛 (((‵ (flft κ q) ⊛ others) ⊛ ‵ (Ref κ r y.0.4.0) ⊛ ‵ (X.own_val x y.0.4.1.0) ⊛ ‵ ftrue) ∷ (raw (fact 𝓤 (κ₂ ⊑ S.lives)) ⊛ ‵ ftrue) ∷ []) ∵
    move ! (1 ∷ []) $ split ! $ heard ! (κ₂ ⊑ S.lives) (λ within. drop ! $
    split ! $ split ! $ move ! (2 ∷ []) $ split ! $ move ! (1 ∷ []) $ split ! $ keep ! (2 ∷ 3 ∷ 0 ∷ 4 ∷ []) $
    rewrite ! 0 (λ (us : List Val). ‵ (Ref κ r us)) are.0.0 refl $ rewrite ! 2 (λ (us : List Val). ‵ (X.own_val x us)) are.1.0.0 refl $
    suffices ! (Run (vptr b o ∷ xv ∷ [])) (subst (λ (us : List Val). ent 𝓤 (Run (vptr b o ∷ xv ∷ [])) (Run us)) (sym (λ i. are.0.0 i ++ (are.1.0.0 i ++ []))) (id⊢ 𝓤 _)) $
    enter ! _ _ _ _ _ $ alloc_all ! (λ l. pass_all ! refl ((tt, tt), ((tt, tt), tt)) $
    -- [the reference; the token; the argument]
    sets ! (addr ! (through ! refl (stop !))) refl (tt, tt) $
    lft_new ! tt (λ α. move ! (1 ∷ 2 ∷ []) $
    use2 𝓛 (later (some (λ (δ : ℕ). ‵ (Ref (α ∷ []) (record r { ghost_name = δ }) vs) ⊛ ‵ (LentAgain R κ (α ∷ []) q r.ghost_name b o δ r.now))))
    (lends_again 𝓛 R (named 0) κ (α ∷ []) q r.ghost_name b o (named 0) r.now) $ await ! tt $ pick ! (λ δ. split ! $
    -- [the loan; what the lender keeps; the token of α; the argument]
    let G = triple_of 𝓛 (g.signature S) (g.spec S sg sd eg ed 𝓛 𝓜.mem 𝓡.returns) in
    let z : G.Ghost = (((α ∷ [], (κ₁, (κ₂, tt))), (full_share, (q₁, (q₂, tt))), y.0.2, (record r { ghost_name = δ }, (x, tt)), (vs, (xv ∷ [], tt))), tt) in
    nothing ! $ move ! (4 ∷ 0 ∷ []) $ join ! $ move ! (1 ∷ 0 ∷ []) $ join ! $ move ! (2 ∷ 3 ∷ 0 ∷ []) $ join ! $ join ! $
    nothing ! $ use0 𝓛 (raw (fact 𝓤 (κ₂ ⊑ S.lives))) (fact_i 𝓤 (κ₂ ⊑ S.lives) (emp 𝓤) within) $ join ! $ move ! (1 ∷ 0 ∷ []) $ use2 𝓛 (raw (G.pre z)) (id⊢ 𝓤 _) $
    calls_at ! (framed 𝓤 𝓛.H 𝓜 𝓣) G (met 𝓤 𝓛 𝓜 𝓡 (code.calls-wasm_core_write::module::Module::push 𝓡.env wired) S L sg sd eg ed sections encodes) z
    (and_then ! (get ! refl) (and_then ! (get ! refl) (no_more !))) (λ v.
    use1 𝓛 (later (some (λ (u : Done). ((‵ (flft (α ∷ []) full_share) ⊛ others) ⊛ ‵ (done_row.own_val u (v ∷ []))) ⊛
    some (λ (ws : R.Denot × (Unit {0} × Unit {0})). ‵ (lasts (g.ended S sg sd eg ed) z.0.0 z.0.3 ws) ⊛
    raw (fact 𝓤 (IfOk u (λ _. ws.0.bytes ≡ next))) ⊛ raw (fact 𝓤 (IfErr u (λ _. ws.0 ≡ r.now))) ⊛ raw (fact 𝓤 (r.now.capacity ≤ ws.0.capacity)) ⊛ raw (fact 𝓤 (IfErr u (λ e. e ≡ EncodeError.Memory → NoRoom))) ⊛
    raw (fact 𝓤 ((u ≡ Err EncodeError.TooLong) ↔ IsFull)))))) (id⊢ 𝓤 _) $
    await ! tt $ pick ! (λ u. split ! $ split ! $ split ! $ lft_end ! tt $
    move ! (3 ∷ []) $ pick ! (λ ws. split ! $ move ! (1 ∷ []) $ split ! $ heard ! _ (λ added. split ! $ heard ! _ (λ kept. split ! $ heard ! _ (λ grown. split ! $ heard ! _ (λ room. heard ! _ (λ long. fsplit ! $ fsplit ! $
    -- [the loan's last value; its borrow; nothing; α is over; nothing; the answer; what the lender keeps]
    move ! (3 ∷ 6 ∷ 0 ∷ []) $ let r' = record r { now = ws.0 } in use3 𝓛 (later (‵ (Ref κ r' vs) ⊛ ‵ (flft κ q)))
    (comes_back 𝓛 R (named 0) κ (α ∷ []) q r.ghost_name b o δ r.now ws.0) $ await ! tt $ split ! $ move ! (5 ∷ []) $
    -- [the answer; the reference; the token]
    let En : Env 𝓤 𝓛.H = env fn.locals l in let fork : Body = head (after 2 fn.body) in let last : Body = after 3 fn.body in
    let Then : After 𝓤 𝓛.H = any_q (after_seq 𝓤 𝓛.H (Wp 𝓤 𝓛.H 𝓣.C 𝓣.Λ En last (at_return 𝓤 𝓛.H En Post)) (at_return 𝓤 𝓛.H En Post)) in
    by_result ! (λ t. (IfOk t (λ _. ws.0.bytes ≡ next)) × (IfErr t (λ _. ws.0 ≡ r.now)) × (IfErr t (λ e. e ≡ EncodeError.Memory → NoRoom)) × ((t ≡ Err EncodeError.TooLong) ↔ IsFull)) u (added, kept, room, long) v
    (λ ok is e. lands_as ! e refl (tt, (record { fits = lit< tt }, (tt, tt))) $
    first ! $ switches_on ! (get_tag ! (vrt ! refl (fld ! refl (stop !))) (whole !)) $ exec ! 𝓣.C 𝓣.Λ En (arm_body 0 fork) Then $
    sets ! (addr ! (through ! refl (stop !))) refl (tt, tt) $
    sets_last ! (agg ! (and_then ! (lit ! tt) (and_then ! (get ! refl) (no_more !)))) refl (tt, (record { fits = lit< tt }, (tt, tt))) $
    exec ! 𝓣.C 𝓣.Λ En last (at_ret En Post) $ sets ! (of_opd ! (get ! refl)) refl (tt, (record { fits = lit< tt }, (tt, tt))) $
    returns ! (look_at ! 0 refl) $ free_all ! refl $
    let answer : Val = live 0 (of_list (vptr b o ∷ [])) in
    use1 𝓛 (‵ ((Out κ).own_val (Ok r') (answer ∷ []))) (ok_of 𝓛 (MutRef (named 0) κ R) error_row r' (vptr b o)) $ keep ! (0 ∷ 1 ∷ 4 ∷ []) $
    use0 𝓛 (‵ (follows R R r.ghost_name r.ghost_name (λ w. w))) (follows_itself 𝓛 R r.ghost_name) $ move ! (1 ∷ 2 ∷ 3 ∷ []) $
    -- [the result; the token; what follows]
    suffices ! _ (ends_at 𝓛 En₀ hs c y answer (Ok r') (tt, (tt, tt)) (tt, (tt, tt))) $
    nothing ! $ nothing ! $ fjoin ! $ nothing ! $ fjoin ! $ join ! $ move ! (1 ∷ 2 ∷ 0 ∷ []) $ join ! $ join ! $ frame ! $
    says ! _ (five_facts 𝓛 _ _ _ _ _ (refl, is.0, grown, tt, same_error tt r' EncodeError.TooLong (Ok ok) is.3)) $ done !)
    (λ error is e. lands_as ! e refl (good_refused error) $
    first ! $ switches_on ! (get_tag ! (vrt ! refl (fld ! refl (stop !))) (whole !)) $ exec ! 𝓣.C 𝓣.Λ En (arm_body 1 fork) Then $
    sets ! (of_opd ! (get_in ! (vrt ! refl (fld ! refl (stop !))) (in_variant ! 1 0 refl refl (whole !)))) refl (good error) $
    sets_last ! (agg ! (and_then ! (lit ! tt) (and_then ! (get ! refl) (no_more !)))) refl (good_refused error) $
    exec ! 𝓣.C 𝓣.Λ En last (at_ret En Post) $ sets ! (of_opd ! (get ! refl)) refl (good_refused error) $
    returns ! (look_at ! 0 refl) $ free_all ! refl $
    use1 𝓛 (‵ ((Out κ).own_val (Err error) (refused error ∷ []))) (err_of 𝓛 (MutRef (named 0) κ R) error_row error (lowered error)) $
    move ! (1 ∷ []) $ fsplit3 ! $ keep ! (1 ∷ 3 ∷ 4 ∷ 7 ∷ []) $
    use1 𝓛 (‵ (fres r.ghost_name (R.coded.code ws.0))) (𝓛.names.obs-res r.ghost_name (R.coded.code ws.0)) $
    rewrite ! 0 (λ (m : R.Denot). ‵ (fres r.ghost_name (R.coded.code m))) is.1 refl $ move ! (1 ∷ 2 ∷ 3 ∷ []) $
    -- [the result; the token; what the lender ends as]
    suffices ! _ (ends_at 𝓛 En₀ hs c y (refused error) (Err error) (tt, (tt, tt)) (tt, (tt, tt))) $
    nothing ! $ nothing ! $ fjoin ! $ nothing ! $ fjoin ! $ join ! $ move ! (1 ∷ 2 ∷ 0 ∷ []) $ join ! $ join ! $ frame ! $
    says ! _ (five_facts 𝓛 _ _ _ _ _ (tt, tt, tt, is.2, same_error tt r' EncodeError.TooLong (Err error) is.3)) $ done !))))))))))))))
