-- A chaining call with three arguments: it lends the builder to the call that it makes, and hands on the reference itself, or lets it rest where it was.
use Rattle.wasm_core_write.proofs.ChainSteps.{◌≡◌, ℕ, List, [], ◌∷◌, ◌++◌, refl, sym, subst, lit<, MutBor, proved_at, full_share, SProp, ent, id⊢, ftrue, flft, fres, Body, named}
use Rattle.wasm_core_write.proofs.ChainSteps.{Fn, Val, vptr, of_list, Env, Wp, WpFn, after_seq, at_return, fact, tables, Running, After, any_q, ‵, raw, ◌⊛◌, some, later, at_ret}
use Rattle.wasm_core_write.proofs.ChainSteps.{◌$◌, ◌∵◌, !, qed, done, move, keep, use0, use1, use2, use3, split, join, fsplit, fsplit3, fjoin, pick, await, rewrite, suffices}
use Rattle.wasm_core_write.proofs.ChainSteps.{frame, enter, of_opd, lit, addr, stop, fld, no_more, and_then, first, switches_on, exec, returns, alloc_all, pass_all, free_all}
use Rattle.wasm_core_write.proofs.ChainSteps.{look_at, get, get_in, get_tag, through, sets, sets_last, lands_as, env, whole, agg, live, vrt, in_variant, lft_new, lft_end, yes}
use Rattle.wasm_core_write.proofs.ChainSteps.{Last, rest, follows, lends_again, comes_back, LentAgain, RattleType, MutRef, plain, nothing, heard, calls_at, lasts, closing, Ended}
use Rattle.wasm_core_write.proofs.ChainSteps.{triple_of, toks, suc, framed, walk_of, Goes-spent_ref, ends_at, follows_itself, Ok, Err, IfOk, IfErr, after, head, arm_body}
use Rattle.wasm_core_write.proofs.ChainSteps.{says_three, ok_of, err_of, error_row, lowered, Done, done_row, refused, alone, good, good_refused, by_result, Model, Ura, Logic}
use Rattle.wasm_core_write.proofs.ChainArguments.{Argument}
use Rattle.wasm_core_write.proofs.ChainingCalls.{Chains, Passed, held, result_of, function, chaining, adding, stayed, added, chained}
use denote.Follow.{follows_by}

pub chains : {M : Type 1} (𝓤 : Ura M) (𝓛 : Logic 𝓤) (𝓜 : Model 𝓤 𝓛.H) (𝓡 : Running 𝓤 𝓛.H 𝓜) (n : ℕ) (R : RattleType) (x₁ x₂ x₃ : Argument n)
    → Chains n [] R (held x₁ ∷ held x₂ ∷ held x₃ ∷ []) 𝓤 𝓛 𝓜 𝓡
unfolding follows_by
chains 𝓤 𝓛 𝓜 𝓡 n R x₁ x₂ x₃ callee name W A W' turns why closed met =
    let ps : List (Passed n) = held x₁ ∷ held x₂ ∷ held x₃ ∷ [] in let f : Ended = chaining n [] R ps in let g : Ended = adding n [] R ps in
    let fn : Fn = function n [] R ps callee in let c = chained n [] R ps 𝓛 A W' in
    let 𝓣 = tables 𝓤 𝓛.H 𝓜 𝓡 𝓡.env in let Walk = walk_of 𝓛 f (stayed n [] R ps) c in
    proved_at 𝓛 f (stayed n [] R ps) c 𝓜 𝓡 (Goes-spent_ref 𝓛 (suc n) (0 ∷ []) tt (plain (λ _. R)), (x₁.goes 𝓛, (x₂.goes 𝓛, (x₃.goes 𝓛, tt))))
    name fn closed (λ y are.
    let κ = y.0.0.0 in let q = y.0.1.0 in let r = y.0.3.0 in let b = r.ref_ptr.0 in let o = r.ref_ptr.1 in
    let X1 : RattleType = x₁.row y.0.0.1 in let d1 = y.0.3.1.0 in let one1 = alone x₁.type y.0.4.1.0 (x₁.typed 𝓛 y.0.0.1 d1 y.0.4.1.0 are.1.0) in
    let X2 : RattleType = x₂.row y.0.0.1 in let d2 = y.0.3.1.1.0 in let one2 = alone x₂.type y.0.4.1.1.0 (x₂.typed 𝓛 y.0.0.1 d2 y.0.4.1.1.0 are.1.1.0) in
    let X3 : RattleType = x₃.row y.0.0.1 in let d3 = y.0.3.1.1.1.0 in let one3 = alone x₃.type y.0.4.1.1.1.0 (x₃.typed 𝓛 y.0.0.1 d3 y.0.4.1.1.1.0 are.1.1.1.0) in
    let vs : List Val = vptr b o ∷ [] in let others = raw (toks 𝓛 n y.0.0.1 y.0.1.1) in
    let given = ‵ (X1.own_val d1 y.0.4.1.0) ⊛ ‵ (X2.own_val d2 y.0.4.1.1.0) ⊛ ‵ (X3.own_val d3 y.0.4.1.1.1.0) ⊛ ‵ ftrue in
    let Ref = λ (κ' : List ℕ) (s : MutBor R.Denot) (us : List Val). (MutRef (named 0) κ' R).own_val s us in
    let Post : Val → SProp 𝓤 = Walk.post y in let Run : List Val → SProp 𝓤 = λ us. WpFn 𝓤 𝓛.H 𝓣.C 𝓣.Λ fn us Post in
    qed 𝓛 (((‵ (flft κ q) ⊛ others) ⊛ ‵ (Ref κ r y.0.4.0) ⊛ given) ∷ ‵ ftrue ∷ []) ∵
    split ! $ split ! $ move ! (2 ∷ []) $ split ! $ keep ! (0 ∷ 2 ∷ 1 ∷ 3 ∷ []) $
    rewrite ! 0 (λ (us : List Val). ‵ (Ref κ r us)) are.0.0 refl $
    rewrite ! 2 (λ (us : List Val). ‵ (X1.own_val d1 us) ⊛ ‵ (X2.own_val d2 y.0.4.1.1.0) ⊛ ‵ (X3.own_val d3 y.0.4.1.1.1.0) ⊛ ‵ ftrue) one1.1.0 refl $
    rewrite ! 2 (λ (us : List Val). ‵ (X1.own_val d1 (one1.0 ∷ [])) ⊛ ‵ (X2.own_val d2 us) ⊛ ‵ (X3.own_val d3 y.0.4.1.1.1.0) ⊛ ‵ ftrue) one2.1.0 refl $
    rewrite ! 2 (λ (us : List Val). ‵ (X1.own_val d1 (one1.0 ∷ [])) ⊛ ‵ (X2.own_val d2 (one2.0 ∷ [])) ⊛ ‵ (X3.own_val d3 us) ⊛ ‵ ftrue) one3.1.0 refl $
    suffices ! (Run (vptr b o ∷ one1.0 ∷ one2.0 ∷ one3.0 ∷ []))
    (subst (λ (us : List Val). ent 𝓤 (Run (vptr b o ∷ one1.0 ∷ one2.0 ∷ one3.0 ∷ [])) (Run us)) (sym (λ i. are.0.0 i ++ (one1.1.0 i ++ (one2.1.0 i ++ (one3.1.0 i ++ []))))) (id⊢ 𝓤 _)) $
    enter ! _ _ _ _ _ $ alloc_all ! (λ l. pass_all ! refl ((tt, tt), (one1.1.1, (one2.1.1, (one3.1.1, tt)))) $
    -- [the reference; the token; the arguments; other tokens]
    sets ! (addr ! (through ! refl (stop !))) refl (tt, tt) $
    lft_new ! tt (λ α. move ! (1 ∷ 2 ∷ []) $
    use2 𝓛 (later (some (λ (δ : ℕ). ‵ (Ref (α ∷ []) (record r { ghost_name = δ }) vs) ⊛ ‵ (LentAgain R κ (α ∷ []) q r.ghost_name b o δ r.now))))
    (lends_again 𝓛 R (named 0) κ (α ∷ []) q r.ghost_name b o (named 0) r.now) $ await ! tt $ pick ! (λ δ. split ! $
    -- [the loan; what the lender keeps; the token of α; the arguments; other tokens]
    let G = triple_of 𝓛 g.signature (closing 𝓛 g (added n [] R ps 𝓛 A W)) in
    let z : G.Ghost = (((α ∷ [], y.0.0.1), (full_share, y.0.1.1), y.0.2, (record r { ghost_name = δ }, y.0.3.1), (vs, (one1.0 ∷ [], (one2.0 ∷ [], (one3.0 ∷ [], tt))))), tt) in
    move ! (0 ∷ 3 ∷ []) $ join ! $ move ! (2 ∷ 3 ∷ 0 ∷ []) $ join ! $ join ! $
    nothing ! $ move ! (1 ∷ 0 ∷ []) $ use2 𝓛 (raw (G.pre z)) (id⊢ 𝓤 _) $
    calls_at ! (framed 𝓤 𝓛.H 𝓜 𝓣) G met z
    (and_then ! (get ! refl) (and_then ! (get ! refl) (and_then ! (get ! refl) (and_then ! (get ! refl) (no_more !))))) (λ v.
    use1 𝓛 (later (some (λ (u : Done). ((‵ (flft (α ∷ []) full_share) ⊛ others) ⊛ ‵ (done_row.own_val u (v ∷ []))) ⊛
    some (λ (ws : R.Denot × (Last (X1.exit yes) d1 × (Last (X2.exit yes) d2 × (Last (X3.exit yes) d3 × (Unit {0}))))). ‵ (lasts g z.0.0 z.0.3 ws) ⊛
    raw (fact 𝓤 (IfOk u (λ _. A z.0.0 z.0.3 (record z.0.3.0 { now = ws.0 })))) ⊛ raw (fact 𝓤 (IfErr u (λ _. ws.0 ≡ r.now))) ⊛ raw (fact 𝓤 (W z.0.0 z.0.3 u)))))) (id⊢ 𝓤 _) $
    await ! tt $ pick ! (λ u. split ! $ split ! $ split ! $ lft_end ! tt $
    move ! (3 ∷ []) $ pick ! (λ ws. split ! $ move ! (1 ∷ []) $ split ! $ heard ! _ (λ added. split ! $ heard ! _ (λ kept. heard ! _ (λ reason. fsplit ! $ fsplit ! $
    -- [the loan's last value; its borrow; nothing; α is over; other tokens; the answer; what the lender keeps]
    move ! (3 ∷ 6 ∷ 0 ∷ []) $ let r' = record r { now = ws.0 } in use3 𝓛 (later (‵ (Ref κ r' vs) ⊛ ‵ (flft κ q)))
    (comes_back 𝓛 R (named 0) κ (α ∷ []) q r.ghost_name b o δ r.now ws.0) $ await ! tt $ split ! $ move ! (5 ∷ []) $
    -- [the answer; the reference; the token; ..; other tokens]
    let En : Env 𝓤 𝓛.H = env fn.locals l in let fork : Body = head (after 2 fn.body) in let last : Body = after 3 fn.body in
    let Then : After 𝓤 𝓛.H = any_q (after_seq 𝓤 𝓛.H (Wp 𝓤 𝓛.H 𝓣.C 𝓣.Λ En last (at_return 𝓤 𝓛.H En Post)) (at_return 𝓤 𝓛.H En Post)) in
    by_result ! (λ t. (IfOk t (λ _. A z.0.0 z.0.3 (record z.0.3.0 { now = ws.0 }))) × (IfErr t (λ _. ws.0 ≡ r.now)) × (W z.0.0 z.0.3 t)) u (added, kept, reason) v
    (λ ok is e. lands_as ! e refl (tt, (record { fits = lit< tt }, (tt, tt))) $
    first ! $ switches_on ! (get_tag ! (vrt ! refl (fld ! refl (stop !))) (whole !)) $ exec ! 𝓣.C 𝓣.Λ En (arm_body 0 fork) Then $
    sets ! (addr ! (through ! refl (stop !))) refl (tt, tt) $
    sets_last ! (agg ! (and_then ! (lit ! tt) (and_then ! (get ! refl) (no_more !)))) refl (tt, (record { fits = lit< tt }, (tt, tt))) $
    exec ! 𝓣.C 𝓣.Λ En last (at_ret En Post) $ sets ! (of_opd ! (get ! refl)) refl (tt, (record { fits = lit< tt }, (tt, tt))) $
    returns ! (look_at ! 0 refl) $ free_all ! refl $
    let answer : Val = live 0 (of_list (vptr b o ∷ [])) in
    use1 𝓛 (‵ ((result_of (MutRef (named 0) κ R)).own_val (Ok r') (answer ∷ []))) (ok_of 𝓛 (MutRef (named 0) κ R) error_row r' (vptr b o)) $ keep ! (0 ∷ 1 ∷ 4 ∷ []) $
    use0 𝓛 (‵ (follows R R r.ghost_name r.ghost_name (λ w. w))) (follows_itself 𝓛 R r.ghost_name) $ move ! (1 ∷ 2 ∷ 3 ∷ []) $
    -- [the result; the token; other tokens; what follows]
    suffices ! _ (ends_at 𝓛 f (stayed n [] R ps) c y answer (Ok r') (tt, (rest (X1.exit yes) d1, (rest (X2.exit yes) d2, (rest (X3.exit yes) d3, tt)))) (tt, (tt, (tt, (tt, tt))))) $
    nothing ! $ nothing ! $ fjoin ! $ nothing ! $ fjoin ! $ nothing ! $ fjoin ! $ nothing ! $ fjoin ! $ join ! $ move ! (1 ∷ 2 ∷ 0 ∷ []) $ join ! $ join ! $ frame ! $
    says_three ! (refl, turns y.0.0 y.0.3 (α ∷ []) δ ws.0 is.0, why y.0.0 y.0.3 (α ∷ []) δ r' (Ok ok) is.2) $ done !)
    (λ error is e. lands_as ! e refl (good_refused error) $
    first ! $ switches_on ! (get_tag ! (vrt ! refl (fld ! refl (stop !))) (whole !)) $ exec ! 𝓣.C 𝓣.Λ En (arm_body 1 fork) Then $
    sets ! (of_opd ! (get_in ! (vrt ! refl (fld ! refl (stop !))) (in_variant ! 1 0 refl refl (whole !)))) refl (good error) $
    sets_last ! (agg ! (and_then ! (lit ! tt) (and_then ! (get ! refl) (no_more !)))) refl (good_refused error) $
    exec ! 𝓣.C 𝓣.Λ En last (at_ret En Post) $ sets ! (of_opd ! (get ! refl)) refl (good_refused error) $
    returns ! (look_at ! 0 refl) $ free_all ! refl $
    use1 𝓛 (‵ ((result_of (MutRef (named 0) κ R)).own_val (Err error) (refused error ∷ []))) (err_of 𝓛 (MutRef (named 0) κ R) error_row error (lowered error)) $
    move ! (1 ∷ []) $ fsplit3 ! $ keep ! (1 ∷ 3 ∷ 4 ∷ 7 ∷ []) $
    use1 𝓛 (‵ (fres r.ghost_name (R.coded.code ws.0))) (𝓛.names.obs-res r.ghost_name (R.coded.code ws.0)) $
    rewrite ! 0 (λ (m : R.Denot). ‵ (fres r.ghost_name (R.coded.code m))) is.1 refl $ move ! (1 ∷ 2 ∷ 3 ∷ []) $
    -- [the result; the token; other tokens; what the lender ends as]
    suffices ! _ (ends_at 𝓛 f (stayed n [] R ps) c y (refused error) (Err error) (tt, (rest (X1.exit yes) d1, (rest (X2.exit yes) d2, (rest (X3.exit yes) d3, tt)))) (tt, (tt, (tt, (tt, tt))))) $
    nothing ! $ nothing ! $ fjoin ! $ nothing ! $ fjoin ! $ nothing ! $ fjoin ! $ nothing ! $ fjoin ! $ join ! $ move ! (1 ∷ 2 ∷ 0 ∷ []) $ join ! $ join ! $ frame ! $
    says_three ! (tt, tt, why y.0.0 y.0.3 (α ∷ []) δ r (Err error) is.2) $ done !)))))))))))
