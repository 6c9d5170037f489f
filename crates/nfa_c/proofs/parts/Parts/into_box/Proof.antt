-- `into_box` hands what the parts own to `from_raw`, which makes a box of it.
use Rattle.std.proofs.Common.{◌≡◌, List, [], ◌∷◌, ◌++◌, refl, sym, subst, ap}
use lib.Dec.{T}
use seplogic.Ra.Ura.{Ura}
use mir.Syntax.{Body, Fn, assign, copy, place, return, rv_opd, seq}
use mir.MapTy.{inst_fn}
use mir.Val.{Val, WT, has_ty, vptr}
use base.Logic.{SProp, ent, id⊢}
use base.Fml.{flft, fsep, ftrue}
use contract.BorrowLft.{◌⊑◌}
use contract.Monad.{Fun, fact}
use contract.Running.{tables, tables_of}
use prog.Memory.{Memory}
use prog.Routine.{Routine}
use prog.Wp.{Tables, WpFn}
use sound.WpLaws.{WpFn-mono, fm_of}
use types.Logic.{Logic}
use types.Kit.{ !, Item, at_ret, await, done, drop, feq_i, fjoin, fsplit, join, later, move, pick, qed, raw, rewrite, some, split, split3, suffices, use1, ‵, ◌$◌, ◌∵◌, ◌⊛◌}
use types.Part.{sub, whole}
use types.Run.{and_then, blocks, enter, exec, first, fld, no_more, of_opd, returns, stop}
use types.ByLocal.{alloc_all, env, free_all, get, get_in, lands_last, look_at, pass_all, sets}
use denote.Exit.{no}
use denote.RawPtr.{block_ptr}
use denote.Signature.{plain}
use denote.Steps.{heard, nothing, only}
use denote.Triple.Call.{calls_at_last}
use denote.Triple.Clauses.{Clauses, Ended}
use denote.Triple.Spec.{triple_of}
use denote.Triple.Statement.{Contract, Triple}
use denote.Triple.Table.{entered}
use denote.Triple.Walked.{Stays, ends_at, says, stay_dropped, walk_Meets, walk_of}
use Rattle.core.proofs.alloc.Calls.{Goes-blank}
use Rattle.std_alloc.proofs.BoxSteps.Form.{B, Bx, D, args, box_ty, box_typed, word}
use Rattle.std_alloc.proofs.BoxSteps.Steps.{box_out}
use Rattle.std_alloc.specs.contracts.boxed.Box.from_raw as closing
use Rattle.std_alloc.proofs.boxed.Box.from_raw.Symbol as symbol
use Rattle.std_alloc.proofs.boxed.Box.from_raw.Met as closed
use Rattle.nfa_c.proofs.PartsSteps.{Apart, box_of, stored}
use Rattle.nfa_c.specs.contracts.parts.Parts.into_box as here
use Rattle.nfa_c.specs.contracts.parts.Parts.into_box.Key.{name as #self}
use Rattle.nfa_c.proofs.parts.Parts.into_box.Statement.{statement}
use Rattle.nfa_c.proofs.parts.Parts.into_box.Code as code

-- what runs after the block
abbrev rest : Body
rest = seq (assign (place 0 []) (rv_opd (copy (place 4 [])))) return

module _ (E : Bx) where
  abbrev body : Fn
  body = inst_fn (args E) code.function

  abbrev ended : Ended
  ended = here.ended E.row E.al.row E.al.g E.al.d E.al.drops

  abbrev stays : Stays ended.signature.params ended.kept
  stays = (stay_dropped (plain (λ _. Apart E)) no, tt)

  module _ {M : Type 1} {𝓤 : Ura M} (𝓛 : Logic 𝓤) (memory : Memory → SProp 𝓤) (run : Routine → Fun 𝓤)
      (𝓣 : Tables 𝓤 𝓛.H) where
    open 𝓛 use {H}

    abbrev held : Clauses 𝓤 ended
    held = here.clauses E.row E.al.row E.al.g E.al.d E.al.drops 𝓛 memory run

    abbrev Closes : Contract 𝓤
    Closes = triple_of 𝓛 (closing.signature E.row E.al.row E.al.g E.al.d E.al.drops)
        (closing.spec E.row E.al.row E.al.g E.al.d E.al.drops 𝓛 memory run)

    walk : Triple 𝓤 (𝓣.C (symbol.name (args E))) Closes → (z : (walk_of 𝓛 ended stays held).Ghost)
        → ent 𝓤 ((walk_of 𝓛 ended stays held).pre z)
        (WpFn 𝓤 H 𝓣.C 𝓣.Λ body (z.0.4.0 ++ []) ((walk_of 𝓛 ended stays held).post z))
    walk closes z =
        let κs = z.0.0 in let qs = z.0.1 in let v = z.0.3.0 in let a = v.alloc in let x = v.value in
        let Post : Val → SProp 𝓤 = (walk_of 𝓛 ended stays held).post z in
        let Run : List Val → SProp 𝓤 = λ ws. WpFn 𝓤 H 𝓣.C 𝓣.Λ body (ws ++ []) Post in
        let d : D E = box_of E v.block a x in
        let tokens : Item 𝓤 = ‵ (flft κs.0 qs.0) ⊛ ‵ (flft κs.1.0 qs.1.0) ⊛ ‵ ftrue in
        let lives : Item 𝓤 = raw (fact 𝓤 (κs.0 ⊑ E.row.lives)) in
        let lives' : Item 𝓤 = raw (fact 𝓤 (κs.1.0 ⊑ E.al.row.lives)) in
        qed 𝓛 ((tokens ⊛ ‵ (fsep ((B E).own_val d z.0.4.0) ftrue)) ∷ (lives ⊛ lives' ⊛ ‵ ftrue) ∷ []) ∵
        split ! $ move ! (1 ∷ []) $ fsplit ! $ box_out E ! d z.0.4.0 (λ b o h at is fits. fjoin ! $
        let w = word E h b o in
        let y : Closes.Ghost = ((κs, qs, tt, (a, (block_ptr b o, tt)), (h ∷ [], (vptr b o ∷ [], tt))), x) in
        suffices ! (Run (w ∷ [])) (subst (λ (ws : List Val). ent 𝓤 (Run (w ∷ [])) (Run ws)) (sym is) (id⊢ 𝓤 _)) $
        enter ! 𝓣.C 𝓣.Λ body (w ∷ []) Post $ alloc_all ! (λ l. pass_all ! refl (box_typed E h b o fits, tt) $
        sets ! (of_opd ! (get_in ! (fld ! refl (stop !)) (sub ! 0 refl (whole !)))) refl (tt, tt) $
        sets ! (of_opd ! (get_in ! (fld ! refl (stop !)) (sub ! 1 refl (whole !)))) refl fits $
        first ! $ blocks ! $ sets ! (of_opd ! (get ! refl)) refl fits $
        -- [the block; the allocator; nothing; the tokens; that the lifetimes last]
        move ! (4 ∷ []) $ split3 ! $ move ! (2 ∷ []) $ drop ! $
        move ! (1 ∷ 2 ∷ []) $ join ! $ move ! (1 ∷ 0 ∷ []) $ join ! $
        -- [what `from_raw` requires; the allocator; nothing; the tokens]
        move ! (2 ∷ []) $ feq_i ! (List Val) (vptr b o ∷ []) (vptr b o ∷ []) refl $ fjoin ! $
        move ! (2 ∷ 0 ∷ []) $ fjoin ! $ move ! (2 ∷ 0 ∷ []) $ join ! $ join ! $
        use1 𝓛 (raw (Closes.pre y)) (id⊢ 𝓤 _) $
        calls_at_last ! (fm_of 𝓤 H 𝓛.laws 𝓣) Closes closes y
        (and_then ! (get ! refl) (and_then ! (get ! refl) (no_more !))) (λ u.
        use1 𝓛 (later (some (λ (r : D E). (tokens ⊛ ‵ ((B E).own_val r (u ∷ [])))
        ⊛ some (λ (_ : Unit {0} × (Unit {0} × Unit {0})). ‵ (fsep ftrue (fsep ftrue ftrue))
        ⊛ (raw (fact 𝓤 (r.value ≡ x)) ⊛ raw (fact 𝓤 (r.alloc ≡ a)))))))
        (id⊢ 𝓤 _) $
        await ! tt $ pick ! (λ r. split ! $ move ! (1 ∷ []) $ pick ! (λ _. split3 ! $ drop ! $
        heard ! (r.value ≡ x) (λ same. drop ! $ split ! $ move ! (1 ∷ []) $
        stored E ! r (u ∷ []) (λ h' b' o' is' fits'.
        let typed : T (has_ty (box_ty E) u) × WT u = subst (λ (s : Val). T (has_ty (box_ty E) s) × WT s)
        (sym (ap only is')) (box_typed E h' b' o' fits') in
        rewrite ! 0 (λ (ws : List Val). ‵ ((B E).own_val r ws)) (sym is') refl $ lands_last ! refl typed $
        exec ! 𝓣.C 𝓣.Λ (env body.locals l) rest (at_ret (env body.locals l) Post) $
        sets ! (of_opd ! (get ! refl)) refl typed $ returns ! (look_at ! 0 refl) $ free_all ! refl $
        -- [the box; the tokens]
        suffices ! _ (ends_at 𝓛 ended stays held z u r ((tt, (tt, tt)), tt) (tt, tt)) $ says ! same $
        nothing ! $ nothing ! $ fjoin ! $ join ! $ move ! (1 ∷ 0 ∷ []) $ join ! $ done !)))))))

pub into_box_spec : {M : Type 1} → statement M
unfolding tables_of
into_box_spec 𝓤 𝓛 𝓜 𝓡 wired X Z LX LZ g d drops allocator frees =
    let E : Bx = record { row = X; laws = LX; al = record { row = Z; laws = LZ; g = g; d = d; drops = drops } } in
    let 𝓣 : Tables 𝓤 𝓛.H = tables_of 𝓤 𝓛.H 𝓜 (tables 𝓤 𝓛.H 𝓜 𝓡 𝓡.env) in
    let fn = body E in
    entered 𝓤 𝓛.H (triple_of 𝓛 (ended E).signature (here.spec X Z g d drops 𝓛 𝓜.mem 𝓡.returns)) 𝓣.C 𝓣.Λ
    (#self (args E)) fn (code.unfolded 𝓤 𝓛.H 𝓜 𝓡 wired (X, (Z, tt)) d drops)
    (walk_Meets 𝓛 (ended E) (stays E) (Goes-blank 𝓛 2 (plain (λ _. Apart E)) no (λ κs x f. tt), tt)
    (held E 𝓛 𝓜.mem 𝓡.returns 𝓣) (WpFn 𝓤 𝓛.H 𝓣.C 𝓣.Λ fn) (WpFn-mono 𝓤 𝓛.H 𝓛.laws 𝓣 fn)
    (walk E 𝓛 𝓜.mem 𝓡.returns 𝓣 (closed.met 𝓤 𝓛 𝓜 𝓡
    (code.calls-std_alloc::boxed::Box::from_raw 𝓡.env wired) X Z LX LZ g d drops allocator frees)))
