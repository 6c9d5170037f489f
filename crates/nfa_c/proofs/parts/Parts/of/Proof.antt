-- `of` takes a box apart: the resulting pair owns the box's block, and what the box owned.
use Rattle.std.proofs.Common.{◌≡◌, List, [], ◌∷◌, ◌++◌, refl, sym, subst, ap}
use seplogic.Ra.Ura.{Ura}
use mir.Syntax.{Args, Dict, Fn, a_type, dcons, dnil}
use mir.MapTy.{inst_fn}
use mir.Val.{Val}
use base.Logic.{SProp, ent, id⊢}
use base.Fml.{flft, fsep, ftrue}
use contract.BorrowLft.{◌⊑◌}
use contract.Monad.{Fun, fact}
use contract.Running.{tables, tables_of}
use prog.Memory.{Memory}
use prog.Routine.{Routine}
use prog.Wp.{Tables, WpFn}
use sound.WpLaws.{WpFn-mono, fm_of}
use types.Logic.{Logic}
use types.Kit.{ !, Item, await, done, drop, fjoin, fsplit, join, later, move, pick, qed, raw, some, split, split3, suffices, use1, ‵, ◌$◌, ◌∵◌, ◌⊛◌}
use types.Part.{agg, sub, whole}
use types.Run.{and_then, enter, fld, no_more, of_opd, returns, stop}
use types.ByLocal.{alloc_all, free_all, get, get_in, lands_as, look_at, pass_all, sets}
use denote.Exit.{no}
use denote.Param.{bounded}
use denote.RawPtr.{Ptr}
use denote.Signature.{plain}
use denote.Steps.{heard, nothing, only}
use denote.Triple.Call.{calls_at}
use denote.Triple.Clauses.{Clauses, Ended}
use denote.Triple.Spec.{triple_of}
use denote.Triple.Statement.{Contract, Triple}
use denote.Triple.Table.{entered}
use denote.Triple.Walked.{Stays, ends_at, says, stay_dropped, walk_Meets, walk_of}
use Rattle.core.proofs.alloc.Calls.{Goes-blank, token}
use Rattle.std_alloc.specs.Box.Ownership.{box_owns}
use Rattle.std_alloc.proofs.BoxSteps.Form.{B, Bx, R, box_typed, word}
use Rattle.std_alloc.specs.contracts.boxed.Box.into_raw_with_allocator as opening
use Rattle.std_alloc.proofs.boxed.Box.into_raw_with_allocator.Symbol as symbol
use Rattle.std_alloc.proofs.boxed.Box.into_raw_with_allocator.Met as opened
use Rattle.nfa_c.proofs.PartsSteps.{Apart, Pair, box_of, boxed, parts_of, stored}
use Rattle.nfa_c.specs.contracts.parts.Parts.of as here
use Rattle.nfa_c.specs.contracts.parts.Parts.of.Key.{name as #self}
use Rattle.nfa_c.proofs.parts.Parts.of.Statement.{statement}
use Rattle.nfa_c.proofs.parts.Parts.of.Code as code

-- `glue` drops a value of the box.
module _ (E : Bx) (glue : Dict) where
  abbrev bounds : Args
  bounds = bounded (a_type ∷ a_type ∷ []) (E.row, (E.al.row, tt)) (dcons E.al.d (dcons E.al.drops (dcons glue dnil)))

  abbrev body : Fn
  body = inst_fn bounds code.function

  abbrev ended : Ended
  ended = here.ended E.row E.al.row E.al.g E.al.d E.al.drops glue

  abbrev stays : Stays ended.signature.params ended.kept
  stays = (stay_dropped (plain (λ _. B E)) no, tt)

  module _ {M : Type 1} {𝓤 : Ura M} (𝓛 : Logic 𝓤) (memory : Memory → SProp 𝓤) (run : Routine → Fun 𝓤)
      (𝓣 : Tables 𝓤 𝓛.H) where
    open 𝓛 use {H}

    abbrev held : Clauses 𝓤 ended
    held = here.clauses E.row E.al.row E.al.g E.al.d E.al.drops glue 𝓛 memory run

    abbrev Opens : Contract 𝓤
    Opens = triple_of 𝓛 (opening.signature E.row E.al.row E.al.g E.al.d E.al.drops glue)
        (opening.spec E.row E.al.row E.al.g E.al.d E.al.drops glue 𝓛 memory run)

    walk : Triple 𝓤 (𝓣.C (symbol.name bounds)) Opens → (z : (walk_of 𝓛 ended stays held).Ghost)
        → ent 𝓤 ((walk_of 𝓛 ended stays held).pre z)
        (WpFn 𝓤 H 𝓣.C 𝓣.Λ body (z.0.4.0 ++ []) ((walk_of 𝓛 ended stays held).post z))
    walk opens z =
        let κs = z.0.0 in let qs = z.0.1 in let v = z.0.3.0 in
        let Post : Val → SProp 𝓤 = (walk_of 𝓛 ended stays held).post z in
        let Run : List Val → SProp 𝓤 = λ ws. WpFn 𝓤 H 𝓣.C 𝓣.Λ body (ws ++ []) Post in
        let tokens : Item 𝓤 = ‵ (flft κs.0 qs.0) ⊛ ‵ (flft κs.1.0 qs.1.0) ⊛ ‵ ftrue in
        let lives : Item 𝓤 =
        raw (fact 𝓤 (κs.0 ⊑ E.row.lives)) ⊛ raw (fact 𝓤 (κs.1.0 ⊑ E.al.row.lives)) ⊛ ‵ ftrue in
        qed 𝓛 ((tokens ⊛ ‵ (fsep ((B E).own_val v z.0.4.0) ftrue)) ∷ lives ∷ []) ∵
        split ! $ move ! (1 ∷ []) $ fsplit ! $ stored E ! v z.0.4.0 (λ h b o is fits.
        let w = word E h b o in
        let y : Opens.Ghost = ((κs, qs, tt, (v, tt), (w ∷ [], tt)), tt) in
        suffices ! (Run (w ∷ [])) (subst (λ (ws : List Val). ent 𝓤 (Run (w ∷ [])) (Run ws)) (sym is) (id⊢ 𝓤 _)) $
        enter ! 𝓣.C 𝓣.Λ body (w ∷ []) Post $ alloc_all ! (λ l. pass_all ! refl (box_typed E h b o fits, tt) $
        sets ! (of_opd ! (get ! refl)) refl (box_typed E h b o fits) $
        -- [the box; nothing; the tokens; that the lifetimes last]
        fjoin ! $ move ! (1 ∷ 0 ∷ []) $ join ! $ join ! $ use1 𝓛 (raw (Opens.pre y)) (id⊢ 𝓤 _) $
        calls_at ! (fm_of 𝓤 H 𝓛.laws 𝓣) Opens opens y (and_then ! (get ! refl) (no_more !)) (λ u.
        use1 𝓛 (later (some (λ (r : Ptr × E.al.row.Denot). (tokens ⊛ ‵ ((Pair E).own_val r (u ∷ [])))
        ⊛ some (λ (_ : (Unit {0} × (Unit {0} × Unit {0})) × Unit {0}).
        ‵ (fsep (fsep ftrue (fsep ftrue ftrue)) ftrue)
        ⊛ (raw (fact 𝓤 (r.1 ≡ v.alloc)) ⊛ ‵ (box_owns (token E.al v.alloc) (R E) r.0 v.value))))))
        (id⊢ 𝓤 _) $
        await ! tt $ pick ! (λ r. split ! $ move ! (1 ∷ []) $ pick ! (λ _. split3 ! $ drop ! $
        heard ! (r.1 ≡ v.alloc) (λ same.
        -- [what the block owns; the tokens with the pair]
        move ! (1 ∷ []) $ split ! $ move ! (1 ∷ 2 ∷ []) $ boxed E ! r v.alloc v.value u same $
        stored E ! (box_of E r.0 r.1 v.value) (u ∷ []) (λ h' b' o' is' fits'.
        let w' = word E h' b' o' in let made = parts_of E r.0 r.1 v.value in
        lands_as ! (ap only is') refl (box_typed E h' b' o' fits') $
        sets ! (of_opd ! (get_in ! (fld ! refl (stop !)) (sub ! 0 refl (whole !)))) refl (tt, tt) $
        sets ! (of_opd ! (get_in ! (fld ! refl (stop !)) (sub ! 1 refl (whole !)))) refl fits' $
        sets ! (of_opd ! (get ! refl)) refl fits' $
        sets ! (agg ! (and_then ! (get ! refl) (and_then ! (get ! refl) (no_more !)))) refl
        (box_typed E h' b' o' fits') $
        returns ! (look_at ! 0 refl) $ free_all ! refl $
        -- [the parts; the tokens]
        use1 𝓛 (‵ ((Apart E).own_val made (w' ∷ []))) (id⊢ 𝓤 _) $
        suffices ! _ (ends_at 𝓛 ended stays held z w' made ((tt, (tt, tt)), tt) (tt, tt)) $ says ! refl $
        nothing ! $ nothing ! $ fjoin ! $ join ! $ move ! (1 ∷ 0 ∷ []) $ join ! $ done !)))))))

pub of_spec : {M : Type 1} → statement M
unfolding tables_of
of_spec 𝓤 𝓛 𝓜 𝓡 wired X Z LX LZ g d drops glue allocator frees drops_X =
    let E : Bx = record { row = X; laws = LX; al = record { row = Z; laws = LZ; g = g; d = d; drops = drops } } in
    let 𝓣 : Tables 𝓤 𝓛.H = tables_of 𝓤 𝓛.H 𝓜 (tables 𝓤 𝓛.H 𝓜 𝓡 𝓡.env) in
    let fn = body E glue in
    entered 𝓤 𝓛.H (triple_of 𝓛 (ended E glue).signature (here.spec X Z g d drops glue 𝓛 𝓜.mem 𝓡.returns)) 𝓣.C 𝓣.Λ
    (#self (bounds E glue)) fn (code.unfolded 𝓤 𝓛.H 𝓜 𝓡 wired (X, (Z, tt)) d drops glue)
    (walk_Meets 𝓛 (ended E glue) (stays E glue) (Goes-blank 𝓛 2 (plain (λ _. B E)) no (λ κs x f. tt), tt)
    (held E glue 𝓛 𝓜.mem 𝓡.returns 𝓣) (WpFn 𝓤 𝓛.H 𝓣.C 𝓣.Λ fn) (WpFn-mono 𝓤 𝓛.H 𝓛.laws 𝓣 fn)
    (walk E glue 𝓛 𝓜.mem 𝓡.returns 𝓣 (opened.met 𝓤 𝓛 𝓜 𝓡
    (code.calls-std_alloc::boxed::Box::into_raw_with_allocator 𝓡.env wired)
    X Z LX LZ g d drops glue allocator frees drops_X)))
