-- A counter of one count more can be made.
use Rattle.nfa_scan_core.proofs.Made.{ !, Goes-dropped, RefOf, Stays, Val, [], agg, alive, alloc_all, bytes, done, ends_at, enter, free_all, join, keep, look_at, made, move, named, no_more, nothing, owns, pass_all, plain, proved, qed, raw, refl, returns, says, sets, shr_Tells, shr_vals, split, stay_dropped, suffices, tables, the_row, types_at, use0, vptr, yes, ‵, ℕ, ◌$◌, ◌+◌, ◌∵◌, ◌∷◌, ◌⊛◌}
use Rattle.nfa_scan_core.specs.contracts.counter.Counter.next as f
use Rattle.nfa_scan_core.proofs.counter.Counter.next.Statement.{statement}
use Rattle.nfa_scan_core.proofs.counter.Counter.next.Code as code

abbrev stayed : Stays f.ended.signature.params f.ended.kept
stayed = (stay_dropped (RefOf (0 ∷ []) tt (plain (λ _. the_row)) (λ _. tt)) yes, tt)

pub next_spec : {M : Type 1} → statement M
next_spec 𝓤 𝓛 𝓜 𝓡 wired =
    let c = f.clauses 𝓛 𝓜.mem 𝓡.returns in let 𝓣 = tables 𝓤 𝓛.H 𝓜 𝓡 𝓡.env in
    proved 𝓛 f.ended stayed c 𝓜 𝓡 (
      Goes-dropped 𝓛 1 (RefOf (0 ∷ []) tt (plain (λ _. the_row)) (λ _. tt)) yes
          (λ κs x w. refl),
      tt,
    )
    f.Key.name code.function (code.unfolded 𝓤 𝓛.H 𝓜 𝓡 wired)
    (λ κs. (shr_vals, tt)) (λ κs. (shr_Tells (named 0) κs.0 the_row, tt)) (λ κs qs bounds a g are.
    let p : Val = vptr a.0.ref_ptr.0 a.0.ref_ptr.1 in let n : ℕ = a.0.now + 1 in
    qed 𝓛 ((raw (alive 𝓛 f.signature κs qs) ⊛ ‵ (owns (types_at f.signature.params κs) a (p ∷ [], tt)))
    ∷ raw ((c κs a).requires g) ∷ []) ∵ split ! $ keep ! (0 ∷ []) $
    enter ! 𝓣.C 𝓣.Λ code.function (p ∷ []) _ $ alloc_all ! (λ l. pass_all ! refl ((tt, tt), tt) $
    sets ! (agg ! (no_more !)) refl (tt, tt) $
    returns ! (look_at ! 0 refl) $ free_all ! refl $
    use0 𝓛 (‵ (the_row.own_val n (bytes ∷ []))) (made 𝓛 n) $
    suffices ! _ (ends_at 𝓛 f.ended stayed c ((κs, qs, bounds, a, (p ∷ [], tt)), g) bytes n (tt, tt) (tt, tt))
    $ says ! refl $
    nothing ! $ nothing ! $ join ! $ join ! $ move ! (1 ∷ 0 ∷ []) $ join ! $ done !))
