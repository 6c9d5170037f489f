-- A counter of 0 can be made, since it has no bytes.
use Rattle.nfa_scan_core.proofs.Made.{ !, Stays, [], agg, alloc_all, bytes, done, ends_at, enter, free_all, join, keep, look_at, made, no_more, nothing, on_entry, pass_all, proved, qed, raw, refl, returns, says, sets, suffices, tables, the_row, use0, ‵, ◌$◌, ◌∵◌, ◌∷◌}
use Rattle.nfa_scan_core.specs.contracts.counter.Counter.new as f
use Rattle.nfa_scan_core.proofs.counter.Counter.new.Statement.{statement}
use Rattle.nfa_scan_core.proofs.counter.Counter.new.Code as code

abbrev stayed : Stays f.ended.signature.params f.ended.kept
stayed = tt

pub new_spec : {M : Type 1} → statement M
new_spec 𝓤 𝓛 𝓜 𝓡 wired =
    let c = f.clauses 𝓛 𝓜.mem 𝓡.returns in let 𝓣 = tables 𝓤 𝓛.H 𝓜 𝓡 𝓡.env in
    proved 𝓛 f.ended stayed c 𝓜 𝓡 tt f.Key.name code.function (code.unfolded 𝓤 𝓛.H 𝓜 𝓡 wired)
    (λ κs. tt) (λ κs. tt) (λ κs qs bounds a g are.
    qed 𝓛 (raw (on_entry 𝓛 f.signature κs qs a tt) ∷ raw ((c κs a).requires g) ∷ []) ∵ keep ! [] $
    enter ! 𝓣.C 𝓣.Λ code.function [] _ $ alloc_all ! (λ l. pass_all ! refl tt $
    sets ! (agg ! (no_more !)) refl (tt, tt) $
    returns ! (look_at ! 0 refl) $ free_all ! refl $
    use0 𝓛 (‵ (the_row.own_val 0 (bytes ∷ []))) (made 𝓛 0) $
    suffices ! _ (ends_at 𝓛 f.ended stayed c ((κs, qs, bounds, a, tt), g) bytes 0 tt tt) $ says ! refl $
    nothing ! $ join ! $ nothing ! $ done !))
