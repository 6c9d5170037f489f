-- A search that scans again while its answer ends inside a codepoint: what holds at each scan, and the result.
use Rattle.nfa_paths.proofs.Common.{◌≡◌, ◌∙◌, ℕ, ◌+◌, ap, arith, replicate, subst, sym, Bool, true, false, List, None, IsBoundary, Search, is_anchored, search_of, Anchored, HalfMatch, MatchKind, Automaton, Slots, is_utf8_empty, GivesPath, Restarts, ScanGives}
use Rattle.nfa_paths.proofs.RestartLemmas.{bounded, discarded, restarted, restarts-begin, scan-start, settled-none, settled-some, splits, start-left}
use Rattle.nfa_pikevm.proofs.search.search.Goals as goal

-- each scan asks for what the search asks for
asked : {nfa : Automaton} {kind : MatchKind} {scan search : Bool} {y : Search} {half : HalfMatch} {slots : Slots}
    {turns : ℕ} → scan ≡ search → GivesPath nfa kind scan y half slots turns
    → GivesPath nfa kind search y half slots turns
asked {nfa} {kind} {y = y} {half} {slots} {turns} same = subst (λ e. GivesPath nfa kind e y half slots turns) same

-- what holds of the text and the anchoring of each scan holds of the search
of-search : {nfa : Automaton} {kind : MatchKind} {earliest : Bool} {x y : Search} {scans turns : ℕ}
    (P : List ℕ → Anchored → Type 0) → Restarts nfa kind earliest x y scans turns → P y.haystack y.anchored
    → P x.haystack x.anchored
of-search P begun = subst (λ (z : Search). P z.haystack z.anchored) begun.is

pub loop-half-init : goal.loop-half-init
loop-half-init c = grind (arith, restarts-begin)

-- ---- the scan finds nothing

pub returns-in_err-half-clause-bounds : goal.returns-in_err-half-clause-bounds
returns-in_err-half-clause-bounds c = bounded c.loop-half.invariant.restarts c.scan.ensures.scans c.scan.ensures.turns

pub returns-in_err-half-clause-last : goal.returns-in_err-half-clause-last
returns-in_err-half-clause-last c = scan-start c.loop-half.invariant.restarts c.scan.ensures.scans

pub returns-in_err-half-clause-answer : goal.returns-in_err-half-clause-answer
returns-in_err-half-clause-answer c =
    rw c.from_residual.ensures
    (settled-none c.loop-half.invariant.restarts
    (subst (λ e. ScanGives c.args.nfa.now c.args.kind e (search_of c.loop-half.input) None c.scan.new.slots 0)
    c.loop-half.invariant.asks c.in_err-half.ensures.answer) c.scan.ensures.scans)

-- ---- what it finds may end where it does

pub returns-then-may_end_at-clause-bounds : goal.returns-then-may_end_at-clause-bounds
returns-then-may_end_at-clause-bounds c =
    bounded c.loop-half.invariant.restarts c.scan.ensures.scans c.scan.ensures.turns

pub returns-then-may_end_at-clause-last : goal.returns-then-may_end_at-clause-last
returns-then-may_end_at-clause-last c = scan-start c.loop-half.invariant.restarts c.scan.ensures.scans

pub returns-then-may_end_at-clause-answer : goal.returns-then-may_end_at-clause-answer
returns-then-may_end_at-clause-answer c =
    let begun = c.loop-half.invariant.restarts in
    let finds = asked c.loop-half.invariant.asks c.in_ok-half.ensures.answer in
    let ends = rw c.offset.ensures at (of-search
    (λ h a. is_utf8_empty c.args.nfa.now ≡ true → IsBoundary h c.offset.result) begun
    (c.may_end_at.ensures.counts c.if-may_end_at.true)) in
    settled-some begun finds ends c.scan.ensures.scans (omega arith)

-- ---- it splits a codepoint

pub returns-then-is_anchored-clause-bounds : goal.returns-then-is_anchored-clause-bounds
returns-then-is_anchored-clause-bounds c =
    bounded c.loop-half.invariant.restarts c.scan.ensures.scans c.scan.ensures.turns

pub returns-then-is_anchored-clause-last : goal.returns-then-is_anchored-clause-last
returns-then-is_anchored-clause-last c = scan-start c.loop-half.invariant.restarts c.scan.ensures.scans

pub returns-then-is_anchored-clause-answer : goal.returns-then-is_anchored-clause-answer
returns-then-is_anchored-clause-answer c =
    let begun = c.loop-half.invariant.restarts in
    let finds = asked c.loop-half.invariant.asks c.in_ok-half.ensures.answer in
    let mode = c.may_end_at.ensures.splits c.if-may_end_at.false in
    let off = rw c.offset.ensures at (of-search (λ h a. ¬ (IsBoundary h c.offset.result)) begun
    (c.may_end_at.ensures.inside c.if-may_end_at.false)) in
    let anchored = of-search (λ h a. is_anchored a ≡ true) begun
    (rw (c.is_anchored.ensures, c.get_anchored.ensures) at c.if-is_anchored.true) in
    discarded begun (splits begun finds off) mode anchored c.scan.ensures.scans
    (c.unset_row.ensures ∙ ap (λ n. replicate n None) (sym c.unset_row.auto.row))

pub set_start-requires : goal.set_start-requires
set_start-requires c = grind (arith, start-left)

pub loop-half-preserved : goal.loop-half-preserved
loop-half-preserved c =
    let begun = c.loop-half.invariant.restarts in
    let finds = asked c.loop-half.invariant.asks c.in_ok-half.ensures.answer in
    let mode = c.may_end_at.ensures.splits c.if-may_end_at.false in
    let off = rw c.offset.ensures at (of-search (λ h a. ¬ (IsBoundary h c.offset.result)) begun
    (c.may_end_at.ensures.inside c.if-may_end_at.false)) in
    let free = of-search (λ h a. is_anchored a ≡ false) begun
    (rw (c.is_anchored.ensures, c.get_anchored.ensures) at c.if-is_anchored.false) in
    record {
      restarts = rw c.scan.ensures.scans (restarted begun (splits begun finds off) mode free c.scan.ensures.turns
          (ap (λ n. n + 1) c.start-start.ensures) c.set_start.ensures);
      asks = ap (λ (z : Search). z.earliest) c.set_start.ensures ∙ c.loop-half.invariant.asks;
      sizes = c.scan.ensures.sizes ∙ c.loop-half.invariant.sizes;
    }
