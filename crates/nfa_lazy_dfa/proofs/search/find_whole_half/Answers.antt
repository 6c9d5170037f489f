-- A match that does not count moves the start on.
use Rattle.nfa_paths.proofs.Common.{rules, ◌≡◌, ◌≤◌, ◌∙◌, ◌+◌, ◌-◌, ℕ, ap, subst, arith, option_map, half_found_of, Search, search_of, MatchKind, Automaton, IfErr-weaker}
use Rattle.nfa_lazy_dfa.specs.Configurations.{scan_half, FindsSplit}
use Rattle.nfa_lazy_dfa.proofs.ScanHalfLemmas.{Skipping, Skipping-begin, Skipping-end, Skipping-more, split-inside, split-of}
use Rattle.nfa_lazy_dfa.specs.Reads.{IsOver}
use Rattle.nfa_lazy_dfa.specs.Rows.{Scans}
use Rattle.nfa_lazy_dfa.specs.Stops.{IsStop}
use Rattle.nfa_lazy_dfa.proofs.StopLemmas.{IsStop-later}
use Rattle.nfa_lazy_dfa.proofs.ReadLemmas.{HasRead-more}
use Rattle.nfa_lazy_dfa.proofs.WorkLemmas.{Scans-more, ScansAtMost-one}
use Rattle.nfa_lazy_dfa.specs.declared.cache.Cache.{Cache}
use Rattle.nfa_lazy_dfa.proofs.search.find_whole_half.Goals as goal
use Rattle.nfa_lazy_dfa.proofs.search.find_whole_half.Goals.{After-set_start}

-- the first scan is one scan
first-scan : (a b : Cache) (x : Search) → Scans a b 1 (x.end - x.start)
    → Scans a b (x.start + 1 - x.start) (x.end - x.start)
first-scan a b x scan =
    let one : 1 ≡ x.start + 1 - x.start = omega arith in
    subst (λ (k : ℕ). Scans a b k (x.end - x.start)) one scan

-- where the search goes on after a match that splits a codepoint
record IsMoved (nfa : Automaton) (kind : MatchKind) (x y z : Search) : Type 0 where
  skipping : Skipping nfa kind x.earliest x z
  start : z.start ≡ y.start + 1
  low : x.start ≤ y.start
  inside : y.start ≤ x.end
  end : z.end ≡ x.end

moved : (c : After-set_start) → IsMoved c.args.dfa.now.nfa c.args.dfa.now.kind (search_of c.args.input)
    (search_of c.loop-half.input) (search_of c.set_start.new.self)
moved c =
    let nfa = c.args.dfa.now.nfa in
    let kind = c.args.dfa.now.kind in
    let x = search_of c.args.input in
    let y = search_of c.loop-half.input in
    let z = search_of c.set_start.new.self in
    let before = c.loop-half.invariant in
    let split : FindsSplit nfa kind x.earliest y =
    split-of nfa kind x.earliest y (option_map half_found_of c.loop-half.half) before.found
    (λ whole. absurd (cc (c.loop-half-test.true, c.is_whole_half.ensures.1 whole))) in
    let next : z ≡ record y { start = y.start + 1 } = search rules in
    let skipping = Skipping-more nfa kind x.earliest x y z before.skipping split next in
    record {
      skipping = skipping;
      start = ap (λ (w : Search). w.start) next;
      low = before.skipping.low;
      inside = rw (← ap (λ (w : Search). w.end) before.skipping.raises) (split-inside nfa kind x.earliest y split);
      end = ap (λ (w : Search). w.end) skipping.raises;
    }

-- a scan from there is one scan more
next-scan : (nfa : Automaton) (kind : MatchKind) (a b c : Cache) (x y z : Search) → IsMoved nfa kind x y z
    → Scans a b (y.start + 1 - x.start) (x.end - x.start) → Scans b c 1 (z.end - z.start)
    → Scans a c (z.start + 1 - x.start) (x.end - x.start)
next-scan nfa kind a b c x y z m work scan =
    let less : z.end - z.start ≤ x.end - x.start = omega arith in
    let more : y.start + 1 - x.start + 1 ≡ z.start + 1 - x.start = omega arith in
    subst (λ (k : ℕ). Scans a c k (x.end - x.start)) more
    (Scans-more a b c (y.start + 1 - x.start) (x.end - x.start) (z.end - z.start) work scan less)

pub loop-half-init : goal.loop-half-init
loop-half-init c = record {
  skipping = Skipping-begin c.args.dfa.now.nfa c.args.dfa.now.kind c.args.input.earliest (search_of c.args.input);
  own = c.in_ok-half.ensures.own;
  few = omega arith;
  reads = c.in_ok-half.ensures.reads;
  work = first-scan c.args.cache.now c.scan_half.new.cache (search_of c.args.input) (search rules);
  found = c.in_ok-half.ensures.steps;
}

pub set_start-requires : goal.set_start-requires
set_start-requires c =
    let nfa = c.args.dfa.now.nfa in
    let kind = c.args.dfa.now.kind in
    let e = c.args.input.earliest in
    let y = search_of c.loop-half.input in
    let found = option_map half_found_of c.loop-half.half in
    let split : FindsSplit nfa kind e y =
    split-of nfa kind e y found c.loop-half.invariant.found
    (λ whole. absurd (cc (c.loop-half-test.true, c.is_whole_half.ensures.1 whole))) in
    let inside : y.start ≤ y.end = split-inside nfa kind e y split in
    omega arith

pub loop-half-preserved : goal.loop-half-preserved
loop-half-preserved c =
    let dfa = c.args.dfa.now in
    let z = search_of c.set_start.new.self in
    let mid = c.loop-half.cache in
    let end = c.scan_half-in-loop-half.new.cache in
    let next = moved (goal.at.loop-half-preserved c).After-set_start in
    record {
      skipping = next.skipping;
      own = c.in_ok-half-2.ensures.own;
      few = omega arith;
      reads = HasRead-more (IsOver dfa z) c.args.cache.now mid end z.start z.start (omega arith)
          (omega (arith, c.loop-half.invariant.work.grows)) c.in_ok-half-2.ensures.reads;
      work = next-scan dfa.nfa dfa.kind c.args.cache.now mid end (search_of c.args.input)
          (search_of c.loop-half.input) z next c.loop-half.invariant.work (search rules);
      found = c.in_ok-half-2.ensures.steps
          ∙ ap (λ (x : Search). scan_half dfa.nfa z dfa.kind x.earliest) next.skipping.raises;
    }

pub returns-clause-half : goal.returns-clause-half
returns-clause-half c =
    let x = search_of c.args.input in
    Skipping-end c.args.dfa.now.nfa c.args.dfa.now.kind x.earliest x (search_of c.loop-half.input)
    (option_map half_found_of c.loop-half.half) c.loop-half.invariant.skipping c.loop-half.invariant.found
    (c.is_whole_half.ensures.0 c.loop-half-test.false)

pub returns-in_err-half-2-clause-stops : goal.returns-in_err-half-2-clause-stops
returns-in_err-half-2-clause-stops c =
    let nfa = c.args.dfa.now.nfa in
    let x = search_of c.args.input in
    let z = search_of c.set_start.new.self in
    let next = moved (goal.at.returns-in_err-half-2-clause-stops c).After-set_start in
    IfErr-weaker _ (IsStop nfa z) (IsStop nfa x)
    (IsStop-later nfa x z (ap (λ (s : Search). s.haystack) next.skipping.raises)
    (ap (λ (s : Search). s.end) next.skipping.raises) next.skipping.low) (search rules)

pub returns-in_err-half-clause-work : goal.returns-in_err-half-clause-work
returns-in_err-half-clause-work c =
    ScansAtMost-one c.args.cache.now c.scan_half.new.cache (search_of c.args.input) (search rules)

pub returns-in_err-half-2-clause-work : goal.returns-in_err-half-2-clause-work
returns-in_err-half-2-clause-work c =
    let x = search_of c.args.input in
    let z = search_of c.set_start.new.self in
    let next = moved (goal.at.returns-in_err-half-2-clause-work c).After-set_start in
    record {
      count = z.start + 1 - x.start;
      few = omega arith;
      scans = next-scan c.args.dfa.now.nfa c.args.dfa.now.kind c.args.cache.now c.loop-half.cache
          c.scan_half-in-loop-half.new.cache x (search_of c.loop-half.input) z next c.loop-half.invariant.work
          (search rules);
    }

pub returns-clause-work : goal.returns-clause-work
returns-clause-work c =
    let x = search_of c.args.input in
    let y = search_of c.loop-half.input in
    record { count = y.start + 1 - x.start; few = c.loop-half.invariant.few; scans = c.loop-half.invariant.work }

pub returns-clause-reads : goal.returns-clause-reads
returns-clause-reads c =
    let x = search_of c.args.input in
    let y = search_of c.loop-half.input in
    let skipping = c.loop-half.invariant.skipping in
    let low : x.start ≤ y.start = skipping.low in
    let start : x.start + (y.start - x.start) ≡ y.start = omega arith in
    record {
      last = y;
      raises = skipping.raises ∙ ap (λ (n : ℕ). record x { start = n }) start;
      low = low;
      reads = c.loop-half.invariant.reads;
    }
