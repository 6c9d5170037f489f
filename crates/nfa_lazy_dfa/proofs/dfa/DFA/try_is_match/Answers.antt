-- There is a match exactly if a search finds a half match, the earliest one if matches may end anywhere.
use Rattle.nfa_paths.proofs.Common.{◌≡◌, ◌≤◌, ◌+◌, ◌-◌, ◌*◌, ◌∙◌, ℕ, Bool, ap, subst, arith, refl, rules, Option, None, Some, is_some, not, option_map, IfErr-weaker, half_found_of, Search, search_of, HalfMatch, is_utf8_empty}
use Rattle.nfa_lazy_dfa.specs.Reads.{HasReadSpan}
use Rattle.nfa_lazy_dfa.specs.Rows.{IsBounded, steps_of}
use Rattle.nfa_lazy_dfa.specs.declared.cache.Cache.{Cache}
use Rattle.nfa_lazy_dfa.specs.declared.dfa.DFA.{DFA}
use Rattle.nfa_lazy_dfa.specs.Stops.{IsStop}
use Rattle.nfa_lazy_dfa.proofs.IsMatchLemmas.{found-free}
use Rattle.nfa_lazy_dfa.proofs.StopLemmas.{IsStop-later}
use Rattle.nfa_lazy_dfa.proofs.dfa.DFA.try_is_match.Goals as goal
use Rattle.nfa_lazy_dfa.proofs.dfa.DFA.try_is_match.Goals.{After-try_find_half}

is_some-map : (o : Option HalfMatch) → is_some (option_map half_found_of o) ≡ is_some o
is_some-map None = refl
is_some-map (Some x) = refl

pub returns-clause-answer : goal.returns-clause-answer
returns-clause-answer c =
    let dfa = c.args.self.now in
    rw (c.is_some.ensures, ← is_some-map c.in_ok-half.half)
    (found-free dfa.nfa dfa.kind (search_of c.args.input) (search_of c.earliest-input.result) _
    (ap not c.args.self.now.on_boundary_is) c.earliest-input.ensures _ c.in_ok-half.ensures.answer)

pub returns-in_err-half-clause-stops : goal.returns-in_err-half-clause-stops
returns-in_err-half-clause-stops c =
    let x = search_of c.args.input in
    let y = search_of c.earliest-input.result in
    let start : y.start ≡ x.start = ap (λ (s : Search). s.start) c.earliest-input.ensures in
    let low : x.start ≤ y.start = omega arith in
    let nfa = c.args.self.now.nfa in
    IfErr-weaker _ (IsStop nfa y) (IsStop nfa x)
    (IsStop-later nfa x y (ap (λ (s : Search). s.haystack) c.earliest-input.ensures)
    (ap (λ (s : Search). s.end) c.earliest-input.ensures) low) (search rules)

-- the bounds are those of the span
same-bounds : (a b : Cache) (dfa : DFA) (x y : Search) → y.start ≡ x.start → y.end ≡ x.end → IsBounded a b dfa y
    → IsBounded a b dfa x
same-bounds a b dfa x y start end bounds =
    let width : y.end - y.start ≡ x.end - x.start = cc in
    record {
      count = bounds.count;
      scans = bounds.scans;
      few = subst (λ (n : ℕ). bounds.count ≤ n + 2) width bounds.few;
      steps = subst (λ (n : ℕ). steps_of b ≤ steps_of a + bounds.count * (n + 1)) width bounds.steps;
      rows = bounds.rows;
      clears = bounds.clears;
    }

bounds : (c : After-try_find_half) → IsBounded c.args.cache.now c.try_find_half.new.cache c.args.self.now
    (search_of c.args.input)
bounds c =
    same-bounds c.args.cache.now c.try_find_half.new.cache c.args.self.now (search_of c.args.input)
    (search_of c.earliest-input.result) (ap (λ (s : Search). s.start) c.earliest-input.ensures)
    (ap (λ (s : Search). s.end) c.earliest-input.ensures) (search rules)

pub returns-clause-work : goal.returns-clause-work
returns-clause-work c = bounds (goal.at.returns-clause-work c).After-try_find_half

pub returns-in_err-half-clause-work : goal.returns-in_err-half-clause-work
returns-in_err-half-clause-work c = bounds (goal.at.returns-in_err-half-clause-work c).After-try_find_half

pub returns-clause-reads : goal.returns-clause-reads
returns-clause-reads c =
    let x = search_of c.args.input in
    let dfa = c.args.self.now in
    let same : search_of c.earliest-input.result ≡ record x { earliest = not (is_utf8_empty dfa.nfa) } =
    c.earliest-input.ensures
    ∙ ap (λ (b : Bool). record x { earliest = not b }) dfa.on_boundary_is in
    subst (HasReadSpan c.args.cache.now c.try_find_half.new.cache dfa) same c.in_ok-half.ensures.reads
