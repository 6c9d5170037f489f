-- No match may start, or the set is full.
use Rattle.nfa_paths.proofs.Common.{◌≡◌, ◌<◌, ◌≤◌, ◌∙◌, inl, inr, sym, arith, search_of, on_ok_weaker}
use Rattle.nfa_paths.proofs.SetLemmas.{full-gains}
use Rattle.nfa_lazy_dfa.specs.Reads.{IsSetOver}
use Rattle.nfa_lazy_dfa.specs.Rows.{steps_of}
use Rattle.nfa_lazy_dfa.proofs.ReadLemmas.{HasRead-more, HasRead-none, IsOver-late, IsOver-none}
use Rattle.nfa_lazy_dfa.proofs.ScanLemmas.{no-state}
use Rattle.nfa_lazy_dfa.proofs.GainLemmas.{Gaining-begin, Gaining-end}
use Rattle.nfa_lazy_dfa.proofs.overlap.overlap.Goals as goal
use Rattle.nfa_lazy_dfa.proofs.overlap.overlap.Goals.{then-is_full-via-then-is_full, then-is_full-via-else-is_full+then-is_done}

pub returns-then-is_full-clause-result : goal.returns-then-is_full-clause-result
returns-then-is_full-clause-result c =
    let x = search_of c.args.input.now in
    let nfa = c.args.dfa.now.nfa in
    let old = c.args.patterns.now in
    elim c.then-is_full.branch [
      | then-is_full-via-then-is_full w ↦ full-gains nfa x c.args.earliest old (c.is_full.ensures.0 w.if-is_full.true)
      | then-is_full-via-else-is_full+then-is_done w ↦
          Gaining-end nfa x c.args.earliest old x.start old (omega arith) (Gaining-begin nfa x c.args.earliest old)
    ]

pub returns-then-is_full-clause-reads : goal.returns-then-is_full-clause-reads
returns-then-is_full-clause-reads c =
    let x = search_of c.args.input.now in
    let old = c.args.patterns.now in
    let over : IsSetOver c.args.dfa.now x c.args.earliest old x.start = elim c.then-is_full.branch [
      | then-is_full-via-then-is_full w ↦ inr (inl (c.is_full.ensures.0 w.if-is_full.true))
      | then-is_full-via-else-is_full+then-is_done w ↦
          let past : x.end < x.start = w.is_done.ensures.0 w.if-is_done.true in
          inl (inl (omega arith))
    ] in
    HasRead-none (IsSetOver c.args.dfa.now x c.args.earliest old) c.args.cache.now c.count_scan.new.self x.start over
    (omega (arith, c.count_scan.ensures.counts.steps))

pub returns-in_default-clause-reads : goal.returns-in_default-clause-reads
returns-in_default-clause-reads c =
    let x = search_of c.args.input.now in
    let dfa = c.args.dfa.now in
    HasRead-none (IsSetOver dfa x c.args.earliest c.args.patterns.now) c.args.cache.now c.count_scan.new.self x.start
    (inl (IsOver-late dfa x x.start c.requires.late
    (IsOver-none dfa x (no-state dfa x (sym c.start_state.ensures.value ∙ c.in_default.is)))))
    (omega (arith, c.count_scan.ensures.counts.steps))

pub returns-clause-reads : goal.returns-clause-reads
returns-clause-reads c =
    let x = search_of c.args.input.now in
    let at = c.start-at.result in
    let from : at ≡ x.start = c.start-at.ensures in
    let grows : steps_of c.args.cache.now ≤ steps_of c.first_row.new.cache =
    omega (arith, c.count_scan.ensures.counts.steps, c.first_row.ensures.spends.grows) in
    on_ok_weaker c.overlap_from.result
    (HasRead-more (IsSetOver c.args.dfa.now x c.args.earliest c.overlap_from.new.patterns) c.args.cache.now
    c.first_row.new.cache c.overlap_from.new.cache x.start at (omega arith) (omega arith))
    c.overlap_from.ensures.reads
