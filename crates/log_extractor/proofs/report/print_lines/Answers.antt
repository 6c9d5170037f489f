-- The run goes on by a line, and ends if nothing is left to read.
use Rattle.nfa_paths.proofs.Common.{rules, ◌≡◌, ◌||◌, ap, [], ◌∷◌, append-nil, is_some, or-false, Appends-trans, flat_map-append, list_any-append}
use Rattle.program_text.specs.Lines.{content}
use Rattle.log_extractor.specs.Selected.{row_in}
use Rattle.log_extractor.specs.Printed.{shown_line}
use Rattle.log_extractor.proofs.GoingLemmas.{taken-all, taken-more}
use Rattle.log_extractor.proofs.report.print_lines.Goals as goal

pub returns-in_default-clause-rows : goal.returns-in_default-clause-rows
returns-in_default-clause-rows g c = λ ps is.
    taken-all _ _ _ (rw c.in_default.is at c.in_ok-row.ensures.taken) (c.loop-before.invariant.looked ps is)

pub returns-in_default-clause-printed : goal.returns-in_default-clause-printed
returns-in_default-clause-printed g c = λ ps is.
    taken-all _ _ _ (rw c.in_default.is at c.in_ok-row.ensures.taken) (c.loop-before.invariant.printed ps is)

pub loop-before-preserved : goal.loop-before-preserved
loop-before-preserved g c =
    let inv = c.loop-before.invariant in
    let next = rw c.in-Some.is at c.in_ok-row.ensures.taken in
    let line = next.0 in
    record {
      printed = λ ps is.
          let show = shown_line c.args.output c.args.rows.now.selection ps in
          let here : c.append_next.new.out.items ≡ show line =
          rw (c.clear.ensures.items, inv.kept) at (next.2 ps (rw inv.kept is)).0 in
          taken-more _ _ _ _ _ line next.1 (λ lines so-far.
          rw (flat_map-append show lines (line ∷ []), append-nil)
          (Appends-trans _ _ _ _ _ so-far (rw (c.deref.ensures.value, here) at c.in_ok-write_bytes.ensures)))
          (inv.printed ps is);
      looked = λ ps is.
          let here : c.in-Some.row ≡ is_some (row_in c.args.rows.now.selection ps (content line)) =
          rw inv.kept at (next.2 ps (rw inv.kept is)).1 in
          taken-more _ _ _ _ _ line next.1 (λ lines so-far.
          rw (
            here,
            list_any-append (λ l. is_some (row_in c.args.rows.now.selection ps (content l))) lines (line ∷ []),
            or-false,
          )
          (ap (λ found. found || is_some (row_in c.args.rows.now.selection ps (content line))) so-far))
          (inv.looked ps is);
      kept = search rules;
    }
