-- A byte that may be read leads on; at any other one the search stops.
use Rattle.nfa_paths.proofs.Common.{◌∙◌, ℕ, List, get_or, ap, sym, subst, arith, Some, slice_get-get_or, search_of}
use Rattle.nfa_lazy_dfa.specs.Rows.{LeadsTo}
use Rattle.nfa_lazy_dfa.proofs.CacheLemmas.{row-inside}
use Rattle.nfa_lazy_dfa.proofs.StopLemmas.{IsStop-gave_up, IsUsedUp-at}
use Rattle.nfa_lazy_dfa.proofs.scan.next_row.Goals as goal

pub returns-then-is_quit-clause-stops : goal.returns-then-is_quit-clause-stops
returns-then-is_quit-clause-stops c =
    let x = search_of c.args.input.now in
    let at = c.args.place.at in
    record {
      quit = c.is_quit.ensures.quit c.if-is_quit.true;
      is = slice_get-get_or x.haystack at 0 c.requires.inside
          ∙ ap (λ (h : List ℕ). Some (get_or h at 0)) (sym c.haystack.ensures);
      low = omega (arith, c.requires.at.low);
      high = c.requires.at.high;
    }

pub next-requires-clause-row : goal.next-requires-clause-row
next-requires-clause-row c = row-inside c.args.cache.now c.args.place.row c.requires.at.stance c.requires.at.is

pub returns-in-Ok-clause-row : goal.returns-in-Ok-clause-row
returns-in-Ok-clause-row c =
    let leads = c.in-Ok.ensures.leads in row-inside c.next.new.self c.in-Ok.row leads.to leads.is

pub returns-in-Ok-clause-leads : goal.returns-in-Ok-clause-leads
returns-in-Ok-clause-leads c =
    let at = c.args.place.at in
    subst (λ (h : List ℕ). LeadsTo c.args.dfa.now c.args.cache.now c.next.new.self c.args.place.row (get_or h at 0)
    c.in-Ok.row) c.haystack.ensures c.in-Ok.ensures.leads

pub returns-in-Err-clause-stops : goal.returns-in-Err-clause-stops
returns-in-Err-clause-stops c =
    IsStop-gave_up c.args.dfa.now.nfa (search_of c.args.input.now) c.at.result c.in-Err.gave_up c.args.place.at
    c.at.ensures (record { low = c.requires.at.low; high = c.requires.at.high })

pub returns-in-Err-clause-full : goal.returns-in-Err-clause-full
returns-in-Err-clause-full c =
    IsUsedUp-at c.next.new.self c.args.dfa.now c.at.result c.in-Err.gave_up c.args.place.at c.at.ensures
    c.in-Err.ensures.full
