-- The closure is what was kept, and then what the states on the stack lead to.
use Rattle.nfa_lazy_dfa.specs.Closures.{closure, holding_at}
use Rattle.nfa_lazy_dfa.proofs.ClosureLemmas.{IsUnderWay, takes_left}
use Rattle.nfa_lazy_dfa.proofs.determinize.closure.closure.Given as goal

abbrev pub invariant-loop-sid : goal.invariant-loop-sid
invariant-loop-sid l =
    IsUnderWay l.nfa (holding_at l.haystack l.at) (closure l.nfa (holding_at l.haystack l.at) l.states) l.seen.items
    l.waiting.items l.kept.items

abbrev pub decreases-loop-sid : goal.decreases-loop-sid
decreases-loop-sid l = takes_left l.nfa l.seen.items l.waiting.items
