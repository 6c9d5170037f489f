-- Each match has at least the bytes of the anchored start.
use Rattle.nfa_paths.proofs.Common.{◌≡◌, ◌∙◌, arith, get_or, subst, sym}
use Rattle.nfa_facts.specs.LeastLengths.{AreLeastLengths, HasLeast}
use Rattle.nfa_facts.proofs.LeastLemmas.{HasLeast-none, HasLeast-of}
use Rattle.nfa_facts.proofs.literal.least_length.least_length.Goals as goal

pub returns-then-not-are_least_lengths : goal.returns-then-not-are_least_lengths
returns-then-not-are_least_lengths c = HasLeast-none c.args.nfa.now

pub returns : goal.returns
returns c =
    let nfa = c.args.nfa.now in
    let lengths = c.deref.result.now in
    let all : AreLeastLengths nfa lengths = c.are_least_lengths.ensures c.if-not-are_least_lengths.false in
    let again : c.deref-2.result.now ≡ lengths = c.deref-2.ensures.value ∙ sym c.deref.ensures.value in
    let same : get_or lengths nfa.anchored 0 ≡ c.length_of.result = grind (arith, again) in
    subst (HasLeast nfa) same (HasLeast-of nfa lengths all)
