-- Texts for which a handle is made are patterns.
use Rattle.nfa_c.proofs.place.nfa_regex_set_place.Goals as goal

pub returns-in-Ok-clause-none : goal.returns-in-Ok-clause-none
returns-in-Ok-clause-none c = λ _. record {
  own = c.in-Ok.field-0.value;
  made = rw c.builder.ensures at c.in-Ok.ensures.made;
}
