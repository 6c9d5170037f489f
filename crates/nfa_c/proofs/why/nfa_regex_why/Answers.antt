-- A pattern for which a handle is made is one. The message of a failure says why there is none.
use Rattle.nfa_c.proofs.why.nfa_regex_why.Goals as goal

pub returns-in-Ok-clause-none : goal.returns-in-Ok-clause-none
returns-in-Ok-clause-none c = λ _. record {
  own = c.in-Ok.field-0.value;
  made = rw c.builder.ensures at c.in-Ok.ensures.made;
}

pub returns-clause-why : goal.returns-clause-why
returns-clause-why c = λ _.
    let said = c.write_failure.ensures.says in
    record {
      cause = said.cause;
      why = said.follows _ _ (rw c.builder.ensures at c.in-Err.ensures.why);
      count_is = said.count_is;
      message = said.message;
    }
