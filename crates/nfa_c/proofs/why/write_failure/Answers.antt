-- The words are those of the error.
use Rattle.std.proofs.Common.{◌≡◌, ◌∙◌, sym}
use Rattle.nfa_c.specs.Codes.{failure_text}
use Rattle.nfa_c.proofs.why.write_failure.Goals as goal

pub returns-clause-says : goal.returns-clause-says
returns-clause-says c =
    let value : c.as_str.result.now ≡ failure_text c.args.failure =
    rw c.in-Pattern.is (c.as_str.ensures.value ∙ c.in-Ok.ensures) in
    record {
      cause = c.args.failure;
      follows = λ b text why. why;
      count_is = rw (sym value) c.write_words-2.ensures.count_is;
      message = rw (sym value) c.write_words-2.ensures.bytes_are;
    }
