-- The words are those of the failure, or those of a want of memory, which explains the error of a builder too.
use Rattle.std.proofs.Common.{◌≡◌, ◌∙◌, sym}
use Rattle.nfa_c.specs.Sets.{set_failure_text}
use Rattle.nfa_c.proofs.set_why.write_set_failure.Goals as goal

pub returns-in-Range-clause-says : goal.returns-in-Range-clause-says
returns-in-Range-clause-says c = record {
  cause = c.args.failure;
  follows = λ b text ends why. why;
  count_is = rw c.in-Range.is c.write_words-in-Range.ensures.count_is;
  message = rw c.in-Range.is c.write_words-in-Range.ensures.bytes_are;
}

pub returns-in-Utf8-clause-says : goal.returns-in-Utf8-clause-says
returns-in-Utf8-clause-says c = record {
  cause = c.args.failure;
  follows = λ b text ends why. why;
  count_is = rw c.in-Utf8.is c.write_words-in-Utf8.ensures.count_is;
  message = rw c.in-Utf8.is c.write_words-in-Utf8.ensures.bytes_are;
}

pub returns-clause-says : goal.returns-clause-says
returns-clause-says c =
    let value : c.as_str.result.now ≡ set_failure_text c.args.failure =
    rw c.in-Patterns.is (c.as_str.ensures.value ∙ c.in-Ok.ensures) in
    record {
      cause = c.args.failure;
      follows = λ b text ends why. why;
      count_is = rw (sym value) c.write_words-2.ensures.count_is;
      message = rw (sym value) c.write_words-2.ensures.bytes_are;
    }
