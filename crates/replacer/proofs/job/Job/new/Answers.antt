-- What is wrong with the pattern or the template is wrong with the request.
use Rattle.replacer.proofs.PrintedLemmas.{misused, pattern-misused}
use Rattle.replacer.proofs.job.Job.new.Goals as goal

pub returns-in-Err-clause-mistake : goal.returns-in-Err-clause-mistake
returns-in-Err-clause-mistake c =
    pattern-misused c.args.request c.in-Err.mistake c.in-Err.ensures.mistake

pub returns-in-Err-new-clause-mistake : goal.returns-in-Err-new-clause-mistake
returns-in-Err-new-clause-mistake c =
    misused c.groups_are_those_of_texts.ensures.names c.args.request c.in-Ok.regex.choice c.in-Ok.ensures.searches
    c.in-Err-new.mistake c.in-Err-new.ensures.mistake
