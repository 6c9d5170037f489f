-- What was pushed is what the iterator gave, and fewer than the count.
use Rattle.std.proofs.Common.{◌≡◌, ◌<◌, length}
use Rattle.nfa_meta.proofs.regex.Regex.first_matches.Given as goal

abbrev pub invariant-loop-found : goal.invariant-loop-found
invariant-loop-found l = record { items : l.first.items ≡ l.yielded; room : length l.first.items < l.count }
