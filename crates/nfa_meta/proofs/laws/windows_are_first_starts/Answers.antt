-- No anchored search before the window has an accepting path.
use Rattle.nfa_meta.proofs.WindowLemmas.{first-start}
use Rattle.nfa_meta.proofs.laws.windows_are_first_starts.Goals as goal

pub returns : goal.returns
returns c = λ nfa x s free low from. first-start (record { free = free; low = low; from = from })
