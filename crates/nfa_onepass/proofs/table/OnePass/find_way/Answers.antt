-- The rows stay, and lists were added.
use Rattle.nfa_paths.proofs.Common.{refl}
use Rattle.nfa_onepass.proofs.TableLemmas.{IsFor-lists}
use Rattle.nfa_onepass.proofs.table.OnePass.find_way.Goals as goal

pub returns-clause-own : goal.returns-clause-own
returns-clause-own c = IsFor-lists c.args.nfa.now c.args.self.now _ refl c.only_way-found.ensures.keeps
    (record { rows = refl; lists = c.only_way-found.ensures.most; setup = refl }) c.requires.own
