-- Each hit is a match.
use Rattle.nfa_grep.proofs.PartLemmas.{hits-have-bytes}
use Rattle.nfa_grep.proofs.required_literal.laws.hits_have_required_bytes.Goals as goal

pub returns : goal.returns
returns c = λ res bytes required bound x small some. hits-have-bytes res bytes required bound x small some
