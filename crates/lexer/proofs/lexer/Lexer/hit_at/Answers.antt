-- The law, of this search.
use Rattle.std.proofs.Common.{rules, ◌≡◌, ℕ, List, arith, subst, sym, option_map}
use Rattle.std.proofs.lemmas.Grind.{common_steps}
use Rattle.regex_search_core.specs.Found.{found_of}
use Rattle.regex_search_core.specs.Search.{Search, search_of}
use Rattle.nfa_engines.specs.Paths.{IsFindAnswer}
use Rattle.nfa_meta.specs.ChoiceState.{kind_in}
use Rattle.nfa_compiler.specs.Compiled.{AreMeant}
use Rattle.nfa_compiler.proofs.CallLemmas.{bytes-of}
use Rattle.nfa_compiler.specs.Written.{byte_syntax}
use Rattle.lexer.specs.Lexed.{search_at}
use Rattle.nfa_meta.proofs.AnchoredLemmas.{regex-kept}
use Rattle.lexer.proofs.PieceLemmas.{hit-is}
use Rattle.lexer.proofs.lexer.Lexer.hit_at.Goals as goal

pub returns-clause-hit : goal.returns-clause-hit
returns-clause-hit c = λ res meant.
    let text = c.args.text.now in
    let bytes = bytes-of text (λ k. omega (arith, c.type_inv.text k)) in
    let meant-inside = subst (λ (ps : List (List ℕ)). AreMeant byte_syntax ps res) (sym c.self.view_is) meant in
    let same : search_of c.anchored-input.result ≡ search_at text c.args.at =
    first_of (search rules, grind (arith, common_steps)) in
    let r = c.self.inside.regex.choice in
    let Answers : Search → Type 0 = λ x. IsFindAnswer r.nfa (kind_in r) x.earliest x
    (option_map found_of c.find.result) in
    hit-is res text c.searches_find_texts.ensures.matches _ c.self.inside.regex c.self.invariant meant-inside bytes
    c.args.at c.requires _ (subst Answers same c.find.ensures.answer)

pub invariant_of-self : goal.invariant_of-self
invariant_of-self c = regex-kept _ c.self.inside.regex c.find.new.regex c.self.invariant c.find.ensures.keeps
