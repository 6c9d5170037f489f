-- A token starts here, or the stretch goes on.
use Rattle.std.proofs.Common.{rules, ◌≡◌, ◌∙◌, arith, false, length, sym, true}
use Rattle.lexer.specs.Lexed.{token_there, token_found}
use Rattle.lexer.proofs.PieceLemmas.{is-found, stretch-end, stretch-from}
use Rattle.lexer.proofs.lexer.Lexer.next_token.Goals as goal

pub returns-then-is_some-clause-end : goal.returns-then-is_some-clause-end
returns-then-is_some-clause-end c = λ res meant.
    let inv = c.loop-at.invariant in
    let tokens = token_there c.args.prefer res c.args.text.now in
    let token = c.token_at.ensures.token res (rw inv.kept meant) in
    let found = is-found token_found c.token_at.result (tokens c.loop-at.at) true token (search rules) in
    sym (inv.same res meant
    ∙ rw found at (stretch-from tokens (length c.args.text.now) c.loop-at.at c.loop-at-test.true))

pub loop-at-preserved : goal.loop-at-preserved
loop-at-preserved c =
    let inv = c.loop-at.invariant in
    record {
      same = λ res meant.
          let tokens = token_there c.args.prefer res c.args.text.now in
          let token = c.token_at.ensures.token res (rw inv.kept meant) in
          let none = is-found token_found c.token_at.result (tokens c.loop-at.at) false token (search rules) in
          inv.same res meant
          ∙ rw none at (stretch-from tokens (length c.args.text.now) c.loop-at.at c.loop-at-test.true);
      kept = search rules;
    }

pub returns-clause-end : goal.returns-clause-end
returns-clause-end c = λ res meant.
    let there : c.loop-at.at ≡ length c.args.text.now =
    omega (arith, c.loop-at-test.false, c.loop-at.auto.at-end c.requires) in
    stretch-end (token_there c.args.prefer res c.args.text.now) (length c.args.text.now)
    ∙ sym (rw there at (c.loop-at.invariant.same res meant))
