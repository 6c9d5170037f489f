-- A text that is there is one of those so far, or the next one, which is longer by a byte of the level.
use Rattle.std.proofs.lemmas.List.{map_more}
use Rattle.nfa_paths.proofs.Common.{◌≡◌, ◌∙◌, ◌++◌, ◌∷◌, [], ◌+◌, ap, arith, length, subst, sym, take, take_all, Vec, ⊎_elim}
use Rattle.std.specs.declared.alloc.Global.{Global}
use Rattle.regex_literal.specs.ByteSets.{IsInSet}
use Rattle.regex_literal.specs.Find.{OccursAt}
use Rattle.nfa_facts.specs.Needles.{BeginsWithOne, texts_now}
use Rattle.nfa_facts.proofs.NeedleLemmas.{begins-cases}
use Rattle.nfa_facts.proofs.literal.needles.lengthened.Goals as goal

pub loop-text-preserved : goal.loop-text-preserved
loop-text-preserved c = λ hay count k there inside is.
    let i = c.loop-text.text-index in
    let texts = c.args.texts.now in
    let text = c.text-item.result in
    let level = c.args.level.now in
    let longer = c.add_longer.new.longer in
    let step : texts_now (take (i + 1) texts) ≡ texts_now (take i texts) ++ text.items ∷ [] =
    map_more (λ (v : Vec _ Global). v.items) texts i text c.loop-text-test.true
    ∙ ap (λ (v : Vec _ Global). texts_now (take i texts) ++ v.items ∷ []) (sym c.text-item.is) in
    let same = c.deref.ensures.value in
    ⊎_elim
    (λ before. c.in_ok-add_longer.ensures.keeps hay (count + 1) k (c.loop-text.invariant hay count k before inside is))
    (λ last.
    let long : length c.deref.result.now ≡ count = ap length same ∙ last.0 in
    let occurs : OccursAt hay c.deref.result.now k = subst (λ t. OccursAt hay t k) (sym same) last.1 in
    let has : IsInSet level hay (k + length c.deref.result.now) =
    subst (λ n. IsInSet level hay (k + n)) (sym long) is in
    subst (λ n. BeginsWithOne hay (texts_now longer.items) (n + 1) k) long
    (c.in_ok-add_longer.ensures.adds hay k occurs (omega (arith, inside, long)) has))
    (begins-cases hay (texts_now (take i texts)) text.items count k
    (subst (λ ts. BeginsWithOne hay ts count k) step there))

pub returns : goal.returns
returns c = λ hay count k there inside is.
    let i = c.loop-text.text-index in
    let all = take_all i c.args.texts.now (omega (arith, c.loop-text-test.false)) in
    c.loop-text.invariant hay count k (subst (λ ts. BeginsWithOne hay (texts_now ts) count k) (sym all) there) inside is
