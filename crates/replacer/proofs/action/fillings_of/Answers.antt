-- One more template was read, or one cannot be read.
use Rattle.std.proofs.Common.{rules, ◌≡◌, ◌∙◌, ◌+◌, ◌++◌, List, [], ◌∷◌, ℕ, ap, get_or, length, map, subst, sym}
use Rattle.std.proofs.lemmas.List.{get_or-map, length_push, map_push}
use Rattle.std.specs.Global.{Vec}
use Rattle.std.specs.List.{AllZip}
use Rattle.regex_search_core.specs.PatternSets.{number_of}
use Rattle.replacer.proofs.FillingLemmas.{fillings_more}
use Rattle.replacer.proofs.PrintedLemmas.{template-misused}
use Rattle.replacer.specs.Fillings.{Groups, IsBadStretch, IsPiece, pieces_in}
use Rattle.replacer.specs.Stretches.{Stretched, all_stretched, stretched}
use Rattle.replacer.specs.declared.filling.Filling.{Filling}
use Rattle.replacer.specs.declared.filling.Piece.{Piece}
use Rattle.replacer.specs.declared.stretches.Stretch.{Stretch}
use Rattle.replacer.proofs.action.fillings_of.Goals as goal

pub loop-number-preserved : goal.loop-number-preserved
loop-number-preserved c =
    let groups = c.args.regex.now.choice.nfa.groups in
    let ts = all_stretched c.args.templates.now in
    let at = c.loop-number.number in
    let fs = c.loop-number.fillings.items in
    let filling = c.in-Ok.filling in
    let ps = filling.pieces.items in
    let item = c.index-templates-number.result in
    let number : number_of c.in-Some.pattern ≡ at = search rules in
    let here : map stretched c.deref.result.now ≡ get_or ts at [] =
    ap (map stretched) c.deref.ensures.value
    ∙ ap (λ (v : Vec Stretch). map stretched v.items) c.index-templates-number.is
    ∙ sym (get_or-map (λ (v : Vec Stretch). map stretched v.items) c.args.templates.now at item []
    c.loop-number-test.true) in
    let one : AllZip (IsPiece groups at) (get_or ts at []) ps =
    subst (λ (g : Groups). AllZip (IsPiece g at) (get_or ts at []) ps) c.group_info.ensures
    (subst (λ (n : ℕ). AllZip (IsPiece c.group_info.result.now n) (get_or ts at []) ps) number
    (subst (λ (s : List Stretched). AllZip (IsPiece c.group_info.result.now (number_of c.in-Some.pattern)) s ps) here
    c.in-Ok.ensures.pieces)) in
    let pushed : pieces_in c.push.new.self.items ≡ pieces_in fs ++ (ps ∷ []) =
    ap pieces_in c.in_ok-push-in-Ok.ensures.items ∙ map_push (λ (f : Filling). f.pieces.items) fs filling in
    record {
      count = ap length pushed ∙ length_push (pieces_in fs) ps ∙ ap (λ (n : ℕ). n + 1) c.loop-number.invariant.count;
      each = λ k h. subst (λ (all : List (List Piece)). AllZip (IsPiece groups k) (get_or ts k []) (get_or all k []))
          (sym pushed)
          (fillings_more groups ts (pieces_in fs) at ps c.loop-number.invariant.count c.loop-number.invariant.each one
          k h);
    }

pub returns-in-Err-clause-mistake : goal.returns-in-Err-clause-mistake
returns-in-Err-clause-mistake c =
    let groups = c.args.regex.now.choice.nfa.groups in
    let ts = all_stretched c.args.templates.now in
    let at = c.loop-number.number in
    let bad = c.in-Err.bad in
    let item = c.index-templates-number.result in
    let number : number_of c.in-Some.pattern ≡ at = search rules in
    let here : map stretched c.deref.result.now ≡ get_or ts at [] =
    ap (map stretched) c.deref.ensures.value
    ∙ ap (λ (v : Vec Stretch). map stretched v.items) c.index-templates-number.is
    ∙ sym (get_or-map (λ (v : Vec Stretch). map stretched v.items) c.args.templates.now at item []
    c.loop-number-test.true) in
    let wrong : IsBadStretch groups at (get_or ts at []) bad =
    subst (λ (g : Groups). IsBadStretch g at (get_or ts at []) bad) c.group_info.ensures
    (subst (λ (n : ℕ). IsBadStretch c.group_info.result.now n (get_or ts at []) bad) number
    (subst (λ (s : List Stretched). IsBadStretch c.group_info.result.now (number_of c.in-Some.pattern) s bad) here
    c.in-Err.ensures.mistake)) in
    rw c.mistake_of.ensures (template-misused groups c.args.templates at bad wrong)
