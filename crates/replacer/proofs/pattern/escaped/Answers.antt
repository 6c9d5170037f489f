-- One more text was escaped.
use Rattle.std.proofs.Common.{rules, ◌≡◌, ◌∙◌, ◌+◌, ◌++◌, ◌<◌, List, [], ◌∷◌, ℕ, ap, arith, get_or, length, map, string_bytes, subst, sym, take}
use Rattle.std.proofs.lemmas.List.{get_or-map, length-map, map_more, map_push}
use Rattle.std.specs.Global.{Global}
use Rattle.nfa_compiler.specs.Common.{ReadsAsText}
use Rattle.replacer.proofs.ZipLemmas.{zip_more}
use Rattle.replacer.specs.Printed.{AreFixedTexts, escaped}
use Rattle.replacer.proofs.pattern.escaped.Goals as goal

pub loop-text-preserved : goal.loop-text-preserved
loop-text-preserved c =
    let xs = map (string_bytes {Z = Global}) c.args.texts.now in
    let at = c.loop-text.text-index in
    let text = c.text-item.result in
    let made = c.in_ok-escape.field-0 in
    let old = c.loop-text.made.items in
    let within : at < length xs =
    omega (arith, c.loop-text-test.true, length-map c.args.texts.now (string_bytes {Z = Global})) in
    let bytes : c.as_str.result.now ≡ (string_bytes {Z = Global}) text = search rules in
    let here : c.as_str.result.now ≡ get_or xs at [] =
    bytes ∙ ap (string_bytes {Z = Global}) c.text-item.is
    ∙ sym (get_or-map (string_bytes {Z = Global}) c.args.texts.now at text [] c.loop-text-test.true) in
    let pushed :
    map (string_bytes {Z = Global}) c.push.new.self.items
    ≡ map (string_bytes {Z = Global}) old ++ ((string_bytes {Z = Global}) made ∷ []) =
    ap (map (string_bytes {Z = Global})) c.in_ok-push.ensures.items ∙ map_push (string_bytes {Z = Global}) old made in
    record {
      escaped = pushed
          ∙ ap (λ (l : List (List ℕ)). l ++ ((string_bytes {Z = Global}) made ∷ [])) c.loop-text.invariant.escaped
          ∙ ap (λ (l : List ℕ). map escaped (take at xs) ++ (l ∷ [])) (c.in_ok-escape.ensures.value ∙ ap escaped here)
          ∙ sym (map_more escaped xs at [] within);
      fixed = subst (λ (l : List (List ℕ)). AreFixedTexts (take (at + 1) xs) l) (sym pushed)
          (zip_more (λ (text pattern : List ℕ). ReadsAsText pattern text) xs at []
          (map (string_bytes {Z = Global}) old) ((string_bytes {Z = Global}) made) within c.loop-text.invariant.fixed
          (subst (λ (l : List ℕ). ReadsAsText ((string_bytes {Z = Global}) made) l) here c.in_ok-escape.ensures.reads));
    }
