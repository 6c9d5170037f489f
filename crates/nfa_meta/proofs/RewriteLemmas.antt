-- Calls of a function that appends what comes in place of a match.
use Rattle.std.specs.Global.{Vec}
use Rattle.nfa_paths.proofs.Common.{Bor, MutBor, All, ◌≡◌, ◌∙◌, ◌≤◌, ℕ, List, [], ◌∷◌, ◌++◌, IfOk, Err, Ok, Result, ap, arith, drop, length, refl, slice_range, subst, sym, take, append_assoc, recursion_from_All, AllByRecursion, whole, Captured}
use Rattle.std.proofs.Common.{append-nil}
use Rattle.std.proofs.lemmas.Fn.{FoldsTo-push}
use Rattle.std.specs.Fn.{Mut}
use Rattle.std.specs.declared.alloc.AllocError.{AllocError}
use Rattle.nfa_search_base.specs.Common.{CapturesInside, match_in}
use Rattle.nfa_choice.specs.ChoiceState.{ChoiceState}
use Rattle.nfa_meta.specs.Filled.{IsFilled, IsFilledUpTo, filled_from}
use Rattle.nfa_meta.specs.Rewritten.{AppendsBy, HasRewrittenSoFar, IsRewrittenBy, IsRewrittenUpToBy, RewritesFrom, Writes, WritesForMatch, WritesLead, end_after, rewritten}
use Rattle.nfa_meta.specs.Templates.{filled}
use Rattle.nfa_meta.specs.declared.interpolate.Part.{Part}

-- before, a slice and a piece, one after the other, and then more
regrouped : (before slice piece more : List ℕ)
    → ((before ++ slice) ++ piece) ++ more ≡ before ++ (slice ++ (piece ++ more))
regrouped before slice piece more =
    append_assoc (before ++ slice) piece more ∙ append_assoc before slice (piece ++ more)

-- after captures and one more, the last match is that of the last one
end_after-last : (from : ℕ) (cs : List Captured) (c : Captured) → end_after from (cs ++ c ∷ []) ≡ (match_in c).end
end_after-last from [] c = refl
end_after-last from (d ∷ cs) c = end_after-last (match_in d).end cs c

module _ {F : Type 0} (g : Mut F (Bor Captured × (MutBor (Vec ℕ) × Unit {0}))
    (Result (Unit {0}) AllocError × (MutBor (Vec ℕ) × Unit {0}))) (text : List ℕ) where
  -- no calls lead to f itself
  pub WritesLead-none : (f : F) → WritesLead g text f f
  WritesLead-none f = record { caught = []; calls = refl }

  -- one call, and then the others
  WritesLead-first : {f f' last : F} {c : Captured} {before after : List ℕ} → CapturesInside (whole text) c
      → Writes g f c before after f' → WritesLead g text f' last → WritesLead g text f last
  WritesLead-first {f' = f'} {c = c} {before = before} {after = after} inside w leads =
      record { caught = c ∷ leads.caught; calls = (f', (inside, before, after, w), leads.calls) }

  -- the others, and then one call
  WritesLead-last : {f f' last : F} {c : Captured} {before after : List ℕ} → WritesLead g text f f'
      → CapturesInside (whole text) c → Writes g f' c before after last → WritesLead g text f last
  WritesLead-last {c = c} {before = before} {after = after} leads inside w = record {
    caught = leads.caught ++ (c ∷ []);
    calls = FoldsTo-push (WritesForMatch g text) _ leads.caught _ c _ leads.calls (inside, before, after, w);
  }

  -- before the first call
  pub so_far-none : (f : F) (output : List ℕ) → output ≡ []
      → HasRewrittenSoFar g text [] f (record { replacement = f; output = output }) 0
  so_far-none f output is = record {
    goes_on = λ more after r. subst (λ (out : List ℕ). RewritesFrom g text 0 more f out after) is r;
    leads = WritesLead-none f;
    ends = refl;
    within = omega arith;
  }

  -- The calls for these captures led to f. They go on with captures c.
  pub so_far-more : {caught : List Captured} {c : Captured} {f₀ f f' : F} {from end : ℕ} {output between : List ℕ}
      → HasRewrittenSoFar g text caught f₀ (record { replacement = f; output = output }) from
      → CapturesInside (whole text) c → end ≡ (match_in c).end
      → Writes g f c (output ++ slice_range text from (match_in c).start) between f'
      → HasRewrittenSoFar g text (caught ++ c ∷ []) f₀ (record { replacement = f'; output = between }) end
  so_far-more {caught} {c} {f₀} {f} {f'} {from} {end} {output} {between} so_far inside ends w = record {
    goes_on = λ more after r.
        let others = subst (λ (e : ℕ). RewritesFrom g text e more f' between after) ends r in
        subst (λ (cs : List Captured). RewritesFrom g text 0 cs f₀ [] after) (sym (append_assoc caught (c ∷ []) more))
        (so_far.goes_on (c ∷ more) after (f', between, w, others));
    leads = WritesLead-last so_far.leads inside w;
    ends = ends ∙ sym (end_after-last 0 caught c);
    within = let to : (match_in c).end ≤ length text = inside.inside.to in omega (arith, ends, to);
  }

  -- at the end, with the rest of the text, they are all calls
  pub so_far-all : {caught : List Captured} {f₀ f : F} {from : ℕ} {output after : List ℕ}
      → HasRewrittenSoFar g text caught f₀ (record { replacement = f; output = output }) from
      → after ≡ output ++ drop from text → RewritesFrom g text 0 caught f₀ [] after
  so_far-all {caught = caught} {f₀ = f₀} {after = after} so_far rest =
      subst (λ (cs : List Captured). RewritesFrom g text 0 cs f₀ [] after) (append-nil caught)
      (so_far.goes_on [] after rest)

  -- If each call appends what h gives for the captures, the calls append the text so rewritten.
  module _ (h : Captured → List ℕ) where
    rewritten-on : (cs : List Captured) → AllByRecursion (CapturesInside (whole text)) cs → (from : ℕ) (f : F)
        (before after : List ℕ) → AppendsBy g text f h → RewritesFrom g text from cs f before after
        → after ≡ before ++ rewritten text h from cs
    rewritten-on [] inside from f before after appends r = r
    rewritten-on (c ∷ cs) inside from f before after appends r =
        let slice = slice_range text from (match_in c).start in
        let end = (match_in c).end in
        let more = rewritten text h end cs in
        let between = appends f r.0 c (before ++ slice) r.1 (WritesLead-none f) inside.0 r.2 in
        let later : AppendsBy g text r.0 h =
        λ f' f'' d b a leads. appends f' f'' d b a (WritesLead-first inside.0 r.2 leads) in
        rewritten-on cs inside.1 end r.0 r.1 after later r.3
        ∙ ap (λ (out : List ℕ). out ++ more) between
        ∙ regrouped before slice (h c) more

    pub rewritten-by : (cs : List Captured) → All (CapturesInside (whole text)) cs → (f : F) {after : List ℕ}
        → AppendsBy g text f h → RewritesFrom g text 0 cs f [] after → after ≡ rewritten text h 0 cs
    rewritten-by cs inside f {after} appends r =
        rewritten-on cs (recursion_from_All (CapturesInside (whole text)) cs inside) 0 f [] after appends r

-- If each call appends what a template gives for the captures, the text is the one that the template fills.
rewritten-filled : (text : List ℕ) (parts : List Part) (from : ℕ) (cs : List Captured)
    → rewritten text (λ c. filled text c parts) from cs ≡ filled_from text parts from cs
rewritten-filled text parts from [] = refl
rewritten-filled text parts from (c ∷ cs) =
    let slice = slice_range text from (match_in c).start in
    let end = (match_in c).end in
    ap (λ (rest : List ℕ). slice ++ (filled text c parts ++ rest)) (rewritten-filled text parts end cs)
    ∙ sym (append_assoc slice (filled text c parts) (filled_from text parts end cs))

pub filled-by : (r : ChoiceState) (text : List ℕ) (parts : List Part) (result : Result (Vec ℕ) AllocError)
    → IfOk result (λ output. IsRewrittenBy r text (λ c. filled text c parts) output.items)
    → IfOk result (λ output. IsFilled r text parts output.items)
filled-by r text parts (Ok output) by = record {
  caught = by.caught;
  all = by.all;
  output_is = by.output_is ∙ rewritten-filled text parts 0 by.caught;
}
filled-by r text parts (Err error) by = tt

pub filled-up_to : (r : ChoiceState) (text : List ℕ) (limit : ℕ) (parts : List Part)
    (result : Result (Vec ℕ) AllocError)
    → IfOk result (λ output. IsRewrittenUpToBy r text limit (λ c. filled text c parts) output.items)
    → IfOk result (λ output. IsFilledUpTo r text limit parts output.items)
filled-up_to r text limit parts (Ok output) by = record {
  caught = by.caught;
  all = by.all;
  output_is = by.output_is ∙ rewritten-filled text parts 0 (take limit by.caught);
}
filled-up_to r text limit parts (Err error) by = tt
