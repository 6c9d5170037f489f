-- For callers that pass a function which changes nothing that it captured: what a call says then holds of each call.
use Rattle.std.specs.Global.{Vec}
use Rattle.nfa_paths.proofs.Common.{Bor, MutBor, ◌≡◌, ◌∙◌, ℕ, List, [], ◌∷◌, ◌++◌, Ok, Result, ap, refl, subst, sym, FoldsTo, whole, Captured}
use Rattle.std.specs.Fn.{Called, Mut}
use Rattle.std.specs.declared.alloc.AllocError.{AllocError}
use Rattle.nfa_search_base.specs.Common.{CapturesInside}
use Rattle.nfa_meta.specs.Rewritten.{AppendsBy, TakesMatchesOf, Writes, WritesForMatch, WritesLead}

module _ {F : Type 0} (g : Mut F (Bor Captured × (MutBor (Vec ℕ) × Unit {0}))
    (Result (Unit {0}) AllocError × (MutBor (Vec ℕ) × Unit {0}))) (text : List ℕ) (f : F) where
  -- each call that returns `Ok` for the captures of a match of the text leaves f
  abbrev pub Stays : Type 0
  Stays = (p : Bor Captured) (q q' : MutBor (Vec ℕ)) (f' : F) → CapturesInside (whole text) p.now
      → Called g f (p, (q, tt)) (Ok tt, (q', tt)) f' → f' ≡ f

  writes-stays : Stays → (c : Captured) (before after : List ℕ) (f' : F) → CapturesInside (whole text) c
      → Writes g f c before after f' → f' ≡ f
  writes-stays stays c before after f' inside w =
      stays w.shown w.lent w.left f' (subst (CapturesInside (whole text)) (sym w.shows) inside) w.called

  last-same : Stays → (cs : List Captured) (at last : F) → at ≡ f → FoldsTo (WritesForMatch g text) at cs last
      → last ≡ f
  last-same stays [] at last is calls = sym calls ∙ is
  last-same stays (c ∷ cs) at last is calls =
      let call = subst (λ (x : F). WritesForMatch g text x c calls.0) is calls.1 in
      let next = writes-stays stays c call.1 call.2 calls.0 call.0 call.3 in
      last-same stays cs calls.0 last next calls.2

  -- then calls lead only to f
  pub WritesLead-same : Stays → (f' : F) → WritesLead g text f f' → f' ≡ f
  WritesLead-same stays f' leads = last-same stays leads.caught f f' refl leads.calls

  -- and the function takes in each state what f takes
  pub TakesMatchesOf-same : Stays
      → ((p : Bor Captured) (q : MutBor (Vec ℕ)) → CapturesInside (whole text) p.now → g.pre f (p, (q, tt)))
      → TakesMatchesOf g text f
  TakesMatchesOf-same stays takes = λ f' p q leads inside.
      subst (λ (x : F). g.pre x (p, (q, tt))) (sym (WritesLead-same stays f' leads)) (takes p q inside)

  -- each call that returns `Ok` for a match of the text appends what h gives for its captures, and leaves f
  abbrev pub AppendsAndStays : (Captured → List ℕ) → Type 0
  AppendsAndStays h = (p : Bor Captured) (q q' : MutBor (Vec ℕ)) (f' : F) → CapturesInside (whole text) p.now
      → Called g f (p, (q, tt)) (Ok tt, (q', tt)) f' → (q'.now.items ≡ q.now.items ++ h p.now) × (f' ≡ f)

  writes-appends : (h : Captured → List ℕ) → AppendsAndStays h → (c : Captured) (before after : List ℕ) (f' : F)
      → CapturesInside (whole text) c → Writes g f c before after f' → after ≡ before ++ h c
  writes-appends h each c before after f' inside w =
      let within = subst (CapturesInside (whole text)) (sym w.shows) inside in
      let appended = each w.shown w.lent w.left f' within w.called in
      sym w.leaves ∙ appended.0 ∙ ap (λ (out : List ℕ). out ++ h w.shown.now) w.lends
      ∙ ap (λ (x : Captured). before ++ h x) w.shows

  -- then the calls in each state append what h gives
  pub AppendsBy-same : (h : Captured → List ℕ) → AppendsAndStays h → AppendsBy g text f h
  AppendsBy-same h each = λ f' f'' c before after leads inside w.
      let is = WritesLead-same (λ p q q' x i k. (each p q q' x i k).1) f' leads in
      writes-appends h each c before after f'' inside (subst (λ (x : F). Writes g x c before after f'') is w)
