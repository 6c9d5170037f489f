-- A text with what a function appends in place of its matches.
use Rattle.std.specs.Prelude.{◌≡◌, ◌≤◌, ℕ, List, [], ◌∷◌, ◌++◌, Ok, Result, drop, length, slice_range, take}
use Rattle.std.specs.Global.{Vec}
use Rattle.std.specs.declared.alloc.AllocError.{AllocError}
use Rattle.nfa_search_base.specs.Common.{Bor, MutBor, Called, Mut, FoldsTo, whole, Captured, CapturesInside, match_in}
use Rattle.nfa_choice.specs.ChoiceState.{ChoiceState}
use Rattle.nfa_meta.specs.Filled.{AreAllCaught}

-- the text from an offset on, with what h gives for these captures in place of the match of each
abbrev pub rewritten : List ℕ → (Captured → List ℕ) → ℕ → List Captured → List ℕ
rewritten text h from [] = drop from text
rewritten text h from (c ∷ cs) =
    slice_range text from (match_in c).start ++ (h c ++ rewritten text h (match_in c).end cs)

-- the output is the text with what h gives for its captures in place of each match
pub record IsRewrittenBy (r : ChoiceState) (text : List ℕ) (h : Captured → List ℕ) (output : List ℕ) : Type 0 where
  pub caught : List Captured
  pub all : AreAllCaught r text caught
  pub output_is : output ≡ rewritten text h 0 caught

-- the output is the text with what h gives in place of its first matches: of as many as the limit, or of all, if there
-- are fewer
pub record IsRewrittenUpToBy (r : ChoiceState) (text : List ℕ) (limit : ℕ) (h : Captured → List ℕ)
    (output : List ℕ) : Type 0 where
  pub caught : List Captured
  pub all : AreAllCaught r text caught
  pub output_is : output ≡ rewritten text h 0 (take limit caught)

-- where the match of the last of these captures ends, or an offset if there are none
abbrev pub end_after : ℕ → List Captured → ℕ
end_after from [] = from
end_after from (c ∷ cs) = end_after (match_in c).end cs

-- what calls left: the function, and the output
pub record CallsLeft (F : Type 0) : Type 0 where
  pub replacement : F
  pub output : List ℕ

module _ {F : Type 0} (g : Mut F (Bor Captured × (MutBor (Vec ℕ) × Unit {0}))
    (Result (Unit {0}) AllocError × (MutBor (Vec ℕ) × Unit {0}))) where
  -- a call of f with these captures and this output returns `Ok`, and leaves f' and the output after it
  pub record Writes (f : F) (c : Captured) (before after : List ℕ) (f' : F) : Type 0 where
    pub shown : Bor Captured
    pub shows : shown.now ≡ c
    pub lent : MutBor (Vec ℕ)
    pub lends : lent.now.items ≡ before
    pub left : MutBor (Vec ℕ)
    pub called : Called g f (shown, (lent, tt)) (Ok tt, (left, tt)) f'
    pub leaves : left.now.items ≡ after

  -- a call of f for the captures of a match of the text, with some output, returns `Ok` and leaves f'
  abbrev pub WritesForMatch : List ℕ → F → Captured → F → Type 0
  WritesForMatch text f c f' = CapturesInside (whole text) c × (before : List ℕ) × (after : List ℕ)
      × Writes f c before after f'

  -- calls that return `Ok`, for captures of matches of the text one after another, lead from f to f'
  pub record WritesLead (text : List ℕ) (f f' : F) : Type 0 where
    pub caught : List Captured
    pub calls : FoldsTo (WritesForMatch text) f caught f'

  -- In each state that calls lead to from f, the function may be called with the captures of any match of the text, and
  -- any output.
  abbrev pub TakesMatchesOf : List ℕ → F → Type 0
  TakesMatchesOf text f = (f' : F) (p : Bor Captured) (q : MutBor (Vec ℕ)) → WritesLead text f f'
      → CapturesInside (whole text) p.now → g.pre f' (p, (q, tt))

  -- In each state that calls lead to from f, a call that returns `Ok` for a match of the text appends what h gives for
  -- its captures.
  abbrev pub AppendsBy : List ℕ → F → (Captured → List ℕ) → Type 0
  AppendsBy text f h = (f' f'' : F) (c : Captured) (before after : List ℕ) → WritesLead text f f'
      → CapturesInside (whole text) c → Writes f' c before after f'' → after ≡ before ++ h c

  -- The text from an offset on is appended, and for the match of each of these captures what a call appends: the calls,
  -- in their order, lead from f and the output before to the output after.
  abbrev pub RewritesFrom : List ℕ → ℕ → List Captured → F → List ℕ → List ℕ → Type 0
  RewritesFrom text from [] f before after = after ≡ before ++ drop from text
  RewritesFrom text from (c ∷ cs) f before after = (f' : F) × (between : List ℕ)
      × Writes f c (before ++ slice_range text from (match_in c).start) between f'
      × RewritesFrom text (match_in c).end cs f' between after

  -- The calls for these captures, from f on, left this: if calls for more captures lead on to an output, all calls do.
  pub record HasRewrittenSoFar (text : List ℕ) (caught : List Captured) (f : F) (now : CallsLeft F) (from : ℕ)
      : Type 0 where
    pub goes_on : (more : List Captured) (after : List ℕ)
        → RewritesFrom text from more now.replacement now.output after
        → RewritesFrom text 0 (caught ++ more) f [] after
    pub leads : WritesLead text f now.replacement
    pub ends : from ≡ end_after 0 caught
    pub within : from ≤ length text

  module _ (r : ChoiceState) (text : List ℕ) (f : F) where
    -- the output is the text with what f appends for its captures in place of each match, from left to right
    pub record IsRewritten (output : List ℕ) : Type 0 where
      pub caught : List Captured
      pub all : AreAllCaught r text caught
      pub writes : RewritesFrom text 0 caught f [] output

    -- the output is the text with what f appends in place of its first matches: of as many as the limit, or of all, if
    -- there are fewer
    pub record IsRewrittenUpTo (limit : ℕ) (output : List ℕ) : Type 0 where
      pub caught : List Captured
      pub all : AreAllCaught r text caught
      pub writes : RewritesFrom text 0 (take limit caught) f [] output
