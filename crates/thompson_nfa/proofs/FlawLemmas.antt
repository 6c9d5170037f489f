-- Parts that are an NFA have no flaw, which is a fact of each element of a list.
use Rattle.std.proofs.Common.{ℕ, ◌<◌, inl, inr, List, length, sym, subst, arith, Some, All, slice_index_or, ◌≡◌, ◌+◌, ◌≤◌, map, take, ap, ◌∙◌}
use Rattle.std.proofs.lemmas.Bool.{cases_lt}
use Rattle.std.proofs.lemmas.List.{get_or_past, take_all, take-map, length-map, get_or-map}
use Rattle.regex_search_core.specs.Groups.{slot_count}
use Rattle.thompson_nfa.specs.Automaton.{Automaton, IsAutomaton, LeadsBelow, PatternBelow, SlotBelow}
use Rattle.thompson_nfa.specs.Automaton.Node.{Fail}
use Rattle.thompson_nfa.specs.Flaws.{IsFirstFlaw}
use Rattle.thompson_nfa.specs.declared.flaw.Flaw.{Flaw}
use Rattle.thompson_nfa.specs.declared.flaw.Flaw.TheVariants as flaw
use Rattle.thompson_nfa.specs.declared.flaw.Referrer.TheVariants as holder
use Rattle.std.proofs.lemmas.List.Elements.{All-more, All-map}

-- of all elements and of a default, so of each place
at-place : {X : Type 0} (P : X → Type 0) (xs : List X) (i : ℕ) (x : X) → All P xs → P x → P (slice_index_or xs i x)
at-place P xs i x all default = elim (cases_lt i (length xs)) [
  | inl inside ↦ all i x inside
  | inr past ↦ subst P (sym (get_or_past xs i x past)) default
]

pub no-flaw : (a : Automaton) (f : Flaw) → IsAutomaton a → IsFirstFlaw a (Some f) → ⊥
no-flaw a flaw.Empty is first = let filled = is.filled in omega arith
no-flaw a (flaw.State holder.Anchored) is first = first.1 is.numbered.anchored_in
no-flaw a (flaw.State holder.Unanchored) is first = first.1.1 is.numbered.unanchored_in
no-flaw a (flaw.State (holder.Pattern i)) is first =
    first.1.2.1 (at-place (λ s. s < length a.states) a.patterns i 0 is.numbered.patterns_in is.filled)
no-flaw a (flaw.State (holder.State i)) is first =
    first.1.3.1 (at-place (LeadsBelow (length a.states)) a.states i Fail is.numbered.targets_in tt)
no-flaw a (flaw.Slot state slot) is first =
    first.1.0.1 (at-place (SlotBelow (slot_count a.groups)) a.states state Fail is.slots tt)
no-flaw a (flaw.Pattern state pattern) is first =
    first.2.0.1 (at-place (PatternBelow (length a.patterns)) a.states state Fail is.patterns tt)
no-flaw a (flaw.Groups groups patterns) is first = first.3 is.groups

-- one more element passes
pub all-take-suc : {X : Type 0} (P : X → Type 0) (xs : List X) (i : ℕ) (x : X) → i < length xs
    → x ≡ slice_index_or xs i x → All P (take i xs) → P x → All P (take (i + 1) xs)
all-take-suc P xs i x inside is so_far here = All-more P xs i x inside so_far (subst P is here)

-- all have passed, so all images do
pub all-map-from_take : {X Y : Type 0} (P : Y → Type 0) (f : X → Y) (xs : List X) (i : ℕ) → length xs ≤ i
    → All (λ x. P (f x)) (take i xs) → All P (map f xs)
all-map-from_take P f xs i whole so_far =
    All-map P f xs (subst (All (λ x. P (f x))) (take_all i xs whole) so_far)

-- all images pass, so the image of this element does
pub passes-at : {X Y : Type 0} (P : Y → Type 0) (f : X → Y) (xs : List X) (i : ℕ) (x : X) → i < length xs
    → x ≡ slice_index_or xs i x → All P (map f xs) → P (f x)
passes-at P f xs i x inside is all =
    let here : P (slice_index_or (map f xs) i (f x)) = all i (f x) (rw length-map inside) in
    rw is (subst P (get_or-map f xs i x (f x) inside) here)

-- the image at the place of this element is its image
pub image-at : {X Y : Type 0} (f : X → Y) (xs : List X) (i : ℕ) (x : X) (d : Y) → i < length xs
    → x ≡ slice_index_or xs i x → slice_index_or (map f xs) i d ≡ f x
image-at f xs i x d inside is = get_or-map f xs i x d inside ∙ ap f (sym is)

-- the images so far pass, and the image of this element does not
pub first-fails : {X Y : Type 0} (P : Y → Type 0) (f : X → Y) (xs : List X) (i : ℕ) (x : X) (d : Y) → i < length xs
    → x ≡ slice_index_or xs i x → All (λ y. P (f y)) (take i xs) → ¬ P (f x)
    → All P (take i (map f xs)) × (¬ P (slice_index_or (map f xs) i d))
first-fails P f xs i x d inside is so_far fails = (
  subst (All P) (sym (take-map f i xs)) (All-map P f (take i xs) so_far),
  λ passes. fails (subst P (image-at f xs i x d inside is) passes),
)
