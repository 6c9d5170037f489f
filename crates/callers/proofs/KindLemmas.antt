-- Searches and sets of searches of one kind.
use Rattle.std.proofs.Common.{◌≡◌, Bool, false, subst, List}
use Rattle.nfa_engines.specs.MatchKind.{MatchKind}
use Rattle.nfa_engines.specs.MatchKind.TheVariants.{LeftmostFirst, All}
use Rattle.nfa_engines.specs.Search.{Search}
use Rattle.nfa_engines.specs.Automaton.{Automaton}
use Rattle.nfa_engines.specs.Overlaps.{IsOverlapResult}
use Rattle.nfa_engines.specs.IterationLaws.{OneSet}

-- A fact of a kind, of `earliest` and of a search holds of these two, and of an equal search.
pub as_leftmost : (P : MatchKind → Bool → Search → Type 0) {kind : MatchKind} {x y : Search} → y ≡ x
    → kind ≡ LeftmostFirst → x.earliest ≡ false → P kind y.earliest y → P LeftmostFirst false x
as_leftmost P {kind = kind} {x = x} same leftmost off answer =
    subst (λ (b : Bool). P LeftmostFirst b x) off
    (subst (λ (k : MatchKind). P k x.earliest x) leftmost (subst (λ (t : Search). P kind t.earliest t) same answer))

-- a set of `All` that is not asked for the earliest match
pub of_all : (nfa : Automaton) (x : Search) (kind : MatchKind) (old new : List Bool) → kind ≡ All → x.earliest ≡ false
    → IsOverlapResult nfa x kind x.earliest old new → IsOverlapResult nfa x All false old new
of_all nfa x kind old new all off sets =
    subst (λ (b : Bool). IsOverlapResult nfa x All b old new) off
    (subst (λ (k : MatchKind). IsOverlapResult nfa x k x.earliest old new) all sets)

-- what holds of the sets of either kind
pub of_either : OneSet All → OneSet LeftmostFirst → (kind : MatchKind) → OneSet kind
of_either all first All = all
of_either all first LeftmostFirst = first
