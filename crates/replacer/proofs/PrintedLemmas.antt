-- From the text that was read to the reader, from the groups of the NFA to those of the patterns, and limits of lists.
use Rattle.std.proofs.Common.{◌≡◌, ℕ, ◌-◌, ◌<◌, List, [], map, get_or, take, arith, Option, IfSome, length, All, None, Some}
use Rattle.std.specs.Io.KnownBytes.{Appends}
use Rattle.std.proofs.lemmas.Bool.Decides.{nat_tests}
use Rattle.nfa_compiler.specs.Common.{Re, PatternHit, found_at}
use Rattle.nfa_compiler.specs.Laws.{GroupsAreNamed}
use Rattle.nfa_engines.specs.Paths.{is_utf8_empty}
use Rattle.nfa_meta.specs.ChoiceState.{ChoiceState, KeepsEngines}
use Rattle.replacer.specs.Hits.{AreHitsOf, HaveNames, IsSearchOf, SearchesFor, Sought, groups_named_by, syntax_of}
use Rattle.replacer.specs.Printed.{IsActionOf, IsMisused, IsPatternMistake, IsTemplateMistake, Prints, mistake_by, printed, sought, template_mistake, left_after, limited}
use Rattle.replacer.specs.Separated.{first_fields_by, gaps}
use Rattle.replacer.specs.Fillings.{Groups, IsBadStretch}
use Rattle.replacer.specs.Stretches.{all_stretched}
use Rattle.replacer.specs.declared.command.Command.TheVariants.{Replace}
use Rattle.replacer.specs.declared.filling.BadStretch.{BadStretch}
use Rattle.replacer.specs.declared.stretches.Stretch.{Stretch}
use Rattle.nfa_meta.specs.declared.interpolate.TemplateError.{TemplateError}
use Rattle.nfa_meta.specs.declared.interpolate.TemplateError.TheVariants as template
use Rattle.std.specs.Borrow.{Bor}
use Rattle.std.specs.Global.{Vec}
use Rattle.replacer.specs.declared.action.Action.{Action}
use Rattle.replacer.specs.declared.command.Request.{Request}
use Rattle.replacer.specs.declared.job.Mistake.{Mistake}
use Rattle.replacer.specs.declared.job.Mistake.TheVariants.{Memory, OnlyPattern, Pattern, Template}
use Rattle.std.proofs.lemmas.List.{length-map, length-take, take-map}
use Rattle.std.proofs.lemmas.List.Elements.{All-take}
use Rattle.regex_search_core.specs.Search.{Search}
use Rattle.regex_search_core.specs.Slots.{Captured}
use Rattle.nfa_search_base.specs.Common.{match_in, AreDisjoint}
use Rattle.nfa_meta.proofs.CaughtLemmas.{first-apart}

-- what holds of the text that was read holds of all that the reader had
pub at-read : (all : Option (List ℕ)) (read text : List ℕ) (P : List ℕ → Type 0) → read ≡ text
    → IfSome all (λ bytes. text ≡ bytes) → P read → IfSome all P
at-read all read text P same is p = grind arith

-- after searches the regex searches for the same
pub search-kept : (sought : Sought) (res : List Re) (old new : ChoiceState) → KeepsEngines old new
    → SearchesFor sought res old → SearchesFor sought res new
search-kept sought res old new keeps of = record {
  search = record {
    compiled = rw keeps.nfa of.search.compiled;
    leftmost = rw keeps.match_kind of.search.leftmost;
    free = rw keeps.nfa of.search.free;
  };
  meant = of.meant;
}

-- the first fields, if there may be one
pub first-by : (limit : ℕ) (text : List ℕ) (hits : List PatternHit) → 0 < limit
    → gaps text 0 (take (limit - 1) (map found_at hits)) ≡ first_fields_by limit text hits
first-by limit text hits some = grind (arith, nat_tests)

-- what is wrong with the patterns is wrong with the request
pub pattern-misused : (request : Request) (mistake : Mistake) → IsPatternMistake (sought request) mistake
    → IsMisused request mistake
pattern-misused request mistake h = grind arith

-- what is wrong with the template of this number is wrong with the command
pub template-misused : (groups : Groups) (templates : Bor (List (Vec Stretch))) (number : ℕ) (bad : BadStretch)
    → IsBadStretch groups number (get_or (all_stretched templates.now) number []) bad
    → IsTemplateMistake groups (Replace templates) (template_mistake number bad)
template-misused groups templates number bad h = of bad.error
  where
    of : (e : TemplateError) → IsTemplateMistake groups (Replace templates)
        (mistake_by (Template (record { number = number; bad = bad })) e)
    of template.Memory = tt
    of (template.UnknownGroup start end) = h
    of (template.Unclosed dollar) = h

-- what is printed for the groups of the NFA is printed for those of the patterns
module _ (law : GroupsAreNamed) (request : Request) (r : ChoiceState) (of : IsSearchOf (sought request) r) where
  pub groups-are : (names : List (List (Option (List ℕ)))) → HaveNames (sought request) names
      → r.nfa.groups ≡ groups_named_by names
  groups-are names named = law (syntax_of (sought request)) (sought request).texts names r.nfa of.compiled named

  pub prints : (act : Action) (input old new : Option (List ℕ)) → IsActionOf r.nfa.groups request.command act
      → ((which : Sought) (res : List Re) (hits : List ℕ → List PatternHit) → SearchesFor which res r
      → AreHitsOf res (is_utf8_empty r.nfa) hits
      → IfSome input (λ text. Appends old new
      (printed r.nfa.groups hits act request.whole request.limit text)))
      → Prints request input old new
  prints act input old new is h = λ res names meant named.
      let groups = groups-are names named in (
        is_utf8_empty r.nfa,
        act,
        rw (← groups) is,
        λ hits all.
            rw (← groups) (h (sought request) res hits (record { search = of; meant = meant }) all),
      )

  -- so is a mistake
  pub misused : (mistake : Mistake) → IsTemplateMistake r.nfa.groups request.command mistake
      → IsMisused request mistake
  misused Memory h = tt
  misused (OnlyPattern error) h = absurd (grind arith)
  misused (Pattern error) h = absurd (grind arith)
  misused (Template filling) h = λ names named. rw (← groups-are names named) h

pub limited-map : {A B : Type 0} (f : A → B) (limit : Option ℕ) (xs : List A)
    → limited limit (map f xs) ≡ map f (limited limit xs)
limited-map f limit xs = grind (arith, take-map)

pub limited-all : {A : Type 0} (P : A → Type 0) (limit : Option ℕ) (xs : List A) → All P xs → All P (limited limit xs)
limited-all P None xs h = h
limited-all P (Some n) xs h = All-take P n xs h

pub limited-disjoint : (x : Search) (limit : Option ℕ) (cs : List Captured) → AreDisjoint x None (map match_in cs)
    → AreDisjoint x None (map match_in (limited limit cs))
limited-disjoint x None cs h = h
limited-disjoint x (Some n) cs h = first-apart x n cs h

-- what is left after the captures of the first hits
pub left-caught : {A B : Type 0} (f : A → B) (limit : Option ℕ) (hits : List A) (caught : List B) (count : ℕ)
    → count ≡ length caught → caught ≡ map f (limited limit hits)
    → left_after limit count ≡ left_after limit (length hits)
left-caught f limit hits caught count counts are = grind (arith, length-map, length-take)
