-- What the parts of a glob match, by the first one and the others, as slices have them.
use Rattle.std.proofs.Common.{◌≡◌, ◌==◌, ℕ, ◌-◌, ◌≤◌, Bool, Bor, true, false, List, [], ◌∷◌, length, drop, get_or, map, take, refl, sym, ap, ◌∙◌, arith, not, ◌||◌, IfOk, Result, inl, inr, min, ◌⊎◌}
use Rattle.std.specs.List.{slice_split}
use Rattle.std.proofs.lemmas.List.{drop-map, drop_min, take_rest}
use Rattle.std.proofs.lemmas.Result.{IfOk-weaker}
use Rattle.grep_options.specs.Globs.{Letter, Outcome, is_match, is_nil, is_short, some_rest, takes_first}
use Rattle.grep_options.specs.Ignored.{PathRule, fits, is_deep, is_slash, name_fits, path_fits}
use Rattle.grep_options.proofs.OutcomeLemmas.{rest_is, short_is_none, shorter}

-- the values that a slice of references has
abbrev pub values : {A : Type 0} → List (Bor A) → List A
values xs = map (λ x. x.now) xs

-- a list of values is empty if that of the references is
nil_values : {A : Type 0} (xs : List (Bor A)) → is_nil (values xs) ≡ is_nil xs
nil_values [] = refl
nil_values (x ∷ xs) = refl

-- a list with a length is not empty
pub some_is_more : {A : Type 0} (xs : List A) → (length xs == 0) ≡ false → is_nil xs ≡ false
some_is_more [] some = cc
some_is_more (x ∷ xs) some = refl

-- what `**` matches with parts after it
deep_is : (part : List Letter) (parts : List (List Letter)) → is_deep part ≡ true → is_nil parts ≡ false
    → (names : List (List ℕ)) → path_fits (part ∷ parts) names ≡ some_rest (path_fits parts) names
deep_is part parts deep more names = rw (deep, more) refl

-- what another part matches with those after it
plain_is : (part : List Letter) (parts : List (List Letter)) → is_deep part ≡ false
    → (names : List (List ℕ)) → path_fits (part ∷ parts) names ≡ takes_first (name_fits part) (path_fits parts) names
plain_is part parts plain names = rw plain refl

-- the same of slices
pub parts_with_deep : (parts : List (Bor (List Letter))) (x : Bor (List Letter)) → 1 ≤ length parts
    → is_deep (get_or parts 0 x).now ≡ true → is_nil (take (length parts - 1) (drop 1 parts)) ≡ false
    → (names : List (List ℕ)) → path_fits (values parts) names
    ≡ some_rest (path_fits (values (take (length parts - 1) (drop 1 parts)))) names
parts_with_deep [] x long deep more names = absurd (omega arith)
parts_with_deep (p ∷ ps) x long deep more names =
    deep_is p.now (values ps) deep (nil_values ps ∙ ap is_nil (sym (rest_is p ps)) ∙ more) names
    ∙ ap (λ (l : List (Bor (List Letter))). some_rest (path_fits (values l)) names) (sym (rest_is p ps))

pub parts_with_plain : (parts : List (Bor (List Letter))) (x : Bor (List Letter)) → 1 ≤ length parts
    → is_deep (get_or parts 0 x).now ≡ false → (names : List (List ℕ)) → path_fits (values parts) names
    ≡ takes_first (name_fits (get_or parts 0 x).now)
    (path_fits (values (take (length parts - 1) (drop 1 parts)))) names
parts_with_plain [] x long plain names = absurd (omega arith)
parts_with_plain (p ∷ ps) x long plain names =
    plain_is p.now (values ps) plain names
    ∙ ap (λ (l : List (Bor (List Letter))). takes_first (name_fits p.now) (path_fits (values l)) names)
    (sym (rest_is p ps))

-- names of which the other ones are too few for parts are too few with one part more
pub few_after_first : (f : List ℕ → Bool) (q : List (List ℕ) → Bool) (names : List (Bor (List ℕ)))
    → 1 ≤ length names → some_rest q (values (take (length names - 1) (drop 1 names))) ≡ false
    → some_rest (takes_first f q) (values names) ≡ false
few_after_first f q [] long none = absurd (omega arith)
few_after_first f q (n ∷ ns) long none =
    shorter (takes_first f q) q f (λ text. refl) n.now (values ns)
    (ap (λ (l : List (Bor (List ℕ))). some_rest q (values l)) (sym (rest_is n ns)) ∙ none)

-- what follows of an outcome, if there is one, from what is said of another list
pub if_short : {E : Type 0} (r : Result Outcome E) (p q : Bool) → (p ≡ false → q ≡ false)
    → IfOk r (λ o. is_short o ≡ true → p ≡ false) → IfOk r (λ o. is_short o ≡ true → q ≡ false)
if_short r p q none after =
    IfOk-weaker r (λ o. is_short o ≡ true → p ≡ false) (λ o. is_short o ≡ true → q ≡ false)
    (λ o said short. none (said short)) after

-- the same of an outcome that says whether something matches
pub if_too_short : {E : Type 0} (r : Result Outcome E) (p q : Bool) → (p ≡ false → q ≡ false)
    → IfOk r (λ o. is_match o ≡ p) → IfOk r (λ o. is_short o ≡ true → q ≡ false)
if_too_short r p q none after =
    IfOk-weaker r (λ o. is_match o ≡ p) (λ o. is_short o ≡ true → q ≡ false)
    (λ o said short. none (short_is_none o p said short)) after

pub if_match : {A E : Type 0} (f : A → Bool) (r : Result A E) (p q : Bool) → p ≡ q
    → IfOk r (λ o. f o ≡ p) → IfOk r (λ o. f o ≡ q)
if_match f r p q same after = IfOk-weaker r (λ o. f o ≡ p) (λ o. f o ≡ q) (λ o said. said ∙ same) after

-- a rule is one for a path if its glob matches it, and if folders are not meant or the path is that of one
pub fits_is : (folder : Bool) (names : List (List ℕ)) (rule : PathRule) → (not rule.folders || folder) ≡ true
    → path_fits (slice_split is_slash rule.glob) (drop rule.depth names) ≡ fits folder names rule
fits_is folder names rule meant = rw meant refl

-- folders are not meant, or the path is that of one
pub meant_of : (folders folder : Bool) → (folders ≡ true × folder ≡ true) ⊎ (folders ≡ false)
    → (not folders || folder) ≡ true
meant_of false folder so = refl
meant_of true folder (inl so) = so.1
meant_of true folder (inr so) = cc

-- the names after the first ones, as a slice has them
pub names_after : (names : List (Bor (List ℕ))) (n depth : ℕ) → n ≡ min depth (length names)
    → values (take (length names - n) (drop n names)) ≡ drop depth (values names)
names_after names n depth same =
    ap (λ (l : List (Bor (List ℕ))). values l)
    (take_rest names n ∙ ap (λ (k : ℕ). drop k names) same ∙ drop_min depth names)
    ∙ sym (drop-map (λ (name : Bor (List ℕ)). name.now) depth names)
