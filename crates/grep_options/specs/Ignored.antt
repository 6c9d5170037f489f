-- Which paths the lines of files such as `.gitignore` leave out. A line has a glob, and each of the names that slashes
-- separate in a path has to match a part of it. Texts are lists of characters.
use Rattle.std.specs.Prelude.{ℕ, ◌-◌, ◌%◌, Bool, true, false, not, ◌&&◌, ◌||◌, List, [], ◌∷◌, ◌++◌, length, if◌then◌else◌, ◌==◌, nat_le, Option, None, Some, drop, take, position, reverse, codes, slice_get}
use Rattle.std.specs.List.{list_all, list_any, slice_split}
use Rattle.std.specs.Str.{chars}
pub use Rattle.grep_options.specs.declared.ignoring.IgnoreRule.{IgnoreRule}
use Rattle.grep_options.specs.Globs.{Letter, has_open_set, is_nil, letters_after, means, parts_after, parts_match, some_rest, takes_first}

-- What a line says: paths that its glob matches are left out, or taken in again; all paths, or only those of folders.
-- Names of a path before the glob, as many as the path of the folder of the file has, are not compared.
pub record PathRule : Type 0 where
  pub depth : ℕ
  pub included : Bool
  pub folders : Bool
  pub glob : List Letter

-- what a rule says
abbrev pub said : IgnoreRule → PathRule
said rule = record { depth = rule.depth; included = rule.included; folders = rule.folders; glob = rule.glob.items }

-- the place, or if there is none this number
abbrev pub or_all : Option ℕ → ℕ → ℕ
or_all None n = n
or_all (Some at) n = at

-- how many at the end of a list are like this
abbrev pub count_at_end : {A : Type 0} → (A → Bool) → List A → ℕ
count_at_end p xs = or_all (position (λ x. not (p x)) (reverse xs)) (length xs)

-- whether a backslash at the end of a line has no character after it: an odd number of them is there
abbrev pub ends_in_escape : List ℕ → Bool
ends_in_escape line = (count_at_end (λ c. c == 92) line % 2) == 1

-- the characters without blanks at the end, other than one after a backslash
abbrev pub without_blanks : List Letter → List Letter
without_blanks letters = take (length letters - count_at_end (λ l. means l 32) letters) letters

-- whether it is a slash, which separates names also after a backslash
abbrev pub is_slash : Letter → Bool
is_slash letter = letter.value == 47

-- the characters without a slash before them, other than one after a backslash, with which nothing matches
abbrev pub without_first_slash : List Letter → List Letter
without_first_slash [] = []
without_first_slash (letter ∷ letters) = if means letter 47 then letters else (letter ∷ letters)

-- The glob of a whole path in the folder of the file. One without a slash is that of a name in any folder there.
abbrev pub path_glob : List Letter → List Letter
path_glob letters =
    if list_any is_slash letters then without_first_slash letters
    else (letters_after false (chars (codes "**/")) ++ letters)

-- whether there is one, and it is like this
abbrev pub some_is : (Letter → Bool) → Option Letter → Bool
some_is p None = false
some_is p (Some letter) = p letter

-- whether a slash is last, and whether it is after a backslash
abbrev pub ends_in_slash : List Letter → Bool
ends_in_slash letters = some_is is_slash (slice_get letters (length letters - 1))

abbrev pub ends_in_quoted_slash : List Letter → Bool
ends_in_quoted_slash letters = some_is (λ l. is_slash l && l.quoted) (slice_get letters (length letters - 1))

-- the characters without a slash after them
abbrev pub without_last_slash : List Letter → List Letter
without_last_slash letters = if ends_in_slash letters then take (length letters - 1) letters else letters

-- What a glob of these characters says: with a slash last, only folders are meant. If it is after a backslash, nothing
-- matches.
abbrev pub rule_of_glob : ℕ → Bool → List Letter → Option PathRule
rule_of_glob depth included letters =
    if ends_in_quoted_slash letters then None
    else Some (record {
      depth = depth;
      included = included;
      folders = ends_in_slash letters;
      glob = path_glob (without_last_slash letters);
    })

-- What is said by the characters of a line without blanks at its end: nothing by none, and by a remark. After `!` is
-- what is taken in again.
abbrev pub rule_of_letters : ℕ → List Letter → Option PathRule
rule_of_letters depth [] = None
rule_of_letters depth (letter ∷ letters) =
    if means letter 35 then None
    else (if means letter 33 then rule_of_glob depth true letters else rule_of_glob depth false (letter ∷ letters))

-- What a line says, without its line feed and a carriage return before it. Its file is in a folder whose path has
-- `depth` names.
abbrev pub rule_of_line : ℕ → List ℕ → Option PathRule
rule_of_line depth line =
    if ends_in_escape line then None else rule_of_letters depth (without_blanks (letters_after false line))

-- whether a part of a glob is any number of folders: `**`
abbrev pub is_deep : List Letter → Bool
is_deep part = nat_le 2 (length part) && list_all (λ l. means l 42) part

-- whether a part of a glob matches a name: nothing matches a set without its second bracket
abbrev pub name_fits : List Letter → List ℕ → Bool
name_fits part name = not (has_open_set 0 part) && parts_match (parts_after 0 part) name

-- Whether the parts of a glob match a path of these names: `**` matches any number of folders, or as the last one all
-- in a folder, and each other part one name.
abbrev pub path_fits : List (List Letter) → List (List ℕ) → Bool
path_fits [] names = is_nil names
path_fits (part ∷ parts) names =
    if is_deep part then (if is_nil parts then not (is_nil names) else some_rest (path_fits parts) names)
    else takes_first (name_fits part) (path_fits parts) names

-- whether the rule is one for a path of these names, which is that of a folder or not
abbrev pub fits : Bool → List (List ℕ) → PathRule → Bool
fits folder names rule =
    (not rule.folders || folder) && path_fits (slice_split is_slash rule.glob) (drop rule.depth names)

-- whether the last one of these rules that fits leaves the path out, or this if none fits
abbrev pub left_out : Bool → List (List ℕ) → Bool → List PathRule → Bool
left_out folder names out [] = out
left_out folder names out (rule ∷ rules) =
    left_out folder names (if fits folder names rule then not rule.included else out) rules

-- Whether these rules leave a path out, which is that of a folder or not: the last one that fits does. The rules of a
-- folder come after those of the folders above it.
abbrev pub is_ignored : List PathRule → Bool → List ℕ → Bool
is_ignored rules folder path = left_out folder (slice_split (λ c. c == 47) path) false rules
