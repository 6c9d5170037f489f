-- The text of a template.
use Rattle.std.specs.Prelude.{ℕ, ◌≡◌, ◌≢◌, ◌⊎◌, ◌+◌, ◌-◌, ◌<◌, List, [], ◌∷◌, Option, Some, None, length, reverse, slice_index, slice_range, ⊤}
use Rattle.nfa_paths.specs.Common.{AllWithin}
use Rattle.nfa_meta.specs.GroupNames.{IsWord, Means}
use Rattle.nfa_meta.specs.declared.interpolate.Part.{Part}
use Rattle.nfa_meta.specs.declared.interpolate.Part.TheVariants.{Text, Group}
use Rattle.nfa_meta.specs.declared.interpolate.TemplateError.{TemplateError}
use Rattle.nfa_meta.specs.declared.interpolate.TemplateError.TheVariants.{Memory, UnknownGroup, Unclosed}

-- the bytes `$`, `{` and `}`
abbrev pub dollar : ℕ
dollar = 36

abbrev pub open_brace : ℕ
open_brace = 123

abbrev pub close_brace : ℕ
close_brace = 125

-- the text has this byte there
abbrev pub Has : List ℕ → ℕ → ℕ → Type 0
Has text at byte = (at < length text) × (slice_index text at ≡ byte)

-- none of the bytes from one offset to another is this one
abbrev pub HasNo : List ℕ → ℕ → ℕ → ℕ → Type 0
HasNo text from to byte = AllWithin (λ b. b ≢ byte) text from to

-- a name without braces begins there
abbrev pub BeginsName : List ℕ → ℕ → Type 0
BeginsName text at = (at < length text) × IsWord (slice_index text at)

-- there is neither a dollar, a brace nor a name
abbrev pub NothingBegins : List ℕ → ℕ → Type 0
NothingBegins text at =
    at < length text
    → (slice_index text at ≢ dollar) × (slice_index text at ≢ open_brace) × ¬ IsWord (slice_index text at)

module _ (text : List ℕ) where
  -- bytes that are taken as they are: none is a dollar
  pub record IsPlain (start end : ℕ) (bytes : List ℕ) : Type 0 where
    pub bytes_are : bytes ≡ slice_range text start end
    pub plain : HasNo text start end dollar

  -- a dollar: written as two, or as one before anything that begins no name
  pub record IsDollar (start end : ℕ) (bytes : List ℕ) : Type 0 where
    pub bytes_are : bytes ≡ dollar ∷ []
    pub first : Has text start dollar
    pub written : ((end ≡ start + 2) × Has text (start + 1) dollar) ⊎ ((end ≡ start + 1) × NothingBegins text end)

module _ (groups : List (List (Option (List ℕ)))) (pattern : ℕ) (text : List ℕ) where
  -- a group whose name is in braces
  pub record IsBraced (start end group : ℕ) : Type 0 where
    pub first : Has text start dollar
    pub opening : Has text (start + 1) open_brace
    pub closing : Has text (end - 1) close_brace
    pub inside : HasNo text (start + 2) (end - 1) close_brace
    pub meant : Means groups pattern (slice_range text (start + 2) (end - 1)) (Some group)

  -- a group whose name is the longest run of letters, digits and underscores after the dollar
  pub record IsBare (start end group : ℕ) : Type 0 where
    pub first : Has text start dollar
    pub begins : BeginsName text (start + 1)
    pub word : AllWithin IsWord text (start + 1) end
    pub longest : end < length text → ¬ IsWord (slice_index text end)
    pub meant : Means groups pattern (slice_range text (start + 1) end) (Some group)

  -- the text says this part between these offsets
  abbrev pub IsPart : ℕ → ℕ → Part → Type 0
  IsPart start end (Text bytes) = IsPlain text start end bytes.now ⊎ IsDollar text start end bytes.now
  IsPart start end (Group group) = IsBraced start end group ⊎ IsBare start end group

  -- parts from the last to the first: the last ends at this offset, each starts where the one before it in the text
  -- ends, and the first starts at 0
  abbrev pub EndAt : ℕ → List Part → Type 0
  EndAt end [] = end ≡ 0
  EndAt end (part ∷ before) = (start : ℕ) × (start < end) × IsPart start end part × EndAt start before

  -- the text up to this offset says these parts, with no gap and no overlap
  abbrev pub AreParts : List Part → ℕ → Type 0
  AreParts parts end = EndAt end (reverse parts)

  -- the bytes between these offsets name no group, or the brace after this dollar is not closed
  abbrev pub IsMistake : TemplateError → Type 0
  IsMistake Memory = ⊤
  IsMistake (UnknownGroup start end) = Means groups pattern (slice_range text start end) None
  IsMistake (Unclosed at) =
      Has text at dollar × Has text (at + 1) open_brace × HasNo text (at + 2) (length text) close_brace
