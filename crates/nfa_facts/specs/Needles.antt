-- Texts that matches begin with, which are sought at once.
use Rattle.std.specs.Prelude.{◌≡◌, ℕ, ◌<◌, List, Vec, length, map}
use Rattle.std.specs.declared.alloc.Global.{Global}
use Rattle.regex_literal.specs.Find.{OccursAt, needle_at}

-- the texts as lists of bytes
abbrev pub texts_now : List (Vec ℕ Global) → List (List ℕ)
texts_now texts = map (λ v. v.items) texts

-- one of the texts has this length, and the haystack has it from the position on
pub record BeginsWithOne (hay : List ℕ) (texts : List (List ℕ)) (count k : ℕ) : Type 0 where
  pub number : ℕ
  pub within : number < length texts
  pub long : length (needle_at texts number) ≡ count
  pub occurs : OccursAt hay (needle_at texts number) k
