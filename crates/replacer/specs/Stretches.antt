-- The stretches of a template: each is an escape of the case, and what is after it up to the next one.
use Rattle.std.specs.Prelude.{ℕ, ◌≡◌, List, [], ◌∷◌, ◌++◌, length, map, slice_index_or}
use Rattle.std.specs.Borrow.{Bor}
use Rattle.std.specs.Global.{Vec}
use Rattle.std.specs.List.{AllZip}
use Rattle.replacer.specs.Escapes.{AreSigns, IsBadEscape, sign_text}
use Rattle.replacer.specs.declared.case.CaseEscape.{CaseEscape}
use Rattle.replacer.specs.declared.case.CaseEscape.TheVariants.{End}
use Rattle.replacer.specs.declared.escapes.Sign.{Sign}
use Rattle.replacer.specs.declared.escapes.Sign.TheVariants.{AsItIs, Byte, Case, Character}
use Rattle.replacer.specs.declared.stretches.BadTemplate.{BadTemplate}
use Rattle.replacer.specs.declared.stretches.Stretch.{Stretch}

-- the escape, where its text begins in the template that was given, and the text without escapes
pub record Stretched : Type 0 where
  pub escape : CaseEscape
  pub start : ℕ
  pub text : List ℕ

-- what a stretch is
abbrev pub stretched : Stretch → Stretched
stretched stretch = record { escape = stretch.escape; start = stretch.start; text = stretch.text.items }

-- a stretch with no text yet
abbrev pub opened : CaseEscape → ℕ → Stretched
opened escape start = record { escape = escape; start = start; text = [] }

-- the stretch with one more sign
abbrev pub with_sign : Stretched → Sign → Stretched
with_sign begun sign = record begun { text = begun.text ++ sign_text sign }

-- the stretches of these signs, if the text of the first one has begun
abbrev pub stretches_from : Stretched → List Sign → List Stretched
stretches_from begun [] = begun ∷ []
stretches_from begun (AsItIs byte ∷ signs) = stretches_from (with_sign begun (AsItIs byte)) signs
stretches_from begun (Byte byte ∷ signs) = stretches_from (with_sign begun (Byte byte)) signs
stretches_from begun (Character c ∷ signs) = stretches_from (with_sign begun (Character c)) signs
stretches_from begun (Case escape start ∷ signs) = begun ∷ stretches_from (opened escape start) signs

-- the stretches of these signs: the first one is as if `\E` were before it
abbrev pub stretches_of : List Sign → List Stretched
stretches_of signs = stretches_from (opened End 0) signs

-- the stretches of the template, whose escapes are read
abbrev pub AreStretches : List ℕ → List Stretched → Type 0
AreStretches text stretches =
    (signs : List Sign) × AreSigns text signs (length text) × (stretches ≡ stretches_of signs)

-- what the stretches of templates are
abbrev pub all_stretched : List (Vec Stretch) → List (List Stretched)
all_stretched all = map (λ (stretches : Vec Stretch). map stretched stretches.items) all

-- the stretches of each template
abbrev pub AreAllStretches : List (Bor (List ℕ)) → List (List Stretched) → Type 0
AreAllStretches templates all =
    AllZip (λ (template : Bor (List ℕ)) (stretches : List Stretched). AreStretches template.now stretches) templates all

-- an escape of this template stands for nothing, or allocation failed
abbrev pub IsBadTemplate : List (List ℕ) → BadTemplate → Type 0
IsBadTemplate templates bad = IsBadEscape (slice_index_or templates bad.number []) bad.error
