-- The picture of a report that is shown while the report comes (docs/COMMANDS.md, "A picture of a report").
use Rattle.std.specs.Prelude.{◌≡◌, ◌⊎◌, ℕ, List, ◌++◌, Option, None, Some, Result, Ok, Err}
use Rattle.dg_base.specs.Outside.{Takes}
use Rattle.dg_picture.specs.Drawn.{TakesAll, IsPicture, RefusesInput}
use Rattle.dg_picture.specs.declared.call.PictureFault.{PictureFault}

-- What is shown, if it is exposed, is this picture.
abbrev pub Shows : (shown : Option (List ℕ)) → (text : List ℕ) → Type 0
Shows None text = Unit {0}
Shows (Some shown) text = shown ≡ text

-- What is shown is the picture of a prefix of these bytes.
pub record ShowsFront (bytes : List ℕ) (shown : Option (List ℕ)) : Type 0 where
  pub front : List ℕ
  pub rest : List ℕ
  pub text : List ℕ
  pub parts : bytes ≡ front ++ rest
  pub pictured : IsPicture front text
  pub shows : Shows shown text

-- That, or nothing else is shown than before.
abbrev pub ShowsSome : (bytes : List ℕ) → (shown_before shown_after : Option (List ℕ)) → Type 0
ShowsSome bytes v w = (w ≡ v) ⊎ ShowsFront bytes w

-- Bytes were taken, and what is shown is the picture of a prefix of them, or what was shown before.
abbrev pub Follows : (before after : Option (List ℕ)) → (shown_before shown_after : Option (List ℕ)) → (bytes : List ℕ) → Type 0
Follows a b v w bytes = Takes a b bytes × ShowsSome bytes v w

-- After Ok what is shown is the picture of the whole report.
abbrev pub Followed : Result (Unit {0}) PictureFault → (before after : Option (List ℕ))
    → (shown_before shown_after : Option (List ℕ)) → Type 0
Followed (Ok done) a b v w = (bytes : List ℕ) × (text : List ℕ) × TakesAll a b bytes × IsPicture bytes text × Shows w text
Followed (Err fault) a b v w = RefusesInput fault a b × ((bytes : List ℕ) × Follows a b v w bytes)
