-- A report that was read is drawn.
use Rattle.std.proofs.Common.{◌≡◌, ℕ, List, Bool, Result, Ok, Vec, IfOk, ap, subst, ◌∙◌}
use Rattle.dg_story.specs.Lines.{end_of}
use Rattle.dg_story.specs.Reading.{begins_timed, IsRead}
use Rattle.dg_story.specs.declared.told.Told.{Told}
use Rattle.dg_picture.specs.Picture.{drawing_of, picture_of}
use Rattle.dg_picture.specs.Drawn.{IsPicture}

pub pictured : (bytes text words : List ℕ) (told : List Told) (last count : ℕ) (timed : Bool) → IsRead bytes told last count words → timed ≡ begins_timed bytes
    → text ≡ drawing_of timed last told words → IsPicture bytes text
unfolding picture_of
pictured bytes text words told last count timed h t is = (
  h.lines,
  words,
  h.reports,
  is
      ∙ ap (λ b. drawing_of b last told words) t
      ∙ ap (λ n. drawing_of (begins_timed bytes) n told words) h.tells.last_is
      ∙ ap (λ (ts : List Told). drawing_of (begins_timed bytes) (end_of h.lines) ts words) h.tells.told_is,
)

-- what holds of a text that is answered
pub text_of : {Z E : Type 0} (answer : Result (Vec ℕ Z) E) (text : Vec ℕ Z) (bytes : List ℕ) → answer ≡ Ok text → IfOk answer (λ v. v.items ≡ bytes) → text.items ≡ bytes
text_of {Z = Z} {E = E} answer text bytes e h = subst (λ (r : Result (Vec ℕ Z) E). IfOk r (λ v. v.items ≡ bytes)) e h
