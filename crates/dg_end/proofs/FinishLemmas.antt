-- The end of a command.
use Rattle.std.proofs.Common.{◌≡◌, ℕ, List, Some, Result, Ok, IfOk, sym, subst}
use Rattle.dg_base.specs.declared.answers.Status.{Status}
use Rattle.dg_outside.specs.Outside.{OutputState}
use Rattle.dg_end.specs.Lines.{status_of, last_line, text_outcome}
use Rattle.dg_end.specs.Writes.{WritesLast, WritesAnswer}
use Rattle.dg_end.specs.declared.ends.End.{End}

-- the end is this one
pub at_end : (status : Status) (end this : End) (a b : OutputState) → end ≡ this → WritesLast status (status_of this) (last_line this) a b → WritesLast status (status_of end) (last_line end) a b
at_end status end this a b is h = subst (λ (e : End). WritesLast status (status_of e) (last_line e) a b) (sym is) h

-- the line is this one
pub of_line : (status wanted : Status) (line text : List ℕ) (a b : OutputState) → line ≡ text → WritesLast status wanted (Some line) a b → WritesLast status wanted (Some text) a b
of_line status wanted line text a b is h = subst (λ (t : List ℕ). WritesLast status wanted (Some t) a b) is h

-- the outcome is this one
pub came_to : {T : Type 0} (view : T → List ℕ) (status : Status) (outcome this : Result T End) (a b : OutputState) → outcome ≡ this → WritesAnswer status (text_outcome view this) a b → WritesAnswer status (text_outcome view outcome) a b
came_to {T} view status outcome this a b is h = subst (λ (r : Result T End). WritesAnswer status (text_outcome view r) a b) (sym is) h

pub ok_line : {T E : Type 0} (made : Result T E) (x : T) (P : T → Type 0) → made ≡ Ok x → IfOk made P → P x
ok_line {T} {E} made x P is h = subst (λ (r : Result T E). IfOk r P) is h
