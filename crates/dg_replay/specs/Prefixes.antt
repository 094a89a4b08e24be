-- What the first lines of a script settle, whatever comes after them (docs/PROMISES.md, "How it ends").
use Rattle.std.specs.Prelude.{◌≡◌, ◌⊎◌, ℕ, Bool, List, [], ◌∷◌, ◌++◌, Some}
use Rattle.dg_script.specs.Places.{first_place}
use Rattle.dg_script.specs.Script.{Script, script_from}
use Rattle.dg_script.specs.declared.fault.LineFault.{LineFault}
use Rattle.dg_script.specs.declared.line.Line.{Line}
use Rattle.dg_script.specs.declared.place.Place.{Place}

-- no bytes, or bytes that end in LF
abbrev pub IsWholeLines : List ℕ → Type 0
IsWholeLines front = (front ≡ []) ⊎ ((before : List ℕ) × (front ≡ before ++ 10 ∷ []))

-- A script begins as a first one does: with its lines. It is the first one itself if that has a fault.
pub record BeginsAs (first script : Script) : Type 0 where
  pub rest : List Line
  pub lines : script.lines ≡ first.lines ++ rest
  pub fault : (at : ℕ × LineFault) → first.fault ≡ Some at → script ≡ first

-- These texts spell these lines, and the next one has this number and stands at this place, whatever comes after them.
pub record ReadsTo (texts : List (List ℕ)) (done : List Line) (place : Place) (number : ℕ) : Type 0 where
  pub reads : (ends : Bool) (more : List (List ℕ)) → script_from ends first_place 1 (texts ++ more)
      ≡ record { lines = done ++ (script_from ends place number more).lines; fault = (script_from ends place number more).fault }
