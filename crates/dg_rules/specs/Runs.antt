-- Runs: steps that follow one another, and what holds of each with those before it (docs/SCRIPTS.md, "What events do").
use Rattle.std.specs.Prelude.{◌≡◌, List, [], ◌∷◌}
use Rattle.std.specs.List.{filter}
use Rattle.dg_rules.specs.World.{World}
use Rattle.dg_rules.specs.Changes.{is_reported}
use Rattle.dg_rules.specs.Steps.{WorldStep, DeclareStep}
use Rattle.dg_script.specs.Items.{Item, Declares, Applies}
use Rattle.dg_script.specs.declared.report.Report.{Report}

pub record Played : Type 0 where
  pub item : Item
  pub before : World
  pub after : World
  pub reports : List Report

-- the world after an item, and the lines that are reported of it
abbrev pub ItemStep : World → Item → World → List Report → Type 0
ItemStep w (Declares row) v reports = DeclareStep w row v reports
ItemStep w (Applies step reported) v reports =
    (all : List Report) × WorldStep w step v all × (reports ≡ filter (is_reported reported) all)

unfoldable pub Plays : World → List Played → World → Type 0
Plays w [] v = w ≡ v
Plays w (p ∷ ps) v = (p.before ≡ w) × ItemStep p.before p.item p.after p.reports × Plays p.after ps v

-- P holds of each, with what was played before it, the newest first
unfoldable pub EachAfter : (List Played → Played → Type 0) → List Played → List Played → Type 0
EachAfter P past [] = Unit {0}
EachAfter P past (p ∷ ps) = P past p × EachAfter P (p ∷ past) ps
