-- Lines that are written, one after the other.
use Rattle.std.proofs.Common.{◌≡◌, ℕ, List, [], ◌∷◌, ◌++◌, append-nil, append_assoc, ap, sym, ◌∙◌}
use Rattle.std.specs.Prelude.{Some}
use Rattle.std.specs.List.{flat_map}
use Rattle.std.proofs.lemmas.Grind.{flat_map-append}
use Rattle.dg_base.specs.declared.events.Event.{Event}
use Rattle.dg_base.specs.declared.events.Cut.{Cut as PowerCut}
use Rattle.dg_base.specs.declared.events.Step.{Step}
use Rattle.dg_netcfg.specs.declared.profile.NetProfile.{NetProfile}
use Rattle.dg_world.specs.Alone.{uncut}
use Rattle.dg_script.specs.declared.line.Line.{Line}
use Rattle.dg_script.specs.declared.line.Line.TheVariants.{Cut, Happens}
use Rattle.dg_rehearse.specs.Rehearsed.{step_lines, opening_lines, rehearsed_lines, written, written_lines}
use Rattle.dg_rehearse.specs.declared.plan.Plan.{Plan}

-- one line more
pub written_more : (ls : List Line) (l : Line) (a b : List ℕ) → a ≡ written_lines ls → b ≡ a ++ written l → b ≡ written_lines (ls ++ l ∷ [])
written_more ls l a b first second =
    second ∙ ap (λ x. x ++ written l) first ∙ ap (λ x. written_lines ls ++ x) (sym (append-nil (written l))) ∙ sym (flat_map-append written ls (l ∷ []))

-- two lines more
written_two : (ls : List Line) (k l : Line) (a b c : List ℕ) → a ≡ written_lines ls → b ≡ a ++ written k → c ≡ b ++ written l → c ≡ written_lines (ls ++ k ∷ l ∷ [])
written_two ls k l a b c first second third =
    written_more (ls ++ k ∷ []) l b c (written_more ls k a b first second) third ∙ ap written_lines (append_assoc ls (k ∷ []) (l ∷ []))

-- one step more
lines_more : (n : NetProfile) (p : Plan) (steps : List Step) (x : Step) → rehearsed_lines n p (steps ++ x ∷ []) ≡ rehearsed_lines n p steps ++ step_lines x
lines_more n p steps x =
    ap (λ ls. opening_lines n p ++ ls) (flat_map-append step_lines steps (x ∷ []) ∙ ap (λ ls. flat_map step_lines steps ++ ls) (append-nil (step_lines x)))
    ∙ sym (append_assoc (opening_lines n p) (flat_map step_lines steps) (step_lines x))

abbrev pub cut_by : PowerCut → Event → Step
cut_by cut event = record { event = event; cut = Some cut }

pub event_written : (n : NetProfile) (p : Plan) (steps : List Step) (event : Event) (a b : List ℕ) → a ≡ written_lines (rehearsed_lines n p steps) → b ≡ a ++ written (Happens event)
    → b ≡ written_lines (rehearsed_lines n p (steps ++ uncut event ∷ []))
event_written n p steps event a b first second =
    written_more (rehearsed_lines n p steps) (Happens event) a b first second ∙ ap written_lines (sym (lines_more n p steps (uncut event)))

pub cut_written : (n : NetProfile) (p : Plan) (steps : List Step) (cut : PowerCut) (event : Event) (a b c : List ℕ) → a ≡ written_lines (rehearsed_lines n p steps) → b ≡ a ++ written (Cut cut) → c ≡ b ++ written (Happens event)
    → c ≡ written_lines (rehearsed_lines n p (steps ++ cut_by cut event ∷ []))
cut_written n p steps cut event a b c first second third =
    written_two (rehearsed_lines n p steps) (Cut cut) (Happens event) a b c first second third ∙ ap written_lines (sym (lines_more n p steps (cut_by cut event)))
