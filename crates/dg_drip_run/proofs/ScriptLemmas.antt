-- Scripts that go on, and their runs and reports.
use Rattle.std.proofs.Common.{◌≡◌, ◌∙◌, ℕ, List, [], ◌∷◌, ◌++◌, refl, ap, sym, append_assoc, append-nil}
use Rattle.dg_drip.specs.declared.events.DripEvent.{DripEvent}
use Rattle.dg_drip.specs.declared.events.DripEvent.TheVariants.{Set, Tick, Hear, Last}
use Rattle.dg_drip.specs.declared.frame.Said.{Said}
use Rattle.dg_drip.specs.Network.{Network, run, applied, heard, from_neighbour, frame_numbered, last_said}
use Rattle.dg_drip_replay.specs.Reports.{report_of_event}
use Rattle.dg_drip_script.specs.Reports.{reported_text}
use Rattle.dg_drip_script.specs.Scripts.{DripItem, drip_events_of, text_of_run}
use Rattle.std.specs.Prelude.{Option, Some, None}

pub run_then : (w : Network) (es fs : List DripEvent) → run w (es ++ fs) ≡ run (run w es) fs
run_then w [] fs = refl
run_then w (e ∷ es) fs = run_then (applied w e) es fs

pub run_more : (w : Network) (is : List DripItem) (i : DripItem) → run w (drip_events_of (is ++ i ∷ [])) ≡ applied (run w (drip_events_of is)) i.event
run_more w [] i = refl
run_more w (j ∷ is) i = run_more (applied w j.event) is i

pub told_more : (w : Network) (is : List DripItem) (i : DripItem)
    → text_of_run w (is ++ i ∷ []) ≡ text_of_run w is ++ reported_text (report_of_event (run w (drip_events_of is)) i.reported i.event)
told_more w [] i = append-nil (reported_text (report_of_event w i.reported i.event))
told_more w (j ∷ is) i =
    ap (λ t. reported_text (report_of_event w j.reported j.event) ++ t) (told_more (applied w j.event) is i)
    ∙ sym (append_assoc (reported_text (report_of_event w j.reported j.event)) (text_of_run (applied w j.event) is) (reported_text (report_of_event (run (applied w j.event) (drip_events_of is)) i.reported i.event)))

-- ---- links stay

heard_links : (w : Network) (node now word : ℕ) (o : Option Said) → (heard w node now word o).links ≡ w.links
heard_links w node now word None = refl
heard_links w node now word (Some s) = refl

applied_links : (w : Network) (e : DripEvent) → (applied w e).links ≡ w.links
applied_links w (Set node key value dt word) = refl
applied_links w (Tick node key dt word) = refl
applied_links w (Hear node dt word frame) = heard_links w node _ word (from_neighbour w.links node (frame_numbered w.sent frame))
applied_links w (Last from to key) = heard_links w to w.moment 0 (last_said w.sent from key)

pub run_links : (w : Network) (es : List DripEvent) → (run w es).links ≡ w.links
run_links w [] = refl
run_links w (e ∷ es) = run_links (applied w e) es ∙ applied_links w e
