-- What came from outside, after one more event that brought nothing from there.
use Rattle.std.proofs.Common.{◌≡◌, inl, inr, ℕ, true, false, List, [], ◌∷◌, ◌++◌, refl, ap, ◌∙◌, None}
use Rattle.dg_base.specs.declared.events.Event.{Event}
use Rattle.dg_base.specs.declared.events.Event.TheVariants.{Tick, Hear, Last, Reset, Inject, Order as OrderEvent, Frame}
use Rattle.dg_rules.specs.Past.{brought}
use Rattle.dg_rules.specs.Runs.{Played}
use Rattle.dg_script.specs.declared.report.Report.{Report}
use Rattle.dg_events.specs.Told.{Happened}
use Rattle.dg_events.specs.Frames.{is_hearing, is_outside, is_from_outside}
use Rattle.dg_events.specs.FrameCounters.{AreFromOutside}
use Rattle.dg_events.specs.RefusedFrames.{is_refused_outside}
use Rattle.dg_events.specs.Noted.{IsEventPlayed}
use Rattle.dg_events.specs.declared.outside_counts.OutsideCounts.{OutsideCounts}
use Rattle.dg_events.proofs.CountLemmas.{Is}
use Rattle.dg_events.proofs.FrameLemmas.{not_brought, happened_in, is_in, event_in, brought_in, never}
use Rattle.dg_events.proofs.ShareLemmas.{at_none, none_shared, not_refused}

-- the same counts
pub still_outside : (outside : List OutsideCounts) (past : List Played) (x : Happened) (p : Played) → Is x p → ((k : ℕ) → is_from_outside k x ≡ false)
    → ((k : ℕ) → is_refused_outside k x ≡ false) → AreFromOutside outside past → AreFromOutside outside (past ++ p ∷ [])
still_outside outside past x p is none calm has = record {
  many = has.many;
  each = λ m y there. record {
    came = none_shared m is_from_outside past x p 5 y.came is (at_none m is_from_outside x none) (has.each m y there).came;
    refused = none_shared m is_refused_outside past x p 5 y.refused is (at_none m is_refused_outside x calm) (has.each m y there).refused;
  };
}

-- an event that brings a frame of a mote brings none from outside
hearing_inside : (e : Event) → is_hearing e ≡ true → is_outside e ≡ false
hearing_inside (Tick m dt word) h = refl
hearing_inside (Hear m dt word frame) h = refl
hearing_inside (Last from to dt word) h = refl
hearing_inside (Reset m dt word) h = refl
hearing_inside (Inject m image version dt word) h = refl
hearing_inside (OrderEvent m number image version dt word) h = refl
hearing_inside (Frame m dt word bytes) h = never false refl h

pub outside_unheard : (e : Event) → is_outside e ≡ true → is_hearing e ≡ false
outside_unheard (Tick m dt word) h = refl
outside_unheard (Hear m dt word frame) h = never false refl h
outside_unheard (Last from to dt word) h = never false refl h
outside_unheard (Reset m dt word) h = refl
outside_unheard (Inject m image version dt word) h = refl
outside_unheard (OrderEvent m number image version dt word) h = refl
outside_unheard (Frame m dt word bytes) h = refl

pub heard_inside : (outside : List OutsideCounts) (e : Event) (lines : List Report) (past : List Played) (p : Played) → (h : IsEventPlayed e lines p)
    → is_hearing e ≡ true → AreFromOutside outside past → AreFromOutside outside (past ++ p ∷ [])
heard_inside outside e lines past p h hears has =
    let inside : is_outside (happened_in h).event ≡ false = ap is_outside (event_in h) ∙ hearing_inside e hears in
    still_outside outside past (happened_in h) p (is_in h) (λ k. not_brought is_outside (happened_in h) k (inl inside))
    (λ k. not_refused is_outside (happened_in h) k (inl inside)) has

-- which brings nothing
pub none_outside : (outside : List OutsideCounts) (e : Event) (lines : List Report) (past : List Played) (p : Played) → (h : IsEventPlayed e lines p)
    → brought p.before e ≡ None → AreFromOutside outside past → AreFromOutside outside (past ++ p ∷ [])
none_outside outside e lines past p h none has =
    let nothing : (happened_in h).brought ≡ None = brought_in h ∙ none in
    still_outside outside past (happened_in h) p (is_in h) (λ k. not_brought is_outside (happened_in h) k (inr nothing))
    (λ k. not_refused is_outside (happened_in h) k (inr nothing)) has
