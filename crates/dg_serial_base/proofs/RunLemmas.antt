-- Runs with one more event, and the events of a line with more items.
use Rattle.std.proofs.Common.{◌≡◌, ℕ, List, [], ◌∷◌, ◌++◌, refl, ap, sym, ◌∙◌, append-nil}
use Rattle.std.specs.Prelude.{map, Option, Some, None, option_map}
use Rattle.std.proofs.lemmas.List.{map-append}
use Rattle.std.proofs.lemmas.List.Concat.{flat_map-append}
use Rattle.dg_frame.specs.Spelling.{frame_of}
use Rattle.dg_frame.specs.declared.Message.{Message}
use Rattle.dg_mote.specs.Model.{MoteState}
use Rattle.dg_serial.specs.Line.{SerialItem, stuffed_line, stuffed}
use Rattle.dg_serial_base.specs.BaseEvents.{Base, At, BaseEvent, base_events_of_item, after_base_event, sent_too, BaseEventsRun}
use Rattle.dg_serial_base.specs.inner.Standing.{base_events_of_items}
use Rattle.dg_serial_base.specs.inner.Standing.{one_if}

pub run_goes : (b : Base) (ds : List BaseEvent) (a y : At) (d : BaseEvent) (m : MoteState) → BaseEventsRun b a ds y → y.mote ≡ Some m → BaseEventsRun b a (ds ++ d ∷ []) (after_base_event b m y d)
unfolding BaseEventsRun
run_goes b [] a y d m r on = (m, ap (λ (x : At). x.mote) (sym r) ∙ on, ap (λ (x : At). after_base_event b m x d) r)
run_goes b (e ∷ ds) a y d m r on = (r.0, r.1, run_goes b ds (after_base_event b r.0 a e) y d m r.2 on)

pub run_rests : (b : Base) (a : At) → BaseEventsRun b a [] a
unfolding BaseEventsRun
run_rests b a = refl

pub base_events_goes : (xs ys : List SerialItem) → base_events_of_items (xs ++ ys) ≡ base_events_of_items xs ++ base_events_of_items ys
base_events_goes xs ys = flat_map-append base_events_of_item xs ys

-- ---- what is sent

pub sent_one : (sent : List Message) (o : Option Message) (frame : Option (List ℕ)) → frame ≡ option_map frame_of o → map frame_of (sent_too sent o) ≡ map frame_of sent ++ one_if frame
sent_one sent None frame e = sym (append-nil (map frame_of sent)) ∙ ap (λ (f : Option (List ℕ)). map frame_of sent ++ one_if f) (sym e)
sent_one sent (Some message) frame e = map-append frame_of sent (message ∷ []) ∙ ap (λ (f : Option (List ℕ)). map frame_of sent ++ one_if f) (sym e)

pub said_one : (frames more : List (List ℕ)) → stuffed_line (frames ++ more) ≡ stuffed_line frames ++ stuffed_line more
said_one frames more = flat_map-append stuffed frames more
