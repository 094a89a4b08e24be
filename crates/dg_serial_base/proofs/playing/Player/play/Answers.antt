use Rattle.std.proofs.Common.{ℕ, List, ◌∷◌, [], ◌++◌, ap, sym, ◌∙◌, append-nil}
use Rattle.dg_serial.specs.Reading.{items_told}
use Rattle.dg_serial.specs.declared.unstuffing.Fed.{Fed}
use Rattle.dg_serial_base.specs.BaseEvents.{Hears, Ticks}
use Rattle.dg_serial_base.specs.inner.Standing.{base_events_of_items}
use Rattle.dg_serial_base.proofs.LineLemmas.{went_along, goes_along}
use Rattle.dg_serial_base.proofs.playing.Player.play.Goals as goal

pub returns-in-More-clause-ends : goal.returns-in-More-clause-ends
returns-in-More-clause-ends g c = λ a done went.
    went_along a done (done ++ base_events_of_items (items_told c.args.fed.now)) _ (sym (append-nil done) ∙ ap (λ (f : Fed). done ++ base_events_of_items (items_told f)) (sym c.in-More.is)) went

pub returns-in-Frame-clause-ends : goal.returns-in-Frame-clause-ends
returns-in-Frame-clause-ends g c = λ a done went.
    goes_along c.play_frame.result a (done ++ Hears c.as_slice.result.now ∷ Ticks ∷ []) (done ++ base_events_of_items (items_told c.args.fed.now)) _
    (ap (λ (x : List ℕ). done ++ Hears x ∷ Ticks ∷ []) c.as_slice.ensures.value ∙ ap (λ (f : Fed). done ++ base_events_of_items (items_told f)) (sym c.in-Frame.is))
    (c.play_frame.ensures.ends a done went)

pub returns-in-Escape-clause-ends : goal.returns-in-Escape-clause-ends
returns-in-Escape-clause-ends g c = λ a done went.
    goes_along c.pass.result a (done ++ Ticks ∷ []) (done ++ base_events_of_items (items_told c.args.fed.now)) _ (ap (λ (f : Fed). done ++ base_events_of_items (items_told f)) (sym c.in-Escape.is)) (c.pass.ensures.ends a done went)

pub returns-in-Long-clause-ends : goal.returns-in-Long-clause-ends
returns-in-Long-clause-ends g c = λ a done went.
    goes_along c.pass-in-Long.result a (done ++ Ticks ∷ []) (done ++ base_events_of_items (items_told c.args.fed.now)) _ (ap (λ (f : Fed). done ++ base_events_of_items (items_told f)) (sym c.in-Long.is)) (c.pass-in-Long.ensures.ends a done went)
