use Rattle.std.proofs.Common.{◌≤◌, ℕ, List, [], ◌∷◌, length, ap, sym, subst, ◌∙◌, append-nil}
use Rattle.std.specs.Prelude.{Option, IfSome}
use Rattle.dg_base.specs.Outside.{Puts}
use Rattle.dg_base.specs.Sizes.{longest_frame}
use Rattle.dg_serial.specs.Line.{stuffed, stuffed_line, IsOnLine}
use Rattle.dg_serial_base.specs.inner.Standing.{SendEnds, one_if}
use Rattle.dg_serial_base.proofs.WriteLemmas.{puts_nothing, on_line}
use Rattle.dg_serial_base.proofs.sending.send.Goals as goal

pub write_frame-requires-clause-some : goal.write_frame-requires-clause-some
write_frame-requires-clause-some g c =
    subst (λ (x : List ℕ). 1 ≤ length x) (sym c.as_slice.ensures.value) (subst (λ (o : Option (List ℕ)). IfSome o (λ f. 1 ≤ length f)) (sym c.in-Some.ensures) c.requires)

pub write_frame-requires-clause-most : goal.write_frame-requires-clause-most
write_frame-requires-clause-most g c = c.as_slice.ensures.fits

pub returns-in-None-clause-sends : goal.returns-in-None-clause-sends
returns-in-None-clause-sends g c =
    let w = g.K.Sink.written c.args.out.now in
    subst (λ (o : Option (List ℕ)). Puts w w (stuffed_line (one_if o))) c.in-None.ensures (puts_nothing w)

pub returns-in-Some-clause-sends : goal.returns-in-Some-clause-sends
returns-in-Some-clause-sends g c =
    let x = c.as_slice.result.now in
    subst (λ (text : List ℕ). SendEnds c.write_frame.result text (g.K.Sink.written c.args.out.now) (g.K.Sink.written c.write_frame.new.out))
    (sym (append-nil (stuffed x)) ∙ ap (λ (f : List ℕ). stuffed_line (f ∷ [])) c.as_slice.ensures.value ∙ ap (λ (o : Option (List ℕ)). stuffed_line (one_if o)) c.in-Some.ensures)
    c.write_frame.ensures.sends

pub returns-in-None-clause-fits : goal.returns-in-None-clause-fits
returns-in-None-clause-fits g c = subst (λ (o : Option (List ℕ)). IfSome o IsOnLine) c.in-None.ensures tt

pub returns-in-Some-clause-fits : goal.returns-in-Some-clause-fits
returns-in-Some-clause-fits g c =
    let frame = c.as_slice.result.now in
    let some : 1 ≤ length frame = subst (λ (x : List ℕ). 1 ≤ length x) (sym c.as_slice.ensures.value) (subst (λ (o : Option (List ℕ)). IfSome o (λ f. 1 ≤ length f)) (sym c.in-Some.ensures) c.requires) in
    subst (λ (o : Option (List ℕ)). IfSome o IsOnLine) c.in-Some.ensures (subst IsOnLine c.as_slice.ensures.value (on_line frame some c.as_slice.ensures.fits))
