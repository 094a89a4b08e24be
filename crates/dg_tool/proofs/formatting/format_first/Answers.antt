use Rattle.std.proofs.Common.{◌≡◌, ℕ, List, length, sym, ap, ◌∙◌, ⊎_elim, inl, inr, arith, Err}
use Rattle.std.proofs.lemmas.Bool.{eqb-true}
use Rattle.dg_end.specs.declared.ends.End.TheVariants as ends
use Rattle.dg_tool.specs.Input.{end_of_image}
use Rattle.dg_tool.proofs.BoardLemmas.{some_of}
use Rattle.dg_volume.specs.declared.volume.FormatFault.TheVariants as format
use Rattle.dg_tool.specs.Done.{IsFormatted, FormattingStops}
use Rattle.dg_tool.proofs.InputLemmas.{at_fed, fed_nothing, err_inner, ok_unlike}
use Rattle.dg_tool.proofs.StartLemmas.{Formatted, format_made, format_wants, format_fails, format_sizes, fed_format, unfed_format}
use Rattle.dg_tool.proofs.formatting.format_first.Goals as goal

pub returns-then-is_empty-clause-done : goal.returns-then-is_empty-clause-done
returns-then-is_empty-clause-done g c = fed_nothing g.N.Nor.device c.args.boards.now _ _ _ _ _ (eqb-true _ _ (sym c.is_empty.ensures ∙ c.if-is_empty.true))

pub returns-in_err-golden-clause-done : goal.returns-in_err-golden-clause-done
returns-in_err-golden-clause-done g c =
    at_fed _ c.from_residual.result (end_of_image c.in_err-golden.field-0.0) _ _ _ _ _ c.from_residual.ensures.1
    (unfed_format g.N.Nor.device c.args.boards.now c.args.name.now c.args.used c.args.form _ c.in_err-golden.field-0.0 _ _ (some_of _ (sym c.is_empty.ensures ∙ c.if-is_empty.false)) c.in_err-golden.ensures.read)

pub returns-in-Err-clause-done : goal.returns-in-Err-clause-done
returns-in-Err-clause-done g c =
    let golden = c.in_ok-golden.golden in
    let x = c.in-Err in
    let empty = rw c.deref.ensures.value at x.ensures.empty in
    let large = rw c.deref.ensures.value at x.ensures.too_large in
    let first = rw c.deref.ensures.value at x.ensures.golden_first in
    let halted = rw c.deref.ensures.value at x.ensures.halted in
    let size : c.len.result ≡ length golden.items = omega (arith, c.len.ensures, c.deref.ensures.len, ap (λ (b : List ℕ). length b) c.deref.ensures.value) in
    fed_format g.N.Nor.device c.args.boards.now _ _ c.args.name.now c.args.used c.args.form (λ image. image.items) golden _ _ _ (some_of _ (sym c.is_empty.ensures ∙ c.if-is_empty.false)) c.in_ok-golden.ensures.read
    (format_sizes c.len.result _ _ x.fault (Formatted c.args.used golden.items (IsFormatted c.args.name.now golden.items c.args.used c.args.form) (FormattingStops c.args.name.now golden.items c.args.used) _ _) size c.end_of_format.ensures
    (format_fails c.args.used golden.items (IsFormatted c.args.name.now golden.items c.args.used c.args.form) (FormattingStops c.args.name.now golden.items c.args.used) _ _ x.fault
    (λ e. empty.0 (ap (λ f. Err f) e)) (λ none. err_inner {T = Unit {0}} x.fault format.Empty (empty.1 none)) (λ e. large.0 (ap (λ f. Err f) e)) (λ more. err_inner {T = Unit {0}} x.fault format.TooLarge (large.1 more))
    (λ e. x.ensures.refused (⊎_elim (λ p. inl (ap (λ f. Err f) p)) (λ p. inr (ap (λ f. Err f) p)) e))
    (λ e. record { halted = halted (ap (λ f. Err f) e); golden_first = first (ap (λ f. Err f) e) })
    (λ e. let s = x.ensures.stopped (ap (λ f. Err f) e) in record { stopped = s.stopped; cause = s.cause })))

pub returns-in_err-line-clause-done : goal.returns-in_err-line-clause-done
returns-in_err-line-clause-done g c =
    let golden = c.in_ok-golden.golden in
    let x = c.in-Ok.ensures in
    let empty = rw c.deref.ensures.value at x.empty in
    let large = rw c.deref.ensures.value at x.too_large in
    let formatted = rw c.deref.ensures.value at x.formatted in
    let ran = rw c.deref.ensures.value at x.ran in
    at_fed _ c.from_residual-in_err-line.result ends.Memory _ _ _ _ _ c.from_residual-in_err-line.ensures.1
    (fed_format g.N.Nor.device c.args.boards.now _ _ c.args.name.now c.args.used c.args.form (λ image. image.items) golden _ _ _ (some_of _ (sym c.is_empty.ensures ∙ c.if-is_empty.false)) c.in_ok-golden.ensures.read
    (format_wants c.args.used golden.items (IsFormatted c.args.name.now golden.items c.args.used c.args.form) (FormattingStops c.args.name.now golden.items c.args.used) _ _
    (λ none. ok_unlike _ _ (empty.1 none)) (λ more. ok_unlike _ _ (large.1 more)) (record { ran = ran; stands = formatted; written = x.form })))

pub returns-clause-done : goal.returns-clause-done
returns-clause-done g c =
    let golden = c.in_ok-golden.golden in
    let x = c.in-Ok.ensures in
    let empty = rw c.deref.ensures.value at x.empty in
    let large = rw c.deref.ensures.value at x.too_large in
    let formatted = rw c.deref.ensures.value at x.formatted in
    let ran = rw c.deref.ensures.value at x.ran in
    fed_format g.N.Nor.device c.args.boards.now _ _ c.args.name.now c.args.used c.args.form (λ image. image.items) golden _ _ _ (some_of _ (sym c.is_empty.ensures ∙ c.if-is_empty.false)) c.in_ok-golden.ensures.read
    (format_made c.args.used golden.items (IsFormatted c.args.name.now golden.items c.args.used c.args.form) (FormattingStops c.args.name.now golden.items c.args.used) _ _ c.in_ok-line.line.items
    (λ none. ok_unlike _ _ (empty.1 none)) (λ more. ok_unlike _ _ (large.1 more)) c.in_ok-line.ensures (record { ran = ran; stands = formatted; written = x.form }))
