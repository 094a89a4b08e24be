use Rattle.std.proofs.Common.{◌≡◌, ◌∷◌, [], ◌++◌, ℕ, List, length, sym, ap, refl, ◌∙◌, arith, Err}
use Rattle.std.specs.Prelude.{codes}
use Rattle.std.proofs.lemmas.Bool.{eqb-true}
use Rattle.dg_object.specs.Object.{row_of, pages_for}
use Rattle.dg_volume.specs.Changes.{inject_refusal}
use Rattle.dg_volume.specs.Trails.{inject_trail}
use Rattle.dg_volume.proofs.BeginLemmas.{inject_begins}
use Rattle.dg_end.specs.Texts.{numbers, line}
use Rattle.dg_end.specs.Conversions.{end_of_mount}
use Rattle.dg_end.specs.declared.ends.End.TheVariants as ends
use Rattle.dg_tool.specs.Verbs.{inject_ending_by}
use Rattle.dg_tool.specs.Input.{end_of_image}
use Rattle.dg_tool.proofs.BoardLemmas.{some_of}
use Rattle.dg_tool.proofs.InputLemmas.{at_fed, fed_nothing}
use Rattle.dg_tool.proofs.TrailLemmas.{trail_unmounted, trail_first}
use Rattle.dg_tool.proofs.InjectLemmas.{Injected, inject_needs, inject_kept, inject_wants, inject_fails, fed_inject, unfed_inject, inject_sized}
use Rattle.dg_tool.proofs.injecting.inject_first.Goals as goal

pub returns-then-is_empty-clause-done : goal.returns-then-is_empty-clause-done
returns-then-is_empty-clause-done g c = fed_nothing g.N.Nor.device c.args.boards.now _ _ _ _ _ (eqb-true _ _ (sym c.is_empty.ensures ∙ c.if-is_empty.true))

pub returns-in_err-bytes-clause-done : goal.returns-in_err-bytes-clause-done
returns-in_err-bytes-clause-done g c =
    at_fed _ c.from_residual.result (end_of_image c.in_err-bytes.field-0.0) _ _ _ _ _ c.from_residual.ensures.1
    (unfed_inject g.N.Nor.device c.args.boards.now (row_of c.args.image c.args.version c.args.name.now) _ c.in_err-bytes.field-0.0 _ _ (some_of _ (sym c.is_empty.ensures ∙ c.if-is_empty.false)) c.in_err-bytes.ensures.read)

pub returns-in_err-volume-clause-done : goal.returns-in_err-volume-clause-done
returns-in_err-volume-clause-done g c =
    let rows = row_of c.args.image c.args.version c.args.name.now in
    let row = rows c.in_ok-bytes.bytes.items in
    let x = c.in_err-volume in
    let some = some_of _ (sym c.is_empty.ensures ∙ c.if-is_empty.false) in
    at_fed _ c.from_residual-in_err-volume.result (end_of_mount x.field-0.0) _ _ _ _ _ c.from_residual-in_err-volume.ensures.1
    (fed_inject g.N.Nor.device c.args.boards.now rows (λ image. image.items) c.in_ok-bytes.bytes _ _ _ _ some c.in_ok-bytes.ensures.read
    (trail_unmounted g.N.Nor.device c.args.boards.now _ _ _ (λ s. inject_ending_by row (inject_refusal s row)) (λ s. inject_trail s row) some (λ s. inject_needs row (inject_refusal s row))
    (λ s. inject_begins s row) x.field-0.0 (λ e. x.ensures.stopped (ap (λ f. Err f) e)) (λ e. x.ensures.not_a_volume (ap (λ f. Err f) e)) (λ e. x.ensures.refused (ap (λ f. Err f) e))))

pub returns-in-Err-clause-done : goal.returns-in-Err-clause-done
returns-in-Err-clause-done g c =
    let rows = row_of c.args.image c.args.version c.args.name.now in
    let row = rows c.in_ok-bytes.bytes.items in
    let x = c.in-Err in
    let m = c.in_ok-volume.ensures in
    let kept = rw c.deref.ensures.value at x.ensures.ends in
    let size : c.len.result ≡ length c.in_ok-bytes.bytes.items = omega (arith, c.len.ensures, c.deref.ensures.len, ap (λ (b : List ℕ). length b) c.deref.ensures.value) in
    let some = some_of _ (sym c.is_empty.ensures ∙ c.if-is_empty.false) in
    fed_inject g.N.Nor.device c.args.boards.now rows (λ image. image.items) c.in_ok-bytes.bytes _ _ _ _ some c.in_ok-bytes.ensures.read
    (trail_first g.N.Nor.device c.args.boards.now _ _ _ (λ s. inject_ending_by row (inject_refusal s row)) (λ s. inject_trail s row) some (λ s. inject_needs row (inject_refusal s row))
    _ _ c.in_ok-volume.volume m.looked m.same_image m.volume m.mounted
    (λ s there.
    inject_sized c.len.result _ _ x.fault (Injected s row _ _) size c.end_of_injection.ensures
    (inject_fails s row _ _ ℕ x.fault (kept s there).allowed (λ other. (kept s there).refused x.fault refl other) (λ other more. (x.ensures.unchanged x.fault refl other more).0) (λ e. (x.ensures.taken (ap (λ f. Err f) e)).0) (λ e. (kept s there).stopped (ap (λ f. Err f) e)))))

pub returns-in_err-line-clause-done : goal.returns-in_err-line-clause-done
returns-in_err-line-clause-done g c =
    let rows = row_of c.args.image c.args.version c.args.name.now in
    let row = rows c.in_ok-bytes.bytes.items in
    let m = c.in_ok-volume.ensures in
    let kept = rw c.deref.ensures.value at c.in-Ok.ensures.ends in
    let some = some_of _ (sym c.is_empty.ensures ∙ c.if-is_empty.false) in
    at_fed _ c.from_residual-in_err-line.result ends.Memory _ _ _ _ _ c.from_residual-in_err-line.ensures.1
    (fed_inject g.N.Nor.device c.args.boards.now rows (λ image. image.items) c.in_ok-bytes.bytes _ _ _ _ some c.in_ok-bytes.ensures.read
    (trail_first g.N.Nor.device c.args.boards.now _ _ _ (λ s. inject_ending_by row (inject_refusal s row)) (λ s. inject_trail s row) some (λ s. inject_needs row (inject_refusal s row))
    _ _ c.in_ok-volume.volume m.looked m.same_image m.volume m.mounted
    (λ s there. inject_wants s row _ _ c.inject.new.self (kept s there).allowed (kept s there).acted)))

pub returns-clause-done : goal.returns-clause-done
returns-clause-done g c =
    let rows = row_of c.args.image c.args.version c.args.name.now in
    let row = rows c.in_ok-bytes.bytes.items in
    let m = c.in_ok-volume.ensures in
    let kept = rw c.deref.ensures.value at c.in-Ok.ensures.ends in
    let some = some_of _ (sym c.is_empty.ensures ∙ c.if-is_empty.false) in
    let count = c.from-pages.ensures ∙ c.in-Ok.ensures.pages ∙ ap (λ (b : List ℕ). pages_for (length b)) c.deref.ensures.value in
    fed_inject g.N.Nor.device c.args.boards.now rows (λ image. image.items) c.in_ok-bytes.bytes _ _ _ _ some c.in_ok-bytes.ensures.read
    (trail_first g.N.Nor.device c.args.boards.now _ _ _ (λ s. inject_ending_by row (inject_refusal s row)) (λ s. inject_trail s row) some (λ s. inject_needs row (inject_refusal s row))
    _ _ c.in_ok-volume.volume m.looked m.same_image m.volume m.mounted
    (λ s there.
    inject_kept s row _ _ c.inject.new.self c.in_ok-line.line.items (kept s there).allowed
    (c.in_ok-line.ensures ∙ ap (λ (n : ℕ). line (codes "have" ++ numbers (0 ∷ n ∷ c.args.version ∷ c.from-pages.result ∷ []))) c.from-number.ensures ∙ ap (λ (n : ℕ). line (codes "have" ++ numbers (0 ∷ c.args.image ∷ c.args.version ∷ n ∷ []))) count)
    (kept s there).acted))
