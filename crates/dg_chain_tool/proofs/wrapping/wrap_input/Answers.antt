use Rattle.std.proofs.Common.{◌++◌, List, ℕ, ap, ◌∙◌, Err}
use Rattle.std.specs.Prelude.{codes}
use Rattle.dg_base.specs.Hexadecimal.{hex_text}
use Rattle.dg_ihex.specs.Written.{written_file}
use Rattle.dg_end.specs.Texts.{line}
use Rattle.dg_end.specs.Conversions.{end_of_wrap}
use Rattle.dg_end.specs.declared.ends.End.TheVariants as ends
use Rattle.dg_tool.specs.Input.{end_of_image}
use Rattle.dg_chain_tool.specs.Verbs.{wrap_by}
use Rattle.dg_chain_tool.specs.inner.Words.{wrapped_text}
use Rattle.dg_chain_tool.proofs.WrapLemmas.{fed_none, fed_wants, fed_made, fed_fault, at_text}
use Rattle.dg_chain_tool.proofs.wrapping.wrap_input.Goals as goal

pub returns-in_err-payload-clause-done : goal.returns-in_err-payload-clause-done
returns-in_err-payload-clause-done g c = at_text _ c.from_residual.result (end_of_image c.in_err-payload.field-0.0) wrap_by _ _ c.from_residual.ensures.1 (fed_none _ wrap_by c.in_err-payload.field-0.0 _ _ c.in_err-payload.ensures.read)

pub returns-in_err-wrapped-clause-done : goal.returns-in_err-wrapped-clause-done
returns-in_err-wrapped-clause-done g c =
    let x = c.in_err-wrapped in
    let fault = x.field-0.0 in
    let empty = rw c.deref.ensures.value at x.ensures.empty in
    let large = rw c.deref.ensures.value at x.ensures.too_large in
    at_text _ c.from_residual-in_err-wrapped.result (end_of_wrap fault) wrap_by _ _ c.from_residual-in_err-wrapped.ensures.1
    (fed_fault (λ image. image.items) c.in_ok-payload.payload fault _ _ c.in_ok-payload.ensures.read (λ e. empty.0 (ap (λ f. Err f) e)) (λ n e. (large n).0 (ap (λ f. Err f) e)))

pub returns-in_err-text-clause-done : goal.returns-in_err-text-clause-done
returns-in_err-text-clause-done g c =
    at_text _ c.from_residual-in_err-text.result ends.Memory wrap_by _ _ c.from_residual-in_err-text.ensures.1 (fed_wants (λ image. image.items) wrap_by c.in_ok-payload.payload _ _ c.in_ok-payload.ensures.read)

pub returns-clause-done : goal.returns-clause-done
returns-clause-done g c =
    let payload = rw c.deref.ensures.value at c.in_ok-wrapped.ensures.payload in
    let told = c.in_ok-text.ensures ∙ ap (λ (r : List ℕ). line (codes "root " ++ hex_text r) ++ written_file c.in_ok-wrapped.wrapped.image) c.in_ok-wrapped.ensures.root ∙ ap (λ (i : List ℕ). line (codes "root " ++ hex_text (Rattle.dg_chain.specs.Chain.root_of c.deref.result.now)) ++ written_file i) c.in_ok-wrapped.ensures.image ∙ ap wrapped_text c.deref.ensures.value in
    fed_made (λ image. image.items) c.in_ok-payload.payload c.in_ok-text.text.items _ _ c.in_ok-payload.ensures.read payload told
