use Rattle.std.proofs.Common.{◌<◌, ◌≤◌, length, ap, refl, sym, subst, ◌∙◌, inr, arith}
use Rattle.std.specs.Prelude.{Ok, Err}
use Rattle.dg_script.specs.Sizes.{most_used_bytes}
use Rattle.dg_input.specs.declared.ReadStop.TheVariants as read
use Rattle.dg_end.specs.declared.ends.End.TheVariants as ends
use Rattle.dg_outside.specs.Outside.{input_of}
use Rattle.dg_serve.proofs.NetworkLemmas.{read_stopped, read_long, read_profile, read_refused, text_ended, err_not}
use Rattle.dg_serve.proofs.network.read_network.Goals as goal

pub returns-in_err-text-clause-read : goal.returns-in_err-text-clause-read
returns-in_err-text-clause-read g c =
    let t = c.in_err-text.ensures.taken in
    read_stopped c.from_residual.result t.0 (input_of (g.S.Source, c.args.input.now)) (input_of (g.S.Source, c.read_whole.new.source)) t.1 t.2 c.in_err-text.field-0.0 c.from_residual.ensures.1 (λ is. c.in_err-text.ensures.failed (ap (λ e. Err e) is)) (λ other. c.in_err-text.ensures.unfailed (err_not _ c.in_err-text.field-0.0 refl other))

pub returns-then-len-gt-USED-clause-read : goal.returns-then-len-gt-USED-clause-read
returns-then-len-gt-USED-clause-read g c =
    let t = c.in_ok-text.ensures.taken in
    let n = ap length t.3 in
    read_long (Err ends.TooLong) t.0 (input_of (g.S.Source, c.args.input.now)) (input_of (g.S.Source, c.read_whole.new.source)) t.1 t.2 (text_ended _ t.0 _ t.3 c.in_ok-text.ensures.ended) (c.in_ok-text.ensures.unfailed (λ e. cc)) refl (omega (arith, n, c.len.ensures, c.if-len-gt-USED.true))

pub returns-in_err-profile-clause-read : goal.returns-in_err-profile-clause-read
returns-in_err-profile-clause-read g c =
    let t = c.in_ok-text.ensures.taken in
    let n = ap length t.3 in
    let shown = c.deref.ensures.value ∙ t.3 in
    read_refused c.from_residual-in_err-profile.result t.0 (input_of (g.S.Source, c.args.input.now)) (input_of (g.S.Source, c.read_whole.new.source)) t.1 t.2 (text_ended _ t.0 _ t.3 c.in_ok-text.ensures.ended) (c.in_ok-text.ensures.unfailed (λ e. cc)) c.deref.result.now shown c.in_err-profile.field-0.0 c.from_residual-in_err-profile.ensures.1 (omega (arith, n, c.len.ensures, c.if-len-gt-USED.false)) c.in_err-profile.ensures.value

pub returns-clause-read : goal.returns-clause-read
returns-clause-read g c =
    let t = c.in_ok-text.ensures.taken in
    let n = ap length t.3 in
    let shown = c.deref.ensures.value ∙ t.3 in
    read_profile (Ok c.in_ok-profile.profile) t.0 (input_of (g.S.Source, c.args.input.now)) (input_of (g.S.Source, c.read_whole.new.source)) t.1 t.2 (text_ended _ t.0 _ t.3 c.in_ok-text.ensures.ended) (c.in_ok-text.ensures.unfailed (λ e. cc)) c.deref.result.now shown c.in_ok-profile.profile refl (omega (arith, n, c.len.ensures, c.if-len-gt-USED.false)) c.in_ok-profile.ensures.value
