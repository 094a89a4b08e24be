use Rattle.std.proofs.Common.{◌≡◌, ◌∙◌, ap, sym, subst, map, string_bytes}
use Rattle.std.proofs.lemmas.Result.{IfOk-weaker}
use Rattle.clap.specs.Words.{app_of, is_simple, is_simple_and_free, found_of, kind_of, rows_of}
use Rattle.dg_command.specs.Apps.{app_for}
use Rattle.dg_command.specs.Asking.{Asking, asking_of}
use Rattle.dg_command.specs.Bounds.{FitsRanges}
use Rattle.dg_command.specs.Verbs.{verb_in}
use Rattle.dg_command.proofs.AppLemmas.{plain_for, simple_for}
use Rattle.dg_command.proofs.AskLemmas.{takes_them, refuses_them}
use Rattle.dg_command.proofs.FitLemmas.{refused_fits, taken_fits}
use Rattle.dg_command.proofs.reading.asked.Goals as goal

pub returns-in-Ok-clause-answer : goal.returns-in-Ok-clause-answer
returns-in-Ok-clause-answer c =
    let words = map string_bytes c.args.words.now.items in
    let seen = map string_bytes c.as_slice.result.now in
    let same : seen ≡ words = ap (map string_bytes) c.as_slice.ensures.value in
    let verb : c.among-verb.result ≡ verb_in words = c.among-verb.ensures ∙ ap verb_in (ap (map string_bytes) c.deref.ensures.value) in
    let is : app_of c.in_ok-command.command ≡ app_for c.among-verb.result = c.in_ok-command.ensures in
    let none = c.in-Ok.ensures.kinds (ap is_simple_and_free is ∙ plain_for c.among-verb.result) in
    let found = c.in-Ok.ensures.matches (ap is_simple is ∙ simple_for c.among-verb.result) in
    IfOk-weaker c.taken.result _ _ (λ a says. takes_them c.among-verb.result words seen (app_of c.in_ok-command.command) (rows_of (found_of c.in-Ok.matches)) (asking_of a) verb is same none found.0 says) c.taken.ensures.taken

pub returns-in-Ok-clause-fits : goal.returns-in-Ok-clause-fits
returns-in-Ok-clause-fits c =
    let is : app_of c.in_ok-command.command ≡ app_for c.among-verb.result = c.in_ok-command.ensures in
    IfOk-weaker c.taken.result _ _ (λ a says. subst (λ (x : Asking). FitsRanges x) (sym says) (taken_fits c.among-verb.result c.in_ok-command.command c.in-Ok.matches is c.in-Ok.ensures.parsed)) c.taken.ensures.taken

pub returns-in-Err-clause-answer : goal.returns-in-Err-clause-answer
returns-in-Err-clause-answer c =
    let words = map string_bytes c.args.words.now.items in
    let seen = map string_bytes c.as_slice.result.now in
    let same : seen ≡ words = ap (map string_bytes) c.as_slice.ensures.value in
    let verb : c.among-verb.result ≡ verb_in words = c.among-verb.ensures ∙ ap verb_in (ap (map string_bytes) c.deref.ensures.value) in
    let is : app_of c.in_ok-command.command ≡ app_for c.among-verb.result = c.in_ok-command.ensures in
    let has = c.in-Err.ensures.kinds (ap is_simple_and_free is ∙ plain_for c.among-verb.result) in
    IfOk-weaker c.refused.result _ _ (λ a h. refuses_them c.among-verb.result words seen (app_of c.in_ok-command.command) c.in-Err.error (asking_of a) verb is same has h.1 h.0) c.refused.ensures.refused

pub returns-in-Err-clause-fits : goal.returns-in-Err-clause-fits
returns-in-Err-clause-fits c =
    IfOk-weaker c.refused.result _ _ (λ a h. subst (λ (x : Asking). FitsRanges x) (sym h.0) (refused_fits (kind_of c.in-Err.error))) c.refused.ensures.refused
