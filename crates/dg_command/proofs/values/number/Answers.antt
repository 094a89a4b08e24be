use Rattle.std.proofs.Common.{◌∙◌}
use Rattle.std.specs.Str.Parse.{ExplainsUnsignedError, HasUnsignedDigitsIfOk, ParsesUnsigned}
use Rattle.clap.proofs.WalkLemmas.{one_text-rows}
use Rattle.clap.specs.Words.{found_of, one_of, rows_of}
use Rattle.dg_command.specs.Values.{number_under}
use Rattle.dg_command.proofs.ReadLemmas.{number_from}
use Rattle.dg_command.proofs.values.number.Goals as goal

pub returns : goal.returns
unfolding number_under
returns c =
    let f = found_of c.args.matches.now in
    let name = c.args.name.now in
    c.unwrap_or.ensures ∙ number_from (λ bs r. ParsesUnsigned 32 10 bs r × ExplainsUnsignedError 10 bs r × HasUnsignedDigitsIfOk bs r) 32 (one_of name (rows_of f)) c.get_one.result
    (λ u x g. g.0) (λ none. c.get_one.ensures.none (one_text-rows f name ∙ none)) (λ t is. c.get_one.ensures.value t (one_text-rows f name ∙ is))
