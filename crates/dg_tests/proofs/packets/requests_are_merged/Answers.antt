use Rattle.std.proofs.Common.{ap, sym, ◌∙◌}
use Rattle.std.proofs.lemmas.Bool.{true≢false}
use Rattle.std.specs.FinSet as set
use Rattle.dg_bits.proofs.SetLaws.{contains-none, contains-put}
use Rattle.dg_tests.proofs.packets.requests_are_merged.Goals as goal

-- the request asks for packet 5
pub new-serving-requires : goal.new-serving-requires
new-serving-requires g c = λ none.
    let asks = ap (λ s. set.contains s 5) c.set-3.ensures ∙ contains-put c.set-2.new.self 5 5 in
    true≢false (sym asks ∙ ap (λ s. set.contains s 5) none ∙ contains-none 5)
