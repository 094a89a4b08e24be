use Rattle.std.proofs.Common.{◌≡◌, sym, subst, ◌∙◌, ap}
use Rattle.dg_drip.specs.Entries.{IsAtMost}
use Rattle.dg_drip.specs.Network.{Network, start, run, entry_at}
use Rattle.dg_drip_script.specs.Scripts.{drip_events_of, network_of}
use Rattle.dg_drip_run.proofs.ScriptLemmas.{run_then}
use Rattle.dg_drip_run.proofs.laws.values_spread.Goals as goal

pub returns-clause-greatest : goal.returns-clause-greatest
returns-clause-greatest c = λ s node key. c.the_greatest_is_kept.ensures.greatest s.links (drip_events_of s.items) node key

pub returns-clause-rises : goal.returns-clause-rises
returns-clause-rises c = λ s front back node key parts.
    let w : Network = run (start s.links) front in
    let whole : network_of s ≡ run w back = ap (run (start s.links)) parts ∙ run_then (start s.links) front back in
    subst (λ (v : Network). IsAtMost (entry_at w node key) (entry_at v node key)) (sym whole) (c.the_greatest_is_kept.ensures.never_falls w back node key)

pub returns-clause-made : goal.returns-clause-made
returns-clause-made c = λ s node key. c.the_greatest_is_kept.ensures.made s.links (drip_events_of s.items) node key

pub returns-clause-rounds : goal.returns-clause-rounds
returns-clause-rounds c = λ s front back a b key below parts. c.a_round_raises.ensures s.links front a b key below

pub returns-clause-sweeps : goal.returns-clause-sweeps
returns-clause-sweeps c = λ s front rest back h key e below parts within near rounds greatest node less.
    ap (λ (v : Network). entry_at v node key) (run_then (start s.links) front rest) ∙ c.sweeps_bring_the_greatest.ensures s.nodes h s.links front rest key e below within near rounds greatest node less
