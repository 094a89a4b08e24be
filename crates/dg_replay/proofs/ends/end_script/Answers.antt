use Rattle.std.proofs.Common.{◌∙◌, refl, sym}
use Rattle.dg_replay.proofs.EndLemmas.{short_ends, script_ends, finishes_in}
use Rattle.dg_replay.proofs.SeenLemmas.{reached_as}
use Rattle.dg_replay.proofs.ShownLemmas.{rested_same, rested_read}
use Rattle.dg_world.proofs.EndureLemmas.{rose_later}
use Rattle.dg_replay.proofs.ends.end_script.Goals as goal

pub finish-requires : goal.finish-requires
finish-requires g c = finishes_in c.args.player.now _ (sym c.end_fault.ensures ∙ c.in-None.is) c.requires

pub returns-in-Some-clause-ends : goal.returns-in-Some-clause-ends
returns-in-Some-clause-ends g c = λ table script input initial before faults below behind r.
    short_ends c.end_at_line.result script input _ c.in-Some.fault _ initial _ before _ _ _ ⊥ _ (rose_later faults _ _ below) (sym c.end_fault.ensures ∙ c.in-Some.is) behind (reached_as r) c.end_at_line.ensures.ends

pub returns-in-None-clause-ends : goal.returns-in-None-clause-ends
returns-in-None-clause-ends g c = λ table script input initial before faults below behind r.
    script_ends c.finish.result script input _ _ initial _ _ before _ _ _ ⊥ _ (rose_later faults _ _ below) (sym c.end_fault.ensures ∙ c.in-None.is) (reached_as r) c.finish.ensures.read (λ w is stands. c.finish.ensures.finishes w initial is stands)

pub returns-in-Some-clause-rested : goal.returns-in-Some-clause-rested
returns-in-Some-clause-rested g c = λ motes. rested_same motes _ _ refl

pub returns-in-None-clause-rested : goal.returns-in-None-clause-rested
returns-in-None-clause-rested g c = λ motes. rested_read motes _ _ c.finish.ensures.read
