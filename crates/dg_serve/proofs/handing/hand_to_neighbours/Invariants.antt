use Rattle.std.proofs.Common.{◌≡◌, ◌∷◌, [], if◌then◌else◌, option_map}
use Rattle.dg_script.specs.Places.{is_linked}
use Rattle.dg_serve.specs.Each.{each}
use Rattle.dg_serve.specs.Services.{handed_to}
use Rattle.dg_serve.proofs.handing.hand_to_neighbours.Given as goal

abbrev pub invariant-loop-other : goal.invariant-loop-other
invariant-loop-other g l = record {
  addressees : g.L.Link.mote_count l.link ≡ l.profile.motes;
  port : g.L.Link.first_port l.link ≡ g.L.Link.first_port l.initial.link;
  failures : g.L.Link.faults l.link ≡ g.L.Link.faults l.initial.link;
  handed : g.L.Link.inboxes l.link ≡ option_map (handed_to (each l.other (λ k. if is_linked l.profile.links l.mote k then k ∷ [] else [])) l.frame) (g.L.Link.inboxes l.initial.link);
}
