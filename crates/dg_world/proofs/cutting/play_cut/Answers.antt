use Rattle.std.proofs.Common.{◌≡◌, ℕ, List, Option, ap, sym, ◌∙◌, subst, refl, Some}
use Rattle.std.specs.Prelude.{◌&&◌, not}
use Rattle.dg_nor.specs.Device.{Device}
use Rattle.dg_nor.specs.Fuse.{inner_of, fused_device}
use Rattle.dg_nor.proofs.FuseLemmas.{same_reference}
use Rattle.dg_volume.specs.Stands.{Stands}
use Rattle.dg_rules.specs.World.{Site, site}
use Rattle.dg_rules.specs.Events.{does, mote_of}
use Rattle.dg_world.specs.Worlds.{MoteStands, SiteStands, MayRun}
use Rattle.dg_node.specs.declared.node.Node.{Node}
use Rattle.dg_world.specs.inner.CutEnds.{ended, EventPlayed}
use Rattle.dg_node.specs.Hosts.{host}
use Rattle.dg_world.specs.inner.Outcomes.{as_outcome, ended_as}
use Rattle.dg_world.proofs.CutLemmas.{is_fused, fused, played_as}
use Rattle.dg_world.proofs.UnseenLemmas.{ended_on}
use Rattle.std.proofs.Common.{Ok}
use Rattle.dg_world.specs.inner.Sees.{EventSees, EventReads}
use Rattle.dg_node.specs.Known.{IsKnownChip}
use Rattle.dg_world.specs.declared.outcome.Power.TheVariants as power
use Rattle.dg_world.proofs.KnownLemmas.{reads_over, stays_done, when_ok}
use Rattle.dg_world.proofs.cutting.play_cut.Goals as goal

-- the fuse begins over the board's bytes
begun : (a d : Device) (v : Option Node) (x : Site) → d.image ≡ a.image → SiteStands a v x → SiteStands d v x
begun a d v x same stands = record {
  stands = subst (λ (c : List ℕ). Stands c x.store) (sym same) stands.stands;
  mote = subst (λ (c : List ℕ). MoteStands c v x.store x.runs) (sym same) stands.mote;
}

pub apply_apart-done-requires-clause-may : goal.apply_apart-done-requires-clause-may
apply_apart-done-requires-clause-may g c =
    let made = ap (λ (d : Device). d.image) c.fuse_of-fused.ensures.device in
    let o = c.args.context.now in
    let may = c.requires.may in
    record {
      kind = may.kind;
      here = may.here;
      mote = subst (λ (i : List ℕ). MayRun i o.moment c.args.runs.now) (sym made) may.mote;
      known = λ known. subst (λ (i : List ℕ). IsKnownChip i) (sym made) (may.known known);
    }

pub returns-clause-played : goal.returns-clause-played
returns-clause-played g c = λ w on.
    let device = g.N.Nor.device in
    let m = mote_of c.args.event.now in
    let cut = c.args.cut.now in
    let made = c.fuse_of-fused.ensures.device in
    let v = c.args.runs.now in
    let u = c.apply_apart-done.new.runs in
    let t = c.apply_apart-done.new.outcome in
    let name = sym (same_reference device c.fuse_of-fused.result c.apply_apart-done.new.board c.apply_apart-done.ensures.same_reference ∙ c.fuse_of-fused.ensures.same_reference) in
    let last = c.board-1.given.1 name in
    let here = begun (device c.args.board.now) _ v (site w m) (ap (λ (d : Device). d.image) made) on.stands in
    let f = is_fused device cut (device c.args.board.now) c.fuse_of-fused.result c.apply_apart-done.new.board _ c.requires.cut.counted made in
    let p = fused (as_outcome c.apply_apart-done.result t) cut w m (does w c.args.event.now) v u _ _ _ _ f (c.apply_apart-done.ensures.ends w (record { shared = on.shared; stands = here; moment = on.moment })) in
    let awake = c.is_stopped-stopped.ensures ∙ ap (λ (x : g.row.N.Denot). (device x).stopped) last in
    let e = c.end_outcome.ensures t
    ∙ ap (λ b. ended (b && not c.is_stopped-stopped.result) (as_outcome c.apply_apart-done.result t)) c.blown-blown.ensures
    ∙ ap (λ b. ended (c.apply_apart-done.new.board.blown && not b) (as_outcome c.apply_apart-done.result t)) awake in
    let P : g.row.N.Denot → Type 0 = λ x. EventPlayed (ended_as c.end_outcome.result t) w m (does w c.args.event.now) (Some cut) (host (device c.args.board.now) v) (host (device x) u) in
    subst P (sym last) (played_as (ended_as c.end_outcome.result t) _ (Some cut) (Some cut) w m (does w c.args.event.now) v u _ _ e refl p)

pub returns-clause-unseen : goal.returns-clause-unseen
returns-clause-unseen g c = λ w on unseen.
    let device = g.N.Nor.device in
    let made = c.fuse_of-fused.ensures.device in
    let name = sym (same_reference device c.fuse_of-fused.result c.apply_apart-done.new.board c.apply_apart-done.ensures.same_reference ∙ c.fuse_of-fused.ensures.same_reference) in
    let last = c.board-1.given.1 name in
    let here = begun (device c.args.board.now) _ c.args.runs.now (site w (mote_of c.args.event.now)) (ap (λ (d : Device). d.image) made) on.stands in
    let stays = c.apply_apart-done.ensures.unseen w (record { shared = on.shared; stands = here; moment = on.moment }) unseen in
    (last ∙ ap inner_of stays.0 ∙ c.fuse_of-fused.ensures.inner, ended_on c.end_outcome.result c.apply_apart-done.result _ c.apply_apart-done.new.outcome (c.end_outcome.ensures c.apply_apart-done.new.outcome) stays.1)

pub returns-clause-reads : goal.returns-clause-reads
returns-clause-reads g c =
    let device = g.N.Nor.device in
    let made = c.fuse_of-fused.ensures.device in
    let t = c.apply_apart-done.new.outcome in
    let name = sym (same_reference device c.fuse_of-fused.result c.apply_apart-done.new.board c.apply_apart-done.ensures.same_reference ∙ c.fuse_of-fused.ensures.same_reference) in
    let last = c.board-1.given.1 name in
    let y = c.apply_apart-done.new.board in
    let P : g.row.N.Denot → Type 0 = λ x. EventReads c.args.event.now c.args.context.now.known (c.end_outcome.result ≡ Ok power.Stays) t.refused (device c.args.board.now) (device x) in
    subst P (sym last)
    (reads_over c.args.event.now c.args.context.now.known _ (c.end_outcome.result ≡ Ok power.Stays) t.refused _ (fused_device device y) (device c.args.board.now) (device (inner_of y)) (λ is. stays_done c.end_outcome.result c.apply_apart-done.result _ t (c.end_outcome.ensures t) is)
    (ap (λ (d : Device). d.image) made) refl (ap (λ (d : Device). d.taken) made) refl c.apply_apart-done.ensures.reads)

pub returns-clause-sees : goal.returns-clause-sees
returns-clause-sees g c = λ is.
    let device = g.N.Nor.device in
    let made = c.fuse_of-fused.ensures.device in
    let t = c.apply_apart-done.new.outcome in
    let name = sym (same_reference device c.fuse_of-fused.result c.apply_apart-done.new.board c.apply_apart-done.ensures.same_reference ∙ c.fuse_of-fused.ensures.same_reference) in
    let last = c.board-1.given.1 name in
    let y = c.apply_apart-done.new.board in
    let u = c.apply_apart-done.new.runs in
    let P : g.row.N.Denot → Type 0 = λ x. EventSees c.args.event.now t u (device c.args.board.now).image (device x).image in
    let sees = when_ok c.apply_apart-done.result c.apply_apart-done.ensures.sees (stays_done c.end_outcome.result c.apply_apart-done.result _ t (c.end_outcome.ensures t) is) in
    subst P (sym last) (subst (λ (i : List ℕ). EventSees c.args.event.now t u i (device (inner_of y)).image) (ap (λ (d : Device). d.image) made) sees)
