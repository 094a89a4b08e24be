-- An event at the board at an index.
use Rattle.std.proofs.Common.{◌≡◌, ℕ, ◌+◌, ◌<◌, List, length, get_or, set, map, ap, sym, ◌∙◌, subst}
use Rattle.std.specs.Prelude.{true, slice_get, slice_index_or, Option, Some, None, Result}
use Rattle.std.proofs.lemmas.List.{map-set, get_or-set_same, get_or_read}
use Rattle.dg_base.specs.declared.events.Event.{Event}
use Rattle.dg_mote.specs.declared.outbox.Outbox.{Outbox}
use Rattle.dg_nor.specs.Device.{Device}
use Rattle.dg_rules.specs.World.{World, site, wide_at}
use Rattle.dg_rules.specs.Events.{mote_of, dt_of}
use Rattle.dg_world.specs.Worlds.{SiteStands, MayRun}
use Rattle.dg_world.specs.Alone.{IsReset, PlaysAlone, Powers}
use Rattle.dg_world.specs.declared.outcome.Fault.{Fault}
use Rattle.dg_node.specs.declared.node.Node.{Node}
use Rattle.dg_world.proofs.PlaceLemmas.{got_or}
use Rattle.dg_serve.specs.Standings.{PlayedAt, at_mote}

module _ {N : Type 0} (device : N → Device) (r : Result Outbox Fault) (event : Event) (now i : ℕ) (motes : List (Option Node)) (boards : List N) (v u : Option Node) (a b : N) (many : i < length motes) (wide : i < length boards) (ran : v ≡ get_or motes i v) (stood : a ≡ get_or boards i a) (at : mote_of event ≡ i) (plays : (w : World) → SiteStands (device a) v (site w (mote_of event)) → mote_of event < length w.sites → now ≡ w.moment + dt_of event → wide_at w (mote_of event) ≡ true → PlaysAlone r w event u (device a) (device b)) (powers : IsReset event → Powers r (device a) (device b)) where
  ran_is : slice_index_or motes i None ≡ v
  ran_is = sym (get_or_read motes i v many ran None)

  runs_is : slice_index_or (set motes i u) i None ≡ u
  runs_is = get_or-set_same motes i u None many

  played_here : PlayedAt r event i now (at_mote v (map device boards)) (at_mote u (map device (set boards i b)))
  played_here = record {
    before = device a;
    after = device b;
    was = got_or device boards i a wide ∙ ap (λ x. Some (device x)) (sym stood);
    put = map-set device boards i b;
    plays = λ w stands known moment wide_there. plays w (subst (λ m. SiteStands (device a) v (site w m)) (sym at) stands) (subst (λ m. m < length w.sites) (sym at) known) moment (subst (λ m. wide_at w m ≡ true) (sym at) wide_there);
    powers = powers;
  }

  pub played_at : (mote : ℕ) → i ≡ mote → PlayedAt r event mote now (at_mote (slice_index_or motes mote None) (map device boards)) (at_mote (slice_index_or (set motes i u) mote None) (map device (set boards i b)))
  played_at mote same =
      let P : ℕ → Option Node → Option Node → Type 0 = λ m x y. PlayedAt r event m now (at_mote x (map device boards)) (at_mote y (map device (set boards i b))) in
      subst (λ m. P m (slice_index_or motes m None) (slice_index_or (set motes i u) m None)) same (subst (λ x. P i x (slice_index_or (set motes i u) i None)) (sym ran_is) (subst (λ y. P i v y) (sym runs_is) played_here))

-- the mote at the index may run
pub may_run : {N : Type 0} (device : N → Device) (now i mote : ℕ) (motes : List (Option Node)) (boards : List N) (v : Option Node) (a : N) → i < length motes → i < length boards → v ≡ get_or motes i v → a ≡ get_or boards i a → i ≡ mote
    → ((d : Device) → slice_get (map device boards) mote ≡ Some d → MayRun d.image now (slice_index_or motes mote None)) → MayRun (device a).image now v
may_run device now i mote motes boards v a many enough ran stood same may =
    let was : slice_get (map device boards) i ≡ Some (device a) = got_or device boards i a enough ∙ ap (λ x. Some (device x)) (sym stood) in
    let there : slice_get (map device boards) mote ≡ Some (device a) = subst (λ m. slice_get (map device boards) m ≡ Some (device a)) same was in
    let here : slice_index_or motes mote None ≡ v = subst (λ m. slice_index_or motes m None ≡ v) same (sym (get_or_read motes i v many ran None)) in
    subst (λ o. MayRun (device a).image now o) here (may (device a) there)

-- what ran at the mote is put back there
pub put_at : (i mote : ℕ) (motes : List (Option Node)) (u : Option Node) → i < length motes → i ≡ mote → set motes i u ≡ set motes mote (slice_index_or (set motes i u) mote None)
put_at i mote motes u many same =
    subst (λ m. set motes i u ≡ set motes m (slice_index_or (set motes i u) m None)) same (ap (λ x. set motes i x) (sym (get_or-set_same motes i u None many)))
