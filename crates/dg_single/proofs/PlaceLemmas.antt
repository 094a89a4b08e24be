-- An event at the board of a mote, among any others.
use Rattle.std.proofs.Common.{◌≡◌, ℕ, zero, suc, ◌+◌, ◌<◌, List, [], ◌∷◌, length, get_or, set, refl, ap, sym, subst}
use Rattle.std.specs.Prelude.{true, slice_get, slice_index_or, Option, Some, None, Result}
use Rattle.std.proofs.lemmas.List.{get_or-set_same, get_or_read}
use Rattle.dg_base.specs.declared.events.Event.{Event}
use Rattle.dg_mote.specs.declared.outbox.Outbox.{Outbox}
use Rattle.dg_nor.specs.Device.{Device}
use Rattle.dg_rules.specs.World.{World, site, wide_at}
use Rattle.dg_rules.specs.Events.{mote_of, dt_of}
use Rattle.dg_world.specs.Worlds.{SiteStands, MayRun}
use Rattle.dg_world.specs.Alone.{IsReset, PlaysAlone, Powers}
use Rattle.dg_world.specs.declared.outcome.Fault.{Fault}
use Rattle.dg_node.specs.declared.node.Node.{Node}
use Rattle.dg_serve.specs.Standings.{PlayedAt, at_mote}
use Rattle.dg_serve.proofs.EventLemmas.{same_of}

module _ (r : Result Outbox Fault) (event : Event) (now i : ℕ) (motes : List (Option Node)) (v u : Option Node) (a b : Device) (many : i < length motes) (ran : v ≡ get_or motes i v) (plays : (w : World) → SiteStands a v (site w (mote_of event)) → mote_of event < length w.sites → now ≡ w.moment + dt_of event → wide_at w (mote_of event) ≡ true → PlaysAlone r w event u a b) (powers : IsReset event → Powers r a b) where
  ran_is : slice_index_or motes i None ≡ v
  ran_is = sym (get_or_read motes i v many ran None)

  runs_is : slice_index_or (set motes i u) i None ≡ u
  runs_is = get_or-set_same motes i u None many

  played_here : (boards : List Device) → slice_get boards i ≡ Some a → mote_of event ≡ i → PlayedAt r event i now (at_mote v boards) (at_mote u (set boards i b))
  played_here boards was at = record {
    before = a;
    after = b;
    was = was;
    put = refl;
    plays = λ w stands known moment wide_there. plays w (subst (λ m. SiteStands a v (site w m)) (sym at) stands) (subst (λ m. m < length w.sites) (sym at) known) moment (subst (λ m. wide_at w m ≡ true) (sym at) wide_there);
    powers = powers;
  }

  pub played_over : (mote : ℕ) → i ≡ mote → (boards : List Device) → slice_get boards mote ≡ Some a → mote_of event ≡ mote → PlayedAt r event mote now (at_mote (slice_index_or motes mote None) boards) (at_mote (slice_index_or (set motes i u) mote None) (set boards mote b))
  played_over mote same boards =
      let P : ℕ → Option Node → Option Node → Type 0 = λ m x y. PlayedAt r event m now (at_mote x boards) (at_mote y (set boards m b)) in
      subst (λ m. slice_get boards m ≡ Some a → mote_of event ≡ m → P m (slice_index_or motes m None) (slice_index_or (set motes i u) m None)) same
      (λ was at. subst (λ x. P i x (slice_index_or (set motes i u) i None)) (sym ran_is) (subst (λ y. P i v y) (sym runs_is) (played_here boards was at)))

-- the mote at the index may run
pub may_run : (now i mote : ℕ) (motes : List (Option Node)) (v : Option Node) (a : Device) → i < length motes → v ≡ get_or motes i v → i ≡ mote → MayRun a.image now (slice_index_or motes mote None) → MayRun a.image now v
may_run now i mote motes v a many ran same may =
    let here : slice_index_or motes mote None ≡ v = subst (λ m. slice_index_or motes m None ≡ v) same (sym (get_or_read motes i v many ran None)) in
    subst (λ o. MayRun a.image now o) here may

-- what ran at the mote is put back there
pub put_back : (i mote : ℕ) (motes : List (Option Node)) (u : Option Node) → i < length motes → i ≡ mote → set motes i u ≡ set motes mote (slice_index_or (set motes i u) mote None)
put_back i mote motes u many same =
    subst (λ m. set motes i u ≡ set motes m (slice_index_or (set motes i u) m None)) same (ap (λ x. set motes i x) (sym (get_or-set_same motes i u None many)))

-- a board is put back as it was
pub put_same : (boards : List Device) (i : ℕ) (d : Device) → slice_get boards i ≡ Some d → set boards i d ≡ boards
put_same [] i d was = refl
put_same (x ∷ xs) zero d was = ap (λ y. y ∷ xs) (sym (same_of (Some x) x d refl was))
put_same (x ∷ xs) (suc i) d was = ap (λ l. x ∷ l) (put_same xs i d was)
