-- When something of a mote is due.
use Rattle.std.proofs.Common.{◌≡◌, ℕ, zero, suc, ◌<◌, List, [], ◌∷◌, length, Option, Some, None, refl, subst, ap, arith}
use Rattle.std.specs.Prelude.{slice_get, slice_index_or, option_map}
use Rattle.dg_nor.specs.Device.{Device}
use Rattle.dg_mote.specs.Dues.{due_of}
use Rattle.dg_mote.specs.Model.{MoteState}
use Rattle.dg_mote.specs.Motes.{IsMote}
use Rattle.dg_volume.specs.Store.{Store}
use Rattle.dg_node.specs.declared.node.Node.{Node}
use Rattle.dg_rules.specs.World.{World as RuleWorld, Running, site, store_at}
use Rattle.dg_world.specs.Due.{due_at}
use Rattle.dg_world.specs.Worlds.{IsWorld, MoteStands}
use Rattle.dg_world.specs.declared.world.World.{World}

-- the node that the code keeps of a mote that is on stands for it
pub node_stands : (v : World) (boards : List Device) (d : Device) (w : RuleWorld) (m : ℕ) (node : Node) (r : Running) → IsWorld v boards w → m < length w.sites → slice_get boards m ≡ Some d → slice_index_or v.motes.items m None ≡ Some node → (site w m).runs ≡ Some r
    → IsMote d.image node.mote r.mote (store_at w m)
node_stands v boards d w m node r is low at kept runs =
    let there = (is.sites m d low at).mote in
    let by_code : MoteStands d.image (Some node) (store_at w m) (site w m).runs = subst (λ (o : Option Node). MoteStands d.image o (store_at w m) (site w m).runs) kept there in
    let by_both : MoteStands d.image (Some node) (store_at w m) (Some r) = subst (λ (o : Option Running). MoteStands d.image (Some node) (store_at w m) o) runs by_code in
    by_both.1

-- ---- when something is due

there_is : (ds : List Device) (m : ℕ) → m < length ds → (d : Device) × (slice_get ds m ≡ Some d)
there_is [] m l = absurd (omega (arith, l))
there_is (d ∷ ds) zero l = (d, refl)
there_is (d ∷ ds) (suc m) l = there_is ds m (omega (arith, l))

kept_stands : (v : World) (boards : List Device) (w : RuleWorld) (m : ℕ) (kept : Option Node) → IsWorld v boards w → m < length w.sites → slice_index_or v.motes.items m None ≡ kept
    → (c : List ℕ) × MoteStands c kept (store_at w m) (site w m).runs
kept_stands v boards w m kept is low here =
    let enough = is.boards_enough in
    let one = there_is boards m (omega (arith, low, enough)) in
    (one.0.image, subst (λ (o : Option Node). MoteStands one.0.image o (store_at w m) (site w m).runs) here (is.sites m one.0 low one.1).mote)

on_by : (c : List ℕ) (k : ℕ) (node : Node) (s : Store) (o : Option Running) → ((m : MoteState) → IsMote c node.mote m s → k ≡ due_of m s) → MoteStands c (Some node) s o → Some k ≡ option_map (λ r. due_of r.mote s) o
on_by c k node s None h stands = absurd stands
on_by c k node s (Some r) h stands = ap (λ (x : ℕ). Some x) (h r.mote stands.1)

off_by : (c : List ℕ) (s : Store) (o : Option Running) → MoteStands c None s o → None ≡ option_map (λ r. due_of r.mote s) o
off_by c s None stands = refl
off_by c s (Some r) stands = absurd stands

-- a mote that is on is due when its node is
pub due_on : (v : World) (boards : List Device) (w : RuleWorld) (m k : ℕ) (node : Node) → IsWorld v boards w → m < length w.sites → slice_index_or v.motes.items m None ≡ Some node
    → ((c : List ℕ) (x : MoteState) (s : Store) → IsMote c node.mote x s → k ≡ due_of x s) → Some k ≡ due_at w m
unfolding due_at
due_on v boards w m k node is low here due =
    let at = kept_stands v boards w m (Some node) is low here in
    on_by at.0 k node (store_at w m) (site w m).runs (λ x. due at.0 x (store_at w m)) at.1

-- nothing of one that is off is due
pub due_off : (v : World) (boards : List Device) (w : RuleWorld) (m : ℕ) → IsWorld v boards w → m < length w.sites → slice_index_or v.motes.items m None ≡ None → None ≡ due_at w m
unfolding due_at
due_off v boards w m is low here = let at = kept_stands v boards w m None is low here in off_by at.0 (store_at w m) (site w m).runs at.1
