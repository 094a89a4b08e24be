-- Nodes that stand for those of a network still do after an event at one of them.
use Rattle.std.proofs.Common.{◌≡◌, ℕ, ◌==◌, ◌&&◌, ◌<◌, Bool, true, false, cond, List, length, set, get_or, refl, ap, sym, ◌∙◌, subst}
use Rattle.std.proofs.lemmas.Bool.{eqb-true, eqb-false}
use Rattle.std.proofs.lemmas.List.{get_or-set_same, get_or-set_other, length-set}
use Rattle.dg_drip.specs.Sizes.{key_count}
use Rattle.dg_drip.specs.Cells.{empty_cell}
use Rattle.dg_drip.specs.Network.{Network, with_cell_at}
use Rattle.dg_drip.specs.Nodes.{Node, new_node, cell_of, with_cell}
use Rattle.dg_drip.specs.declared.node.Cell.{Cell}
use Rattle.dg_drip_replay.specs.Standing.{NetworkStands, node_at}
use Rattle.dg_drip_replay.specs.declared.network.DripNetwork.{DripNetwork}

-- ---- one cell changed

cell_with : (n : Node) (key k : ℕ) (c : Cell) (b : Bool) → (k == key) ≡ b → key < length n.cells → cell_of (with_cell n key c) k ≡ cond b c (cell_of n k)
cell_with n key k c true e h = ap (λ (j : ℕ). get_or (set n.cells key c) j (empty_cell 0 0)) (eqb-true k key e) ∙ get_or-set_same n.cells key c (empty_cell 0 0) h
cell_with n key k c false e h = get_or-set_other n.cells key k c (empty_cell 0 0) (eqb-false k key e)

node_with : (nodes : List Node) (at m : ℕ) (n : Node) (b : Bool) → (m == at) ≡ b → at < length nodes → node_at (set nodes at n) m ≡ cond b n (node_at nodes m)
node_with nodes at m n true e h = ap (λ (j : ℕ). get_or (set nodes at n) j (new_node 0 0 0)) (eqb-true m at e) ∙ get_or-set_same nodes at n (new_node 0 0 0) h
node_with nodes at m n false e h = get_or-set_other nodes at m n (new_node 0 0 0) (eqb-false m at e)

cells_with : (nodes : List Node) (old : Cell) (at key m k : ℕ) (c : Cell) (s t : Bool) → (m == at) ≡ s → (k == key) ≡ t → at < length nodes → key < length (node_at nodes at).cells
    → cell_of (node_at nodes m) k ≡ old → cell_of (node_at (set nodes at (with_cell (node_at nodes at) key c)) m) k ≡ cond (s && t) c old
cells_with nodes old at key m k c true true e f h l is =
    ap (λ (n : Node). cell_of n k) (node_with nodes at m (with_cell (node_at nodes at) key c) true e h) ∙ cell_with (node_at nodes at) key k c true f l
cells_with nodes old at key m k c true false e f h l is =
    ap (λ (n : Node). cell_of n k) (node_with nodes at m (with_cell (node_at nodes at) key c) true e h)
    ∙ cell_with (node_at nodes at) key k c false f l
    ∙ ap (λ (x : ℕ). cell_of (node_at nodes x) k) (sym (eqb-true m at e))
    ∙ is
cells_with nodes old at key m k c false t e f h l is = ap (λ (n : Node). cell_of n k) (node_with nodes at m (with_cell (node_at nodes at) key c) false e h) ∙ is

id_with : (nodes : List Node) (at m key : ℕ) (c : Cell) (s : Bool) → (m == at) ≡ s → at < length nodes → (node_at nodes m).id ≡ m → (node_at (set nodes at (with_cell (node_at nodes at) key c)) m).id ≡ m
id_with nodes at m key c true e h is =
    ap (λ (n : Node). n.id) (node_with nodes at m (with_cell (node_at nodes at) key c) true e h) ∙ ap (λ (x : ℕ). (node_at nodes x).id) (sym (eqb-true m at e)) ∙ is
id_with nodes at m key c false e h is = ap (λ (n : Node). n.id) (node_with nodes at m (with_cell (node_at nodes at) key c) false e h) ∙ is

long_with : (nodes : List Node) (at m key : ℕ) (c : Cell) (s : Bool) → (m == at) ≡ s → at < length nodes → length (node_at nodes m).cells ≡ key_count
    → length (node_at (set nodes at (with_cell (node_at nodes at) key c)) m).cells ≡ key_count
long_with nodes at m key c true e h is =
    ap (λ (n : Node). length n.cells) (node_with nodes at m (with_cell (node_at nodes at) key c) true e h)
    ∙ length-set (node_at nodes at).cells key c
    ∙ ap (λ (x : ℕ). length (node_at nodes x).cells) (sym (eqb-true m at e))
    ∙ is
long_with nodes at m key c false e h is = ap (λ (n : Node). length n.cells) (node_with nodes at m (with_cell (node_at nodes at) key c) false e h) ∙ is

-- ---- the network

-- what happened at a node and a key is what happens there in the network
pub stands_with : (d e : DripNetwork) (w v : Network) (at key : ℕ) (c : Cell) → NetworkStands d w → at < length d.nodes.items → key < key_count
    → e.nodes.items ≡ set d.nodes.items at (with_cell (node_at d.nodes.items at) key c) → v.cells ≡ with_cell_at w.cells at key c
    → e.moment ≡ v.moment → e.links.items ≡ v.links → e.sent.items ≡ v.sent → NetworkStands e v
stands_with d e w v at key c s h l nodes cells moment links sent =
    let many : length e.nodes.items ≡ length d.nodes.items = ap length nodes ∙ length-set d.nodes.items at (with_cell (node_at d.nodes.items at) key c) in
    let long : key < length (node_at d.nodes.items at).cells = subst (λ (n : ℕ). key < n) (sym (s.long at h)) l in
    record {
      moment = moment;
      links = links;
      sent = sent;
      long = λ m within. ap (λ (ns : List Node). length (node_at ns m).cells) nodes ∙ long_with d.nodes.items at m key c (m == at) refl h (s.long m (subst (λ (n : ℕ). m < n) many within));
      ids = λ m within. ap (λ (ns : List Node). (node_at ns m).id) nodes ∙ id_with d.nodes.items at m key c (m == at) refl h (s.ids m (subst (λ (n : ℕ). m < n) many within));
      cells = λ m k within small.
          ap (λ (ns : List Node). cell_of (node_at ns m) k) nodes
          ∙ cells_with d.nodes.items (w.cells m k) at key m k c (m == at) (k == key) refl refl h long (s.cells m k (subst (λ (n : ℕ). m < n) many within) small)
          ∙ ap (λ (f : ℕ → ℕ → Cell). f m k) (sym cells);
    }
