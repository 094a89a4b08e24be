-- Nodes that keep nothing.
use Rattle.std.proofs.Common.{◌≡◌, ℕ, ◌+◌, ◌<◌, List, [], ◌∷◌, ◌++◌, length, get_or, length-append, inl, inr, refl, ap, sym, ◌∙◌, arith}
use Rattle.std.proofs.lemmas.Bool.{cases_lt}
use Rattle.std.proofs.lemmas.List.{get_or_append_left, get_or-replicate, length-replicate}
use Rattle.std.proofs.Math.Seq.{get_or-append_seam}
use Rattle.dg_drip.specs.Sizes.{key_count}
use Rattle.dg_drip.specs.Cells.{empty_cell}
use Rattle.dg_drip.specs.Network.{start}
use Rattle.dg_drip.specs.Nodes.{Node, new_node, cell_of}
use Rattle.dg_drip_replay.specs.Standing.{NetworkStands, node_at}
use Rattle.dg_drip_replay.specs.declared.network.DripNetwork.{DripNetwork}

-- this many nodes are new
pub record AreNew (nodes : List Node) (count : ℕ) : Type 0 where
  pub many : length nodes ≡ count
  pub each : (m : ℕ) → m < length nodes → node_at nodes m ≡ new_node m 0 0

pub new_none : AreNew [] 0
new_none = record { many = refl; each = λ m within. absurd (omega arith) }

pub new_more : (nodes : List Node) (id : ℕ) (n : Node) → AreNew nodes id → n ≡ new_node id 0 0 → AreNew (nodes ++ n ∷ []) (id + 1)
new_more nodes id n a is = record {
  many = omega (arith, length-append nodes (n ∷ []), a.many);
  each = λ m within.
      elim (cases_lt m (length nodes)) [
        | inl h ↦ get_or_append_left nodes (n ∷ []) (new_node 0 0 0) m h ∙ a.each m h
        | inr h ↦
            let at : m ≡ length nodes = omega (arith, length-append nodes (n ∷ []), within, h) in
            ap (λ (j : ℕ). get_or (nodes ++ n ∷ []) j (new_node 0 0 0)) at
            ∙ get_or-append_seam nodes n [] (new_node 0 0 0)
            ∙ is
            ∙ ap (λ (i : ℕ). new_node i 0 0) (sym a.many ∙ sym at)
      ];
}

pub stands_start : (d : DripNetwork) (count : ℕ) → AreNew d.nodes.items count → d.moment ≡ 0 → d.links.items ≡ [] → d.sent.items ≡ [] → NetworkStands d (start [])
stands_start d count a moment links sent = record {
  moment = moment;
  links = links;
  sent = sent;
  long = λ m within. ap (λ (n : Node). length n.cells) (a.each m within) ∙ length-replicate key_count (empty_cell 0 0);
  ids = λ m within. ap (λ (n : Node). n.id) (a.each m within);
  cells = λ m k within small. ap (λ (n : Node). cell_of n k) (a.each m within) ∙ get_or-replicate key_count k (empty_cell 0 0) (empty_cell 0 0) small;
}
