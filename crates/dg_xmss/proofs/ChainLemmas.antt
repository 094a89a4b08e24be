-- Steps along a chain, and the ends of the chains as a public key.
use Rattle.std.proofs.Common.{◌≡◌, ℕ, suc, ◌+◌, ◌-◌, ◌<◌, ◌≤◌, List, [], length, get_or, ap, sym, ◌∙◌, arith}
use Rattle.dg_words.proofs.ListLemmas.{length-tabulate, get_or-tabulate}
use Rattle.dg_xmss.specs.Wots.{wots_chain, chain_step, chain_end, digits, wots_key, chains}
use Rattle.dg_xmss.specs.Trees.{ltree_nodes}
use Rattle.dg_xmss.specs.Signatures.{ots_of, chain_value}
use Rattle.dg_xmss.specs.Joining.{leaf_key, nodes_of}
use Rattle.dg_xmss.specs.declared.leaf.Leaf.{Leaf}

pub chain_none : (seed : List ℕ) (leaf i : ℕ) (x : List ℕ) (start : ℕ) → x ≡ wots_chain seed leaf i x start (start - start)
unfolding wots_chain
chain_none seed leaf i x start = ap (wots_chain seed leaf i x start) (let e : 0 ≡ start - start = omega arith in e)

pub chain_more : (seed : List ℕ) (leaf i : ℕ) (x : List ℕ) (start hash : ℕ) (node new : List ℕ) → start ≤ hash
    → node ≡ wots_chain seed leaf i x start (hash - start) → new ≡ chain_step seed leaf i hash node → new ≡ wots_chain seed leaf i x start (hash + 1 - start)
unfolding wots_chain
chain_more seed leaf i x start hash node new h e f =
    let s : ℕ = hash - start in
    let at : hash ≡ start + s = omega arith in
    let count : suc s ≡ hash + 1 - start = omega arith in
    f
    ∙ ap (chain_step seed leaf i hash) e
    ∙ ap (λ (k : ℕ). chain_step seed leaf i k (wots_chain seed leaf i x start s)) at
    ∙ ap (wots_chain seed leaf i x start) count

pub ots_at : (sig : List ℕ) (i : ℕ) → i < 67 → get_or (ots_of sig) i [] ≡ chain_value sig i
unfolding ots_of
ots_at sig i h = get_or-tabulate chains i (chain_value sig) [] h

pub key_at : (seed : List ℕ) (leaf : ℕ) (m : List ℕ) (sig : List (List ℕ)) (i : ℕ) → i < 67 → get_or (wots_key seed leaf m sig) i [] ≡ chain_end seed leaf m sig i
unfolding wots_key
key_at seed leaf m sig i h = get_or-tabulate chains i (chain_end seed leaf m sig) [] h

pub length-wots_key : (seed : List ℕ) (leaf : ℕ) (m : List ℕ) (sig : List (List ℕ)) → length (wots_key seed leaf m sig) ≡ 67
unfolding wots_key
length-wots_key seed leaf m sig = length-tabulate chains (chain_end seed leaf m sig)

pub chain_end_is : (seed : List ℕ) (leaf : ℕ) (m sig : List ℕ) (i j k d : ℕ) (node new : List ℕ) → i < 67 → j ≡ i → k ≡ i → node ≡ chain_value sig j
    → d ≡ get_or (digits m) k 0 → new ≡ wots_chain seed leaf i node d (15 - d) → new ≡ chain_end seed leaf m (ots_of sig) i
chain_end_is seed leaf m sig i j k d node new h e f g is made =
    let value : node ≡ get_or (ots_of sig) i [] = g ∙ ap (chain_value sig) e ∙ sym (ots_at sig i h) in
    let digit : d ≡ get_or (digits m) i 0 = is ∙ ap (λ (n : ℕ). get_or (digits m) n 0) f in
    made
    ∙ ap (λ (x : List ℕ). wots_chain seed leaf i x d (15 - d)) value
    ∙ ap (λ (n : ℕ). wots_chain seed leaf i (get_or (ots_of sig) i []) n (15 - n)) digit

pub length-leaf_key : (leaf : Leaf) → length (leaf_key leaf) ≡ 67
unfolding leaf_key
length-leaf_key leaf = length-wots_key leaf.prf.now.seed.now leaf.index leaf.digest.now (ots_of leaf.signature.now)

pub leaf_key_at : (leaf : Leaf) (i : ℕ) → i < 67
    → get_or (nodes_of leaf 0) i [] ≡ chain_end leaf.prf.now.seed.now leaf.index leaf.digest.now (ots_of leaf.signature.now) i
unfolding leaf_key ltree_nodes
leaf_key_at leaf i h = key_at leaf.prf.now.seed.now leaf.index leaf.digest.now (ots_of leaf.signature.now) i h
