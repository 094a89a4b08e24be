use Rattle.std.proofs.Common.{◌≡◌, List, ℕ, ◌++◌, ◌∙◌, ap}
use Rattle.dg_xmss.specs.Functions.{to_byte, h_msg}
use Rattle.dg_xmss.specs.Wots.{wots_key}
use Rattle.dg_xmss.specs.Trees.{ltree, path_root, root_from_sig}
use Rattle.dg_xmss.specs.Joining.{leaf_key}
use Rattle.dg_xmss.specs.Signatures.{signature_root, message_digest, ots_of, path_of, randomness_of}
use Rattle.dg_xmss.proofs.ByteLemmas.{part_at}
use Rattle.dg_xmss.proofs.verifying.signature_root.Goals as goal

pub returns : goal.returns
unfolding signature_root root_from_sig message_digest leaf_key
returns c =
    let key = c.args.key.now in
    let m : List ℕ = c.args.message.now in
    let sig : List ℕ = c.args.signature.now in
    let i : ℕ = c.args.index in
    let seed : List ℕ = c.new-prf.result.seed.now in
    let digest : List ℕ = c.message_digest-digest.result in
    let is : digest ≡ message_digest key.root m sig =
    c.message_digest-digest.ensures
    ∙ ap (λ (r : List ℕ). h_msg (r ++ key.root ++ to_byte i 32) m) (part_at sig 4 32)
    ∙ ap (λ (n : ℕ). h_msg (randomness_of sig ++ key.root ++ to_byte n 32) m) c.requires.index in
    c.climb.ensures
    ∙ ap (λ (x : List ℕ). path_root seed 0 i x (path_of sig)) c.ltree.ensures
    ∙ ap (λ (s : List ℕ). path_root s 0 i (ltree s i (wots_key s i digest (ots_of sig))) (path_of sig)) c.new-prf.ensures.seed
    ∙ ap (λ (d : List ℕ). root_from_sig key.seed i (ots_of sig) (path_of sig) d) is
    ∙ ap (λ (n : ℕ). root_from_sig key.seed n (ots_of sig) (path_of sig) (message_digest key.root m sig)) c.requires.index
