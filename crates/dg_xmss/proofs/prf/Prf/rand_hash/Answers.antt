use Rattle.std.proofs.Common.{List, ℕ, ◌++◌, ◌∙◌, ap, append_assoc}
use Rattle.sha2.specs.Sha256.{sha256}
use Rattle.dg_xmss.specs.Functions.{to_byte, xor, h, prf}
use Rattle.dg_xmss.specs.Addresses.{address_of}
use Rattle.dg_xmss.specs.Trees.{rand_hash}
use Rattle.dg_xmss.proofs.prf.Prf.rand_hash.Goals as goal

pub returns : goal.returns
unfolding rand_hash h
returns c =
    let front : List ℕ = to_byte 1 32 in
    let seed : List ℕ = c.args.self.now.seed.now in
    let key : List ℕ = prf seed (address_of c.args.address 0) in
    let left : List ℕ = xor c.args.left.now (prf seed (address_of c.args.address 1)) in
    let right : List ℕ = xor c.args.right.now (prf seed (address_of c.args.address 2)) in
    let k : List ℕ = c.as_slice.result.now in
    let l : List ℕ = c.as_slice-2.result.now in
    let r : List ℕ = c.as_slice-3.result.now in
    let one = c.update.ensures front c.begun-hasher.ensures in
    let two = c.update-2.ensures (front ++ k) one in
    let three = c.update-3.ensures (front ++ k ++ l) two in
    c.finalize.ensures (front ++ k ++ l ++ r) three
    ∙ ap (λ (xs : List ℕ). sha256 (front ++ xs ++ l ++ r)) (c.as_slice.ensures ∙ c.at-key.ensures)
    ∙ ap (λ (xs : List ℕ). sha256 (front ++ key ++ xs ++ r)) (c.as_slice-2.ensures ∙ c.lay_over.ensures ∙ ap (xor c.args.left.now) c.at-mask.ensures)
    ∙ ap (λ (xs : List ℕ). sha256 (front ++ key ++ left ++ xs)) (c.as_slice-3.ensures ∙ c.lay_over-2.ensures ∙ ap (xor c.args.right.now) c.at-mask-2.ensures)
    ∙ ap sha256 (append_assoc (front ++ key) left right)
