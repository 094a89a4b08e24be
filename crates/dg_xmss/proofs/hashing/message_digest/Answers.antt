use Rattle.std.proofs.Common.{◌≡◌, List, ℕ, ◌++◌, ◌∙◌, ap, append_assoc}
use Rattle.sha2.specs.Sha256.{sha256}
use Rattle.dg_xmss.specs.Functions.{to_byte, h_msg}
use Rattle.dg_xmss.proofs.hashing.message_digest.Goals as goal

joined : (front r root i m : List ℕ) → front ++ r ++ root ++ i ++ m ≡ front ++ (r ++ root ++ i) ++ m
joined front r root i m = ap (λ (xs : List ℕ). xs ++ m) (ap (λ (xs : List ℕ). xs ++ i) (append_assoc front r root) ∙ append_assoc front (r ++ root) i)

pub returns : goal.returns
unfolding h_msg
returns c =
    let front : List ℕ = to_byte 2 32 in
    let r : List ℕ = c.args.randomness.now in
    let i : List ℕ = to_byte c.args.index 32 in
    let m : List ℕ = c.args.message.now in
    let one = c.update.ensures front c.begun-hasher.ensures in
    let two = c.update-2.ensures (front ++ r) one in
    let three = c.update-3.ensures (front ++ r ++ c.as_slice.result.now) two in
    let four = c.update-4.ensures (front ++ r ++ c.as_slice.result.now ++ c.as_slice-2.result.now) three in
    c.finalize.ensures (front ++ r ++ c.as_slice.result.now ++ c.as_slice-2.result.now ++ m) four
    ∙ ap (λ (xs : List ℕ). sha256 (front ++ r ++ xs ++ c.as_slice-2.result.now ++ m)) c.as_slice.ensures
    ∙ ap (λ (xs : List ℕ). sha256 (front ++ r ++ c.args.root.now ++ xs ++ m)) (c.as_slice-2.ensures ∙ c.index_bytes.ensures)
    ∙ ap sha256 (joined front r c.args.root.now i m)
