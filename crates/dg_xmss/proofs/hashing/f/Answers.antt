use Rattle.std.proofs.Common.{List, ℕ, ◌++◌, ◌∙◌, ap}
use Rattle.sha2.specs.Sha256.{sha256}
use Rattle.dg_xmss.specs.Functions.{to_byte, f}
use Rattle.dg_xmss.proofs.hashing.f.Goals as goal

pub returns : goal.returns
unfolding f
returns c =
    let front : List ℕ = to_byte 0 32 in
    let one = c.update.ensures front c.begun-hasher.ensures in
    let two = c.update-2.ensures (front ++ c.as_slice.result.now) one in
    c.finalize.ensures (front ++ c.as_slice.result.now ++ c.as_slice-2.result.now) two
    ∙ ap (λ (xs : List ℕ). sha256 (front ++ xs ++ c.as_slice-2.result.now)) c.as_slice.ensures
    ∙ ap (λ (xs : List ℕ). sha256 (front ++ c.args.key.now ++ xs)) c.as_slice-2.ensures
