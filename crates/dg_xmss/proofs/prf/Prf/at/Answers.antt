use Rattle.std.proofs.Common.{List, ℕ, ◌++◌, ◌∙◌, ap, sym, subst}
use Rattle.sha2.specs.Sha256.{sha256}
use Rattle.sha2.specs.Hashers.{Holds256}
use Rattle.dg_xmss.specs.Functions.{to_byte, prf}
use Rattle.dg_xmss.proofs.prf.Prf.at.Goals as goal

pub returns : goal.returns
unfolding prf
returns c =
    let front : List ℕ = to_byte 3 32 ++ c.args.self.now.seed.now in
    let held : Holds256 c.cloned-hasher.result front = subst (λ s. Holds256 s front) (sym c.cloned-hasher.ensures) c.requires in
    let one = c.update.ensures front held in
    c.finalize.ensures (front ++ c.as_slice.result.now) one
    ∙ ap (λ (xs : List ℕ). sha256 (front ++ xs)) (c.as_slice.ensures ∙ c.bytes.ensures)
